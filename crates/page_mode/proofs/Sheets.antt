-- The sheets of entries one after another, and the pieces of a page.
use Rattle.std.proofs.Common.{◌≡◌, ◌∙◌, ℕ, suc, ◌+◌, List, [], ◌∷◌, ◌++◌, length, take, ap, refl, sym, arith, append_assoc}
use Rattle.std.specs.List.{concat}
use Rattle.std.proofs.lemmas.List.{append-nil}
use Rattle.std.proofs.lemmas.List.Folds.{concat-append}
use Rattle.plan_entries.specs.declared.entries.Entry.{Entry}
use Rattle.page_text.specs.Page.{top_text, sheet_text, closing_text, sheets_from, pieces_of, page_of}

-- the sheets of entries behind others go on with their numbers
pub sheets-append : (n : ℕ) (xs ys : List Entry) → sheets_from n (xs ++ ys) ≡ sheets_from n xs ++ sheets_from (length xs + n) ys
sheets-append n [] ys = ap (λ m. sheets_from m ys) (omega arith)
sheets-append n (x ∷ xs) ys =
    ap (λ l. sheet_text n x ∷ l) (sheets-append (n + 1) xs ys ∙ ap (λ m. sheets_from (n + 1) xs ++ sheets_from m ys) (omega arith))

pub sheets-parts : (n : ℕ) (xs ys : List Entry) → concat (sheets_from n (xs ++ ys)) ≡ concat (sheets_from n xs) ++ concat (sheets_from (length xs + n) ys)
sheets-parts n xs ys = ap concat (sheets-append n xs ys) ∙ concat-append (sheets_from n xs) (sheets_from (length xs + n) ys)

pub sheets-more : (n : ℕ) (before : List Entry) (e : Entry) → concat (sheets_from n (before ++ e ∷ [])) ≡ concat (sheets_from n before) ++ sheet_text (length before + n) e
sheets-more n before e = sheets-parts n before (e ∷ []) ∙ ap (λ t. concat (sheets_from n before) ++ t) (append-nil (sheet_text (length before + n) e))

-- a page is its top, then its sheets, then its closing
pub page-is : (es : List Entry) → page_of es ≡ top_text ++ (concat (sheets_from 1 es) ++ closing_text es)
page-is es = ap (λ t. top_text ++ t) (concat-append (sheets_from 1 es) (closing_text es ∷ []) ∙ ap (λ t. concat (sheets_from 1 es) ++ t) (append-nil (closing_text es)))

-- the first sheets are pieces that stand behind the top
take-sheets : (n : ℕ) (xs ys : List Entry) (more : List (List ℕ)) → take (length xs) (sheets_from n (xs ++ ys) ++ more) ≡ sheets_from n xs
take-sheets n [] ys more = refl
take-sheets n (x ∷ xs) ys more = ap (λ l. sheet_text n x ∷ l) (take-sheets (n + 1) xs ys more)

pub first-pieces : (xs ys : List Entry) → concat (take (suc (length xs)) (pieces_of (xs ++ ys))) ≡ top_text ++ concat (sheets_from 1 xs)
first-pieces xs ys = ap (λ l. top_text ++ concat l) (take-sheets 1 xs ys (closing_text (xs ++ ys) ∷ []))
