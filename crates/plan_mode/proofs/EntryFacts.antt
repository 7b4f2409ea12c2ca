-- Rows and their entries, one after another.
use Rattle.std.proofs.Common.{◌≡◌, ℕ, ◌+◌, List, [], ◌∷◌, ◌++◌, length, take, arith, eq-eqb, add-zero, ap, refl, sym, subst, ◌∙◌}
use Rattle.std.proofs.lemmas.List.Folds.{list_any-append}
use Rattle.std.proofs.lemmas.List.{append-nil, take_all}
use Rattle.std.proofs.lemmas.Grind.{flat_map-append}
use Rattle.std.proofs.Math.Bool.{or-false}
use Rattle.std.specs.Prelude.{◌||◌, ◌==◌, Bool, false}
use Rattle.order_reader.specs.declared.rows.Row.{Row}
use Rattle.plan_entries.specs.declared.entries.Entry.{Entry}
use Rattle.plan_entries.specs.Entries.{any_refused, is_refused}
use Rattle.plan_mode.specs.Entries.{IsEntryOf, AreEntriesFrom, AreEntriesOf, AreFirstEntriesOf}
use Rattle.plan_entries.specs.declared.entries.Entry.TheVariants.{Planned, Refused}
use Rattle.plan_mode.specs.Pieces.{IsTailOf, IsPieceOf, ArePieces, joined, done_if}
use Rattle.report_text.specs.Reports.{done_text}

-- there are as many entries as rows
pub as_many : (n : ℕ) (rs : List Row) (es : List Entry) → AreEntriesFrom n rs es → length es ≡ length rs
as_many n [] [] are = refl
as_many n [] (e ∷ es) are = absurd are
as_many n (r ∷ rs) [] are = absurd are
as_many n (r ∷ rs) (e ∷ es) are = omega (arith, as_many (n + 1) rs es are.1)

-- one more row has one more entry
pub entries-more : (n : ℕ) (rs : List Row) (es : List Entry) (r : Row) (e : Entry) → AreEntriesFrom n rs es → IsEntryOf (n + length rs) r e → AreEntriesFrom n (rs ++ r ∷ []) (es ++ e ∷ [])
entries-more n [] [] r e so_far more = (rw (add-zero n) at more, tt)
entries-more n [] (f ∷ es) r e so_far more = absurd so_far
entries-more n (q ∷ rs) [] r e so_far more = absurd so_far
entries-more n (q ∷ rs) (f ∷ es) r e so_far more =
    let shift : n + 1 + length rs ≡ n + length (q ∷ rs) = omega arith in
    (so_far.0, entries-more (n + 1) rs es r e so_far.1 (rw shift more))

-- the entries of all rows are those of the first rows
pub all-first : (rows : List Row) (es : List Entry) → AreEntriesOf rows es → AreFirstEntriesOf rows es
all-first rows es are =
    let same : take (length es) rows ≡ rows = take_all (length es) rows (omega (arith, as_many 1 rows es are)) in
    subst (λ (rs : List Row). AreEntriesFrom 1 rs es) (sym same) are

-- entries of the first i rows, by their number
pub first-of : (rows : List Row) (i : ℕ) (es : List Entry) → length es ≡ i → AreEntriesFrom 1 (take i rows) es → AreFirstEntriesOf rows es
first-of rows i es count are = subst (λ k. AreEntriesFrom 1 (take k rows) es) (sym count) are

pub any-more : (es : List Entry) (e : Entry) → any_refused (es ++ e ∷ []) ≡ (any_refused es || is_refused e)
any-more es e = list_any-append is_refused es (e ∷ []) ∙ ap (λ b. any_refused es || b) (or-false (is_refused e))

-- one more entry has one more piece
pub pieces-more : (draw : Bool) (es : List Entry) (ts : List (List ℕ)) (e : Entry) (t : List ℕ) → ArePieces draw es ts → IsPieceOf draw e t → ArePieces draw (es ++ e ∷ []) (ts ++ t ∷ [])
pieces-more draw [] [] e t are one = (one, tt)
pieces-more draw [] (u ∷ ts) e t are one = absurd are
pieces-more draw (f ∷ es) [] e t are one = absurd are
pieces-more draw (f ∷ es) (u ∷ ts) e t are one = (are.0, pieces-more draw es ts e t are.1 one)

pub joined-more : (ts : List (List ℕ)) (t : List ℕ) → joined (ts ++ t ∷ []) ≡ joined ts ++ t
joined-more ts t = flat_map-append (λ (piece : List ℕ). piece) ts (t ∷ []) ∙ ap (λ u. joined ts ++ u) (append-nil t)

-- no entries are those of no rows
pub none-first : (rows : List Row) → AreFirstEntriesOf rows []
none-first rows = tt

-- where each row has its entry, the last line stands
pub done-begun : (n : ℕ) (es : List Entry) → length es ≡ n → done_if (length es == n) n ≡ done_text n
done-begun n es same = ap (λ b. done_if b n) (eq-eqb (length es) n same)

-- where no drawings are asked for, nothing stands behind the text of an entry
pub no_tail : (e : Entry) → IsTailOf false e []
no_tail (Planned p) = refl
no_tail (Refused n fault) = refl
