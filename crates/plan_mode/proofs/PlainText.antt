-- The text of a report without drawings.
use Rattle.std.proofs.Common.{◌≡◌, ℕ, Bool, true, false, List, [], ◌∷◌, ◌++◌, length, refl, ap, ◌∙◌}
use Rattle.std.proofs.lemmas.List.{append-nil}
use Rattle.cert_text.specs.declared.forms.Form.TheVariants.{Two}
use Rattle.plan_entries.specs.declared.entries.Entry.{Entry}
use Rattle.plan_entries.specs.declared.entries.Entry.TheVariants.{Planned, Refused}
use Rattle.report_text.specs.Text.{entry_text}
use Rattle.report_text.specs.Reports.{head_text, done_text, entries_text}
use Rattle.plan_mode.specs.Pieces.{IsTailOf, IsPieceOf, ArePieces, IsPlainReport, joined, head_of}

no_tail : (e : Entry) (tail : List ℕ) → IsTailOf false e tail → tail ≡ []
no_tail (Planned p) tail is = is
no_tail (Refused n fault) tail is = is

plain_piece : (e : Entry) (t : List ℕ) → IsPieceOf false e t → t ≡ entry_text Two e
plain_piece e t piece =
    piece.piece_is ∙ ap (λ tail. entry_text Two e ++ tail) (no_tail e piece.tail piece.is_tail) ∙ append-nil (entry_text Two e)

plain_pieces : (es : List Entry) (ts : List (List ℕ)) → ArePieces false es ts → joined ts ≡ entries_text Two es
plain_pieces [] [] are = refl
plain_pieces [] (t ∷ ts) are = absurd are
plain_pieces (e ∷ es) [] are = absurd are
plain_pieces (e ∷ es) (t ∷ ts) are =
    ap (λ x. x ++ joined ts) (plain_piece e t are.0) ∙ ap (λ x. entry_text Two e ++ x) (plain_pieces es ts are.1)

pub plain : (draw : Bool) (es : List Entry) (ts : List (List ℕ)) (text : List ℕ) → ArePieces draw es ts
    → text ≡ head_of draw ++ (joined ts ++ done_text (length es)) → IsPlainReport draw es text
plain true es ts text are is = tt
plain false es ts text are is = is ∙ ap (λ x. head_text Two ++ (x ++ done_text (length es))) (plain_pieces es ts are)
