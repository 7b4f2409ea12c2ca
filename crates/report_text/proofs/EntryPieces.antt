-- The text of an entry, piece by piece.
use Rattle.std.proofs.Common.{◌≡◌, ℕ, List, [], ◌∷◌, ◌++◌, refl, sym, ap, ◌∙◌}
use Rattle.std.specs.Prelude.{codes}
use Rattle.std.proofs.lemmas.List.Concat.{flat_map-cons, flat_map-append}
use Rattle.texts.specs.Lines.{ended, text_of}
use Rattle.report_text.specs.LineTexts.{end_line}

both : (a b : List (List ℕ)) (t : List ℕ) → text_of b ≡ t → text_of a ++ t ≡ text_of (a ++ b)
both a b t e = ap (λ (x : List ℕ). text_of a ++ x) (sym e) ∙ sym (flat_map-append ended a b)

pub plan_text : (number : List ℕ) (front cert layers answer : List (List ℕ)) → ended number ++ (text_of front ++ (text_of cert ++ (text_of layers ++ (text_of answer ++ codes "end\n")))) ≡ text_of (number ∷ (front ++ (cert ++ (layers ++ (answer ++ end_line ∷ [])))))
plan_text number front cert layers answer =
    let a1 = both answer (end_line ∷ []) (codes "end\n") refl in
    let a2 = both layers (answer ++ end_line ∷ []) (text_of answer ++ codes "end\n") (sym a1) in
    let a3 = both cert (layers ++ (answer ++ end_line ∷ [])) (text_of layers ++ (text_of answer ++ codes "end\n")) (sym a2) in
    let a4 = both front (cert ++ (layers ++ (answer ++ end_line ∷ []))) (text_of cert ++ (text_of layers ++ (text_of answer ++ codes "end\n"))) (sym a3) in
    ap (λ (x : List ℕ). ended number ++ x) a4 ∙ sym (flat_map-cons ended number (front ++ (cert ++ (layers ++ (answer ++ end_line ∷ [])))))
