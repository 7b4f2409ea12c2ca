-- The text of a choice, piece by piece.
use Rattle.std.proofs.Common.{◌≡◌, ℕ, ◌+◌, ◌<◌, List, [], ◌∷◌, ◌++◌, length, map, get_or, take, sym, ap, ◌∙◌, append_assoc}
use Rattle.std.proofs.lemmas.List.{append-nil, take_more, map-append}
use Rattle.std.proofs.lemmas.List.Concat.{flat_map-append}
use Rattle.texts.specs.Lines.{ended, text_of}
use Rattle.pallet_choice.specs.declared.choices.Score.{Score}
use Rattle.pallet_choice.specs.Text.{bound_told, rival_line}

abbrev pub rivals_text : List Score → List ℕ
rivals_text scores = text_of (map rival_line (map bound_told scores))

-- one rival more behind others
pub rivals_more : (start out new : List ℕ) (i : ℕ) (scores : List Score) (d : Score) → i < length scores → out ≡ start ++ rivals_text (take i scores) → new ≡ out ++ ended (rival_line (bound_told (get_or scores i d))) → new ≡ start ++ rivals_text (take (i + 1) scores)
rivals_more start out new i scores d lt before now =
    let line = ended (rival_line (bound_told (get_or scores i d))) in
    let one : rivals_text (take (i + 1) scores) ≡ rivals_text (take i scores) ++ line =
    ap rivals_text (take_more scores i d lt) ∙ ap (λ (rs : List (ℕ × ℕ)). text_of (map rival_line rs)) (map-append bound_told (take i scores) (get_or scores i d ∷ []))
    ∙ ap text_of (map-append rival_line (map bound_told (take i scores)) (bound_told (get_or scores i d) ∷ [])) ∙ flat_map-append ended (map rival_line (map bound_told (take i scores))) (rival_line (bound_told (get_or scores i d)) ∷ [])
    ∙ ap (λ (t : List ℕ). rivals_text (take i scores) ++ t) (append-nil line) in
    now ∙ ap (λ (t : List ℕ). t ++ line) before ∙ append_assoc start (rivals_text (take i scores)) line ∙ ap (λ (t : List ℕ). start ++ t) (sym one)
