-- The places of a number in one item more.
use Rattle.std.proofs.Common.{◌≡◌, ℕ, suc, zero, ◌+◌, ◌<◌, List, [], ◌∷◌, ◌++◌, length, get_or, take, sym, ap, ◌∙◌, append_assoc, arith, add-one}
use Rattle.std.proofs.lemmas.List.{append-nil}
use Rattle.page_stacks.specs.Places.{place_if, places_from, places_of}

places_suc : (asked place : ℕ) (ns : List ℕ) (i d : ℕ) → i < length ns → places_from asked place (take (suc i) ns) ≡ places_from asked place (take i ns) ++ place_if asked (place + i) (get_or ns i d)
places_suc asked place [] i d lt = absurd (omega arith)
places_suc asked place (n ∷ ns) zero d lt =
    let p : place ≡ place + 0 = omega arith in
    append-nil (place_if asked place n) ∙ ap (λ (k : ℕ). place_if asked k n) p
places_suc asked place (n ∷ ns) (suc i) d lt =
    let p : (place + 1) + i ≡ place + suc i = omega arith in
    ap (λ (t : List ℕ). place_if asked place n ++ t) (places_suc asked (place + 1) ns i d (omega arith) ∙ ap (λ (k : ℕ). places_from asked (place + 1) (take i ns) ++ place_if asked k (get_or ns i d)) p)
    ∙ sym (append_assoc (place_if asked place n) (places_from asked (place + 1) (take i ns)) (place_if asked (place + suc i) (get_or ns i d)))

-- the places found before in a loop, and that of one item more
pub places_more : (asked : ℕ) (old new : List ℕ) (i : ℕ) (ns : List ℕ) (d : ℕ) → i < length ns → old ≡ places_of asked (take i ns) → new ≡ old ++ place_if asked (i + 1) (get_or ns i d) → new ≡ places_of asked (take (i + 1) ns)
places_more asked old new i ns d lt before now =
    let n : i + 1 ≡ 1 + i = omega arith in
    now ∙ ap (λ (t : List ℕ). t ++ place_if asked (i + 1) (get_or ns i d)) before
    ∙ ap (λ (k : ℕ). places_of asked (take i ns) ++ place_if asked k (get_or ns i d)) n
    ∙ sym (places_suc asked 1 ns i d lt) ∙ ap (λ (k : ℕ). places_of asked (take k ns)) (sym (add-one i))
