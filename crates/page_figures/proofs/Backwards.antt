-- A loop that goes from the last item to the first.
use Rattle.std.proofs.Common.{◌≡◌, ℕ, ◌+◌, ◌-◌, ◌<◌, ◌≤◌, arith, List, [], ◌∷◌, ◌++◌, length, get_or, drop, reverse, refl, sym, ap, ◌∙◌, append_assoc}
use Rattle.std.specs.List.{flat_map}
use Rattle.std.proofs.lemmas.List.{append-nil, drop_more, reverse-append}

flat_both : {A : Type 0} (f : A → List ℕ) (xs ys : List A) → flat_map f (xs ++ ys) ≡ flat_map f xs ++ flat_map f ys
flat_both f [] ys = refl
flat_both f (x ∷ xs) ys = ap (λ (t : List ℕ). f x ++ t) (flat_both f xs ys) ∙ sym (append_assoc (f x) (flat_map f xs) (flat_map f ys))

flat_last : {A : Type 0} (f : A → List ℕ) (xs : List A) (i : ℕ) (d : A) → i < length xs → flat_map f (reverse (drop i xs)) ≡ flat_map f (reverse (drop (i + 1) xs)) ++ f (get_or xs i d)
flat_last {A = A} f xs i d lt =
    let x = get_or xs i d in
    let more = drop (i + 1) xs in
    ap (λ (t : List A). flat_map f (reverse t)) (drop_more xs i d lt)
    ∙ ap (flat_map f) (reverse-append (x ∷ []) more)
    ∙ flat_both f (reverse more) (x ∷ [])
    ∙ ap (λ (t : List ℕ). flat_map f (reverse more) ++ t) (append-nil (f x))

-- the texts of the items from this place on, and that of the one before it
pub each_before : {A : Type 0} (f : A → List ℕ) (start out new : List ℕ) (k : ℕ) (xs : List A) (d : A) → 0 < k → k ≤ length xs → out ≡ start ++ flat_map f (reverse (drop k xs)) → new ≡ out ++ f (get_or xs (k - 1) d) → new ≡ start ++ flat_map f (reverse (drop (k - 1) xs))
each_before {A = A} f start out new k xs d pos le before now =
    let i = k - 1 in
    let back : k ≡ i + 1 = omega arith in
    let behind = before ∙ ap (λ (n : ℕ). start ++ flat_map f (reverse (drop n xs))) back in
    now ∙ ap (λ (t : List ℕ). t ++ f (get_or xs i d)) behind ∙ append_assoc start (flat_map f (reverse (drop (i + 1) xs))) (f (get_or xs i d))
    ∙ ap (λ (t : List ℕ). start ++ t) (sym (flat_last f xs i d (omega arith)))
