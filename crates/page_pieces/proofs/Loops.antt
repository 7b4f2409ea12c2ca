-- What was put before in a loop, and one part more.
use Rattle.std.proofs.Common.{◌≡◌, ℕ, suc, zero, ◌+◌, ◌<◌, List, [], ◌∷◌, ◌++◌, length, get_or, take, sym, ap, ◌∙◌, append_assoc, arith, add-one}
use Rattle.std.specs.List.{flat_map}
use Rattle.std.proofs.lemmas.List.{append-nil}
use Rattle.page_pieces.specs.Pieces.{numbered}

flat_suc : {A : Type 0} (f : A → List ℕ) (xs : List A) (i : ℕ) (d : A) → i < length xs → flat_map f (take (suc i) xs) ≡ flat_map f (take i xs) ++ f (get_or xs i d)
flat_suc f [] i d lt = absurd (omega arith)
flat_suc f (x ∷ xs) zero d lt = append-nil (f x)
flat_suc f (x ∷ xs) (suc i) d lt = ap (λ (t : List ℕ). f x ++ t) (flat_suc f xs i d (omega arith)) ∙ sym (append_assoc (f x) (flat_map f (take i xs)) (f (get_or xs i d)))

-- a text for each item, and that of one item more
pub each_more : {A : Type 0} (f : A → List ℕ) (start out new : List ℕ) (i : ℕ) (xs : List A) (d : A) → i < length xs → out ≡ start ++ flat_map f (take i xs) → new ≡ out ++ f (get_or xs i d) → new ≡ start ++ flat_map f (take (i + 1) xs)
each_more f start out new i xs d lt before now =
    now ∙ ap (λ (t : List ℕ). t ++ f (get_or xs i d)) before ∙ append_assoc start (flat_map f (take i xs)) (f (get_or xs i d))
    ∙ ap (λ (t : List ℕ). start ++ t) (sym (flat_suc f xs i d lt) ∙ ap (λ (k : ℕ). flat_map f (take k xs)) (sym (add-one i)))

numbered_suc : {A : Type 0} (f : ℕ → A → List ℕ) (number : ℕ) (xs : List A) (i : ℕ) (d : A) → i < length xs → numbered f number (take (suc i) xs) ≡ numbered f number (take i xs) ++ f (number + i) (get_or xs i d)
numbered_suc f number [] i d lt = absurd (omega arith)
numbered_suc f number (x ∷ xs) zero d lt =
    let n : number ≡ number + 0 = omega arith in
    append-nil (f number x) ∙ ap (λ (k : ℕ). f k x) n
numbered_suc f number (x ∷ xs) (suc i) d lt =
    let n : (number + 1) + i ≡ number + suc i = omega arith in
    ap (λ (t : List ℕ). f number x ++ t) (numbered_suc f (number + 1) xs i d (omega arith) ∙ ap (λ (k : ℕ). numbered f (number + 1) (take i xs) ++ f k (get_or xs i d)) n)
    ∙ sym (append_assoc (f number x) (numbered f (number + 1) (take i xs)) (f (number + suc i) (get_or xs i d)))

-- the same of texts of numbered items
pub numbered_more : {A : Type 0} (f : ℕ → A → List ℕ) (start out new : List ℕ) (i : ℕ) (xs : List A) (d : A) → i < length xs → out ≡ start ++ numbered f 1 (take i xs) → new ≡ out ++ f (i + 1) (get_or xs i d) → new ≡ start ++ numbered f 1 (take (i + 1) xs)
numbered_more f start out new i xs d lt before now =
    let n : 1 + i ≡ i + 1 = omega arith in
    now ∙ ap (λ (t : List ℕ). t ++ f (i + 1) (get_or xs i d)) before ∙ append_assoc start (numbered f 1 (take i xs)) (f (i + 1) (get_or xs i d))
    ∙ ap (λ (t : List ℕ). start ++ t) (ap (λ (k : ℕ). numbered f 1 (take i xs) ++ f k (get_or xs i d)) (sym n) ∙ sym (numbered_suc f 1 xs i d lt) ∙ ap (λ (k : ℕ). numbered f 1 (take k xs)) (sym (add-one i)))
