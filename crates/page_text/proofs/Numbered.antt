-- The texts of numbered items, and of one item more.
use Rattle.std.proofs.Common.{◌≡◌, ◌∙◌, ℕ, ◌+◌, List, [], ◌∷◌, ◌++◌, length, ap, sym, arith, append_assoc}
use Rattle.std.proofs.lemmas.List.{append-nil}
use Rattle.page_pieces.specs.Pieces.{numbered}

pub numbered-more : {A : Type 0} (f : ℕ → A → List ℕ) (n : ℕ) (xs : List A) (x : A) → numbered f n (xs ++ x ∷ []) ≡ numbered f n xs ++ f (length xs + n) x
numbered-more f n [] x =
    let same : n ≡ 0 + n = omega arith in
    append-nil (f n x) ∙ ap (λ (k : ℕ). f k x) same
numbered-more f n (y ∷ ys) x =
    let next : length ys + (n + 1) ≡ length (y ∷ ys) + n = omega arith in
    ap (λ (t : List ℕ). f n y ++ t) (numbered-more f (n + 1) ys x ∙ ap (λ (k : ℕ). numbered f (n + 1) ys ++ f k x) next)
    ∙ sym (append_assoc (f n y) (numbered f (n + 1) ys) (f (length (y ∷ ys) + n) x))
