-- Sums whose terms are alike, and products within bounds.
use Rattle.std.proofs.Common.{◌≡◌, ℕ, ◌*◌, ◌/◌, ◌≤◌, List, [], ◌∷◌, length, map, refl, sym, ap, ◌∙◌, subst, arith}
use Rattle.std.specs.List.{All, sum_by}
use Rattle.std.proofs.lemmas.List.Elements.{All-head, All-tail}
use Rattle.std.proofs.lemmas.List.Sums.{sum_by-cons}
use Rattle.std.proofs.Math.Nat.{mul-div-le, div-div-eq-div-mul}

-- so many terms, each the same
pub sum_of_same : {X : Type 0} (f : X → ℕ) (m : ℕ) (xs : List X) → All (λ x. f x ≡ m) xs → sum_by f xs ≡ length xs * m
sum_of_same f m [] all = omega arith
sum_of_same f m (x ∷ xs) all =
    let first = All-head (λ y. f y ≡ m) x xs all in
    let others = sum_of_same f m xs (All-tail (λ y. f y ≡ m) x xs all) in
    omega (arith, sum_by-cons f x xs, first, others)

-- so many groups of n as a weight allows are no more cases than it allows
pub groups_within : (n most each : ℕ) → n * (most / (n * each)) ≤ most / each
groups_within n most each =
    let turned : n * each ≡ each * n = omega arith in
    let split : most / each / n ≡ most / (n * each) = div-div-eq-div-mul most each n ∙ ap (λ k. most / k) (sym turned) in
    subst (λ k. n * k ≤ most / each) split (mul-div-le (most / each) n)

pub map-map : {X Y Z : Type 0} (g : Y → Z) (f : X → Y) (xs : List X) → map g (map f xs) ≡ map (λ x. g (f x)) xs
map-map g f [] = refl
map-map g f (x ∷ xs) = ap (λ ys. g (f x) ∷ ys) (map-map g f xs)

pub map-same : {X : Type 0} (xs : List X) → map (λ x. x) xs ≡ xs
map-same [] = refl
map-same (x ∷ xs) = ap (λ ys. x ∷ ys) (map-same xs)
