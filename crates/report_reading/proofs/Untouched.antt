-- A sink that took nothing, though the writes worked, was not called.
use Rattle.std.proofs.Common.{◌≡◌, ◌<◌, ℕ, List, ◌∷◌, [], ◌++◌, length, ap, arith, sym, ◌∙◌}
use Rattle.std.proofs.lemmas.List.{append-nil, length-append}
use Rattle.plan_io.specs.Streams.{Outlet}
use Rattle.run_parts.specs.Written.{Wrote}

-- a text of some bytes that was written shows
pub took-some : (a b : Outlet) (text : List ℕ) → 0 < length text → Wrote a b text → b ≡ a → ⊥
took-some a b text some wrote same =
    omega (arith, some, length-append a.taken text, ap (λ p. length p.taken) wrote, ap (λ p. length p.taken) same)

-- where two texts were written and nothing shows, both are empty
first-empty : (a b c : Outlet) (xs ys : List ℕ) → Wrote a b xs → Wrote b c ys → c ≡ a → length xs ≡ 0
first-empty a b c xs ys one two same =
    omega (arith, length-append a.taken xs, length-append b.taken ys, ap (λ p. length p.taken) one, ap (λ p. length p.taken) two, ap (λ p. length p.taken) same)

none-written : (a b : Outlet) (xs : List ℕ) → Wrote a b xs → length xs ≡ 0 → b ≡ a
none-written a b [] wrote e = wrote ∙ ap (λ t. record { taken = t; faults = a.faults }) (append-nil a.taken)
none-written a b (x ∷ xs) wrote e = absurd (omega (arith, e))

-- a sink that two calls, one after the other, touch only where it shows
pub untouched-trans : {K : Type 0} (past : K → Outlet) (a b c : K) (xs ys : List ℕ) → Wrote (past a) (past b) xs → Wrote (past b) (past c) ys
    → (past b ≡ past a → b ≡ a) → (past c ≡ past b → c ≡ b) → past c ≡ past a → c ≡ a
untouched-trans past a b c xs ys one two first second same =
    let still = none-written (past a) (past b) xs one (first-empty (past a) (past b) (past c) xs ys one two same) in
    second (same ∙ sym still) ∙ first still
