use Rattle.std.proofs.Common.{◌≡◌, ◌≤◌, ◌+◌, ◌/◌, ℕ, length, ap, ◌∙◌, subst, arith}
use Rattle.std.specs.Prelude.{reverse, IsTrue, nat_le}
use Rattle.std.proofs.lemmas.Bool.Decides.{nat_tests}
use Rattle.std.proofs.Math.Nat.{div-le_self}
use Rattle.cert_rules.specs.Corner.{state_of, above, IsLeaf}
use Rattle.cert_rules.specs.Path.{Path, state}
use Rattle.weightings.specs.Weighting.{weight_of}
use Rattle.cert_rules.specs.Frames.{steps_of}
use Rattle.cert_rules.proofs.Paths.{KeepsRuns-now, spots-few, length-steps_of}
use Rattle.cert_rules.proofs.skyline.Skyline.is_leaf.Goals as goal

pub overflow_add-result : goal.overflow_add-result
overflow_add-result c =
    let now = KeepsRuns-now c.self.inside.inst c.self.inside.weighting (reverse c.self.inside.frames.items) c.self.inside.runs.items c.self.inside.weight c.self.invariant.runs in
    let few : length (state_of c.self.inside.inst (steps_of (reverse c.self.inside.frames.items))).spots
    ≤ length (steps_of (reverse c.self.inside.frames.items)) =
    spots-few c.self.inside.inst (steps_of (reverse c.self.inside.frames.items)) in
    let same : length (steps_of (reverse c.self.inside.frames.items)) ≡ length (reverse c.self.inside.frames.items) =
    length-steps_of (reverse c.self.inside.frames.items) in
    let most : length (reverse c.self.inside.frames.items) ≤ 500000 = c.self.invariant.few in
    let cases : c.self.inside.cases ≡ length (state_of c.self.inside.inst (steps_of (reverse c.self.inside.frames.items))).spots = c.self.invariant.cases in
    let small : c.self.inside.weight ≤ 16000000000 = now.small in
    let less : c.self.inside.weight / c.self.inside.least ≤ c.self.inside.weight = div-le_self c.self.inside.weight c.self.inside.least in
    omega arith

decides : (a b n : ℕ) → a ≡ b → (IsTrue (nat_le a n) → b ≤ n) × (b ≤ n → IsTrue (nat_le a n))
decides a b n e = (λ t. grind (arith, nat_tests), λ le. grind (arith, nat_tests))

pub returns : goal.returns
returns c =
    let now = KeepsRuns-now c.self.inside.inst c.self.inside.weighting (reverse c.self.inside.frames.items) c.self.inside.runs.items c.self.inside.weight c.self.invariant.runs in
    let e : c.self.inside.cases + c.self.inside.weight / c.self.inside.least
    ≡ length (state_of c.self.inside.inst (steps_of (reverse c.self.inside.frames.items))).spots
    + above c.self.inside.inst (weight_of c.self.inside.weighting) (state_of c.self.inside.inst (steps_of (reverse c.self.inside.frames.items))) / c.self.inside.least =
    ap (λ (n : ℕ). n + c.self.inside.weight / c.self.inside.least) c.self.invariant.cases
    ∙ ap (λ (n : ℕ). length (state_of c.self.inside.inst (steps_of (reverse c.self.inside.frames.items))).spots + n / c.self.inside.least) now.weighs in
    subst
    (λ (p : Path). (IsTrue (nat_le (c.self.inside.cases + c.self.inside.weight / c.self.inside.least) c.args.n) → IsLeaf p.inst (weight_of p.weighting) p.least c.args.n (state p))
    × (IsLeaf p.inst (weight_of p.weighting) p.least c.args.n (state p) → IsTrue (nat_le (c.self.inside.cases + c.self.inside.weight / c.self.inside.least) c.args.n)))
    c.self.view_is (decides _ _ c.args.n e)
