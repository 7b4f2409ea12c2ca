-- An accepted certificate bounds every layout of the given instance.
use Rattle.std.proofs.Common.{◌≢◌, ℕ, ◌<◌, List, arith}
use Rattle.plan_geometry.specs.declared.instances.Inst.{Inst}
use Rattle.plan_geometry.specs.Layout.{IsBounded}
use Rattle.plan_geometry.proofs.Counting.{area_bounds}
use Rattle.partitions.specs.Partitions.{SameSides}
use Rattle.layout_map.proofs.Admits.{bounded_law}
use Rattle.weightings.specs.declared.kinds.Weighting.{Weighting}
use Rattle.weightings.specs.declared.certs.Mark.{Mark}
use Rattle.weightings.specs.declared.certs.Cert.TheVariants as certs
use Rattle.weightings.specs.Weighting.{weight_of, IsLeastWeight}
use Rattle.cert_rules.specs.Refute.{IsRefutation}
use Rattle.cert_rules.proofs.Refuting.{refutes_bounds}
use Rattle.strip_cuts.proofs.Bounds.{bound}
use Rattle.bound_checker.specs.Accepts.{AcceptsWeighted, AcceptedIsBounded}

pub weighted_bounds : (I : Inst) (g : Weighting) (n : ℕ) (marks : List Mark) → AcceptsWeighted I g n marks → IsBounded I n
weighted_bounds I g n marks a =
    refutes_bounds I (weight_of g) a.refutation.least n marks a.some a.refutation.is_least.bound a.refutation.refutes

-- a bound of the reduced instance is one of the given
pub given_bound : (given reduced : Inst) (n : ℕ) → SameSides given reduced → IsBounded reduced n → IsBounded given n
given_bound given reduced n same h = (bounded_law given reduced n same).1 h

pub accepted : AcceptedIsBounded
accepted given reduced (certs.Weighted g marks) n a = given_bound given reduced n a.same (weighted_bounds reduced g n marks a.holds)
accepted given reduced (certs.Strip cuts) n a = given_bound given reduced n a.same (bound reduced n cuts a.holds)
accepted given reduced certs.GivenArea n a = λ spots layout. omega (arith, area_bounds given spots layout, a.holds)

-- where the least weight of a case is not 0, that of a refutation is not
pub some_least :
    (I : Inst) (g : Weighting) (n : ℕ) (marks : List Mark) (q : ℕ)
    → IsLeastWeight I (weight_of g) q
    → q ≢ 0
    → (r : IsRefutation I (weight_of g) n marks)
    → 0 < r.least
some_least I g n marks q least some r =
    let le = least.bound r.is_least.spot r.is_least.inside r.is_least.lawful in
    omega (arith, le, r.is_least.reached, some)
