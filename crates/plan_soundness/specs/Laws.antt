-- What follows where a plan is sound.
use Rattle.std.specs.Prelude.{◌≤◌, ◌≡◌, List, length}
use Rattle.plan_geometry.specs.declared.spots.Spot.{Spot}
use Rattle.order_reader.specs.Instances.{IsBoundFor, IsLayerFor}
use Rattle.plan_entries.specs.declared.entries.Status.TheVariants.{Optimal}
use Rattle.plan_entries.specs.declared.entries.Plan.{Plan}
use Rattle.plan_soundness.specs.Sound.{IsSound}

-- no layer of the order has more cases than the bound
abbrev pub SoundPlansAreBounded : Type 0
SoundPlansAreBounded = (p : Plan) → IsSound p → IsBoundFor p.order p.bound

-- the order has a layer with as many cases as the count
abbrev pub CountsAreReached : Type 0
CountsAreReached = (p : Plan) → IsSound p → (spots : List Spot) × IsLayerFor p.order spots × (length spots ≡ p.count)

-- the count is at most the bound
abbrev pub CountsAreWithinBounds : Type 0
CountsAreWithinBounds = (p : Plan) → IsSound p → p.count ≤ p.bound

-- where the plan says `optimal`, no layer of the order has more cases than its own layers
abbrev pub OptimalIsGreatest : Type 0
OptimalIsGreatest = (p : Plan) → IsSound p → p.status ≡ Optimal → IsBoundFor p.order p.count
