-- The one right verdict of each entry.
use Rattle.std.specs.Prelude.{ℕ, ◌<◌, ◌≤◌, ◌≡◌, ⊤, List}
use Rattle.std.specs.List.{All}
use Rattle.plan_geometry.specs.declared.instances.Inst.{Inst}
use Rattle.plan_geometry.specs.Placed.{Placed}
use Rattle.order_reader.specs.Orders.{OrderValue}
use Rattle.order_reader.specs.Instances.{IsGivenOf, IsBoundFor}
use Rattle.layer_symmetry.specs.declared.symmetries.Move.{Move}
use Rattle.layer_symmetry.specs.Variants.{IsVariants}
use Rattle.plan_entries.specs.declared.listed.Listed.{Listed}
use Rattle.plan_entries.specs.declared.entries.Plan.{Plan}
use Rattle.plan_entries.specs.declared.entries.Status.TheVariants.{Optimal}
use Rattle.plan_entries.specs.declared.entries.Entry.{Entry}
use Rattle.plan_entries.specs.declared.entries.Entry.TheVariants as entries
use Rattle.plan_entries.specs.Entries.{variants_on, first_spots}
use Rattle.plan_soundness.specs.Sound.{KeepsSides, IsListedLayer, ListsLayers, ListsVariants, ShowsBound, TellsStatus, TellsAllowed, TellsStack, IsSound}
use Rattle.report_checker.specs.declared.verdicts.Clause.{Clause}
use Rattle.report_checker.specs.declared.verdicts.Clause.TheVariants.{Reduced, Layout, Variants, Bound, Status, Allowed, Stack}
use Rattle.report_checker.specs.declared.verdicts.Verdict.{Verdict}
use Rattle.report_checker.specs.declared.verdicts.Verdict.TheVariants as verdicts
use Rattle.report_checker.specs.Places.{IsFirstWithout, IsFirstDifference}

-- the place of a clause in the order in which they are judged
abbrev pub clause_place : Clause → ℕ
clause_place Reduced = 0
clause_place Layout = 1
clause_place Variants = 2
clause_place Bound = 3
clause_place Status = 4
clause_place Allowed = 5
clause_place Stack = 6

-- the clause holds of a plan
abbrev pub Holds : Plan → Clause → Type 0
Holds p Reduced = KeepsSides p
Holds p Layout = ListsLayers p
Holds p Variants = ListsVariants p
Holds p Bound = ShowsBound p
Holds p Status = TellsStatus p
Holds p Allowed = TellsAllowed p
Holds p Stack = TellsStack p

-- the first place at which the list differs from that of the variants of the first listed layer
pub record IsOtherVariant (p : Plan) (place : ℕ) : Type 0 where
  pub given : Inst
  pub is_given : IsGivenOf p.order given
  pub variants : List (Move × Placed)
  pub are_variants : IsVariants given (first_spots p.layers) variants
  pub differs : IsFirstDifference (variants_on given p.layers) variants place

-- what is told of a clause that fails beside its name: the number of the first listed layer that is none of the
-- order's, the first place at which the list is not that of the variants, and else 0
abbrev pub IsItem : Plan → Clause → ℕ → Type 0
IsItem p Reduced item = item ≡ 0
IsItem p Layout item = IsFirstWithout (IsListedLayer p.order p.count) p.layers item
IsItem p Variants item = IsOtherVariant p item
IsItem p Bound item = item ≡ 0
IsItem p Status item = item ≡ 0
IsItem p Allowed item = item ≡ 0
IsItem p Stack item = item ≡ 0

-- the clause fails, and all that are judged before it hold
pub record FailsFirst (p : Plan) (clause : Clause) (item : ℕ) : Type 0 where
  pub earlier : (c : Clause) → clause_place c < clause_place clause → Holds p c
  pub fails : Holds p clause → ⊥
  pub item_is : IsItem p clause item

-- of a plan: yes where it is sound, no with the first clause that fails
abbrev pub IsPlanVerdict : Plan → Verdict → Type 0
IsPlanVerdict p verdicts.Yes = IsSound p
IsPlanVerdict p verdicts.Refused = ⊥
IsPlanVerdict p (verdicts.No clause item) = FailsFirst p clause item

-- of an entry that says that its row was refused: refused
abbrev pub IsRefusedVerdict : Verdict → Type 0
IsRefusedVerdict verdicts.Yes = ⊥
IsRefusedVerdict verdicts.Refused = ⊤
IsRefusedVerdict (verdicts.No clause item) = ⊥

abbrev pub IsVerdict : Entry → Verdict → Type 0
IsVerdict (entries.Planned p) v = IsPlanVerdict p v
IsVerdict (entries.Refused n fault) v = IsRefusedVerdict v

-- no other verdict of the entry is right
abbrev pub IsOnlyVerdict : Entry → Verdict → Type 0
IsOnlyVerdict e v = (w : Verdict) → IsVerdict e w → w ≡ v

-- The entry is a plan that is sound for its order. So no layer of the order has more cases than its bound, which its
-- count keeps to; and where it says that it is optimal none has more than its own layers.
pub record HasSoundPlan (e : Entry) : Type 0 where
  pub plan : Plan
  pub is_planned : e ≡ entries.Planned plan
  pub sound : IsSound plan
  pub bounded : IsBoundFor plan.order plan.bound
  pub within : plan.count ≤ plan.bound
  pub greatest : plan.status ≡ Optimal → IsBoundFor plan.order plan.count

-- the layer has the cases of the listed one, which is one of the order's
pub record IsPlacedAs (o : OrderValue) (count : ℕ) (l : Listed) (layer : Placed) : Type 0 where
  pub listed : IsListedLayer o count l
  pub given : IsGivenOf o layer.inst
  pub spots : layer.spots ≡ l.spots

-- each listed layer is one of the order's, and this is the first
pub record IsFirstOf (o : OrderValue) (count : ℕ) (ls : List Listed) (layer : Placed) : Type 0 where
  pub layers : All (IsListedLayer o count) ls
  pub given : IsGivenOf o layer.inst
  pub spots : layer.spots ≡ first_spots ls
