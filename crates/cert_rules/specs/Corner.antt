-- Corner states and their moves.
use Rattle.std.specs.Prelude.{ℕ, ◌+◌, ◌-◌, ◌/◌, ◌≤◌, ◌==◌, ◌&&◌, Bool, true, false, nat_le, nat_lt, min, if◌then◌else◌, List, [], ◌∷◌, ◌++◌, length, map, filter, replicate, take, drop, slice_index}
use Rattle.plan_geometry.specs.declared.instances.Inst.{Inst}
use Rattle.plan_geometry.specs.declared.spots.Spot.{Spot}
use Rattle.plan_geometry.specs.declared.spots.Way.TheVariants.{Lying as LyingWay, Standing as StandingWay}
use Rattle.plan_geometry.specs.Weight.{total_weight}
use Rattle.cert_rules.specs.declared.steps.Step.{Step}
use Rattle.cert_rules.specs.declared.steps.Step.TheVariants.{Lying, Standing, Waste}
use Rattle.cert_rules.specs.Next.{next}

-- a height for each column, and the cases placed on the way, in order
pub record State : Type 0 where
  pub heights : List ℕ
  pub spots : List Spot

-- heights 0 and no case
abbrev pub start : Inst → State
start i = record { heights = replicate i.l_side 0; spots = [] }

-- the lowest height
abbrev pub lowest : List ℕ → ℕ
lowest [] = 0
lowest (x ∷ []) = x
lowest (x ∷ y ∷ ys) = min x (lowest (y ∷ ys))

-- how many columns come before the first one of height v
abbrev pub before_first : ℕ → List ℕ → ℕ
before_first v [] = 0
before_first v (x ∷ xs) = if x == v then 0 else before_first v xs + 1

-- how many columns from the front on have height v
abbrev pub run_of : ℕ → List ℕ → ℕ
run_of v [] = 0
run_of v (x ∷ xs) = if x == v then run_of v xs + 1 else 0

-- the leftmost column of the lowest height
abbrev pub corner : List ℕ → ℕ
corner hs = before_first (lowest hs) hs

-- how many neighbouring columns, from the corner to the right, have the lowest height
abbrev pub flat_run : List ℕ → ℕ
flat_run hs = run_of (lowest hs) (drop (corner hs) hs)

-- the heights with the n columns from c on at height v
abbrev pub raised : List ℕ → ℕ → ℕ → ℕ → List ℕ
raised hs c n v = take c hs ++ replicate n v ++ drop (c + n) hs

-- how many columns Waste raises: up to the next normal place, or the end of the flat run
abbrev pub waste_width : Inst → List ℕ → ℕ
waste_width i hs = min (next i i.l_side (corner hs) - corner hs) (flat_run hs)

-- whether the heights have the move
abbrev pub allows : Inst → List ℕ → Step → Bool
allows i hs Lying = nat_le i.long (flat_run hs) && nat_le (lowest hs + i.short) i.w_side
allows i hs Standing =
    nat_lt i.short i.long && (nat_le i.short (flat_run hs) && nat_le (lowest hs + i.long) i.w_side)
allows i hs Waste = nat_lt (lowest hs) i.w_side

-- the heights after the move
abbrev pub moved : Inst → List ℕ → Step → List ℕ
moved i hs Lying = raised hs (corner hs) i.long (lowest hs + i.short)
moved i hs Standing = raised hs (corner hs) i.short (lowest hs + i.long)
moved i hs Waste = raised hs (corner hs) (waste_width i hs) (next i i.w_side (lowest hs))

-- the case that the move places at the corner
abbrev pub case_of : List ℕ → Step → List Spot
case_of hs Lying = (record { x = corner hs; y = lowest hs; way = LyingWay }) ∷ []
case_of hs Standing = (record { x = corner hs; y = lowest hs; way = StandingWay }) ∷ []
case_of hs Waste = []

-- whether the move places a case
abbrev pub is_case : Step → Bool
is_case Waste = false
is_case _ = true

-- the state after the move
abbrev pub after : Inst → State → Step → State
after i s m = record { heights = moved i s.heights m; spots = s.spots ++ case_of s.heights m }

-- the states after the moves, in order
abbrev pub children : Inst → State → List State
children i s = map (after i s) (filter (allows i s.heights) (Lying ∷ Standing ∷ Waste ∷ []))

-- the state to which a list of steps leads from the start, the newest step first
abbrev pub state_of : Inst → List Step → State
state_of i [] = start i
state_of i (m ∷ older) = after i (state_of i older) m

-- the weights of the cells without those below their column's height
abbrev pub weight_above : (ℕ → ℕ → ℕ) → List ℕ → ℕ → ℕ → ℕ
weight_above g hs x y = if nat_le (slice_index hs x) y then g x y else 0

-- the weight of the cells at or above their column's height
abbrev pub above : Inst → (ℕ → ℕ → ℕ) → State → ℕ
above i g s = total_weight (weight_above g s.heights) i

-- at most n cases can come of the state, by the weight above
abbrev pub IsLeaf : Inst → (ℕ → ℕ → ℕ) → ℕ → ℕ → State → Type 0
IsLeaf i g q n s = length s.spots + above i g s / q ≤ n
