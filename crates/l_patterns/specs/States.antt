-- What the search knows of regions, and what its steps find.
use Rattle.std.specs.Prelude.{ℕ, Contains, ◌+◌, ◌≤◌, ◌<◌, ◌≡◌, List, length, slice_index_or, Option, None, MatchOption}
use Rattle.plan_geometry.specs.declared.instances.Inst.{Inst}
use Rattle.block_tree.specs.declared.regions.Region.{Region}
use Rattle.block_tree.specs.declared.regions.Cut.{Cut}
use Rattle.block_tree.specs.declared.regions.Cut.TheVariants.{K2}
use Rattle.block_tree.specs.declared.nodes.Node.{Node}
use Rattle.block_tree.specs.Regions.{rectangle, area}
use Rattle.block_tree.specs.Trees.{held_count, IsLawful}
use Rattle.block_tables.specs.Numbers.{RoundsTo}
use Rattle.l_patterns.specs.declared.sides.Sides.{Sides}
use Rattle.l_patterns.specs.declared.knowledge.Key.{Key}
use Rattle.l_patterns.specs.declared.knowledge.Known.{Known}
use Rattle.l_patterns.specs.declared.knowledge.Held.{Held}
use Rattle.l_patterns.specs.declared.knowledge.Built.{Built}
use Rattle.l_patterns.specs.declared.knowledge.Search.{Search}
use Rattle.l_patterns.specs.declared.trying.Frame.{Frame}
use Rattle.l_patterns.specs.declared.trying.Move.{Move}
use Rattle.l_patterns.specs.declared.trying.Move.TheVariants.{Skip, Take, Go}
use Rattle.l_patterns.specs.declared.trying.Outcome.{Outcome}
use Rattle.l_patterns.specs.declared.trying.Outcome.TheVariants.{Failed, Taken, Pushed}
use Rattle.l_patterns.specs.declared.stepping.Stop.{Stop}
use Rattle.l_patterns.specs.declared.stepping.Stop.TheVariants.{Done, Waits}
use Rattle.l_patterns.specs.declared.running.Next.{Next}
use Rattle.l_patterns.specs.declared.running.Next.TheVariants.{Try, Closed}
use Rattle.l_patterns.specs.Ells.{EllAll, IsSplit, written, Reach}
use Rattle.l_patterns.specs.Keys.{base, region_of}
use Rattle.l_patterns.specs.Progress.{IsOpen, IsFrom, Narrows}
use Rattle.l_patterns.specs.Cuts.{Fits, IsNth}

-- ---- which cuts were tried

-- no cut of the region into smaller parts gives `need`
abbrev pub Fails : Sides → Region → ℕ → Cut → Type 0
Fails q r need cut = (p s : Region) → IsSplit q.inst r cut p s → area p < area r → area s < area r
    → (m n : ℕ) → EllAll q.inst p m → EllAll q.inst s n → m + n < need

-- none of the cuts before a number gives it
abbrev pub Tried : Sides → Region → ℕ → ℕ → Type 0
Tried q r need upto = (k : ℕ) → k < upto → (cut : Cut) → IsNth q r k cut → Fails q r need cut

-- ---- bounds of a region's numbers

-- some number of the region is at least n
abbrev pub Reaches : Inst → Region → ℕ → Type 0
Reaches I r n = (m : ℕ) × EllAll I r m × (n ≤ m)

-- the reached bound is at least the number that needs no cut, and no number of the region is above the proved bound
pub record AreBounds (I : Inst) (r : Region) (k : Known) : Type 0 where
  pub upper : (n : ℕ) → EllAll I r n → n ≤ k.high
  pub order : k.low ≤ k.high
  pub from : base I r ≤ k.low
  pub cells : k.high ≤ area r
  pub small : k.high ≤ 16000000

-- ---- what was built, in the order of building

abbrev pub none : Built
none = record {
  region = rectangle 0 0;
  cut = K2 0 0;
  count = 0;
  first = record { region = rectangle 0 0; built = None; count = 0 };
  second = record { region = rectangle 0 0; built = None; count = 0 };
}

abbrev pub nth_built : List Built → ℕ → Built
nth_built bs j = slice_index_or bs j none

-- n cases need no cut, or were built for the region at a place before `upto`
abbrev pub Stands : Inst → List Built → ℕ → Region → Option ℕ → ℕ → Type 0
Stands I bs upto r o n = MatchOption o (n ≡ base I r) (λ j. (j < upto) × ((nth_built bs j).region ≡ r) × ((nth_built bs j).count ≡ n))

-- the two parts of a cut, and what they hold
pub record AreParts (I : Inst) (bs : List Built) (upto : ℕ) (r : Region) (cut : Cut) (a b : Held) : Type 0 where
  pub split : IsSplit I r cut a.region b.region
  pub first : Stands I bs upto (written a.region) a.built a.count
  pub second : Stands I bs upto (written b.region) b.built b.count

-- what was built at a place, of parts that were built before
pub record IsBuilt (q : Sides) (bs : List Built) (j : ℕ) (b : Built) : Type 0 where
  pub fits : Fits q b.region
  pub parts : AreParts q.inst bs j b.region b.cut b.first b.second
  pub sum : b.count ≡ b.first.count + b.second.count
  pub reached : Reaches q.inst b.region b.count

-- everything that was built
abbrev pub AreBuilt : Sides → List Built → Type 0
AreBuilt q bs = (j : ℕ) → j < length bs → IsBuilt q bs j (nth_built bs j)

-- ---- what the memo has

-- bounds of a region that the search may come to, of which the reached one needs no cut or was built
pub record IsRemembered (q : Sides) (bs : List Built) (r : Region) (k : Known) : Type 0 where
  pub fits : Fits q r
  pub reach : Reach q.inst r
  pub bounds : AreBounds q.inst r k
  pub lower : Stands q.inst bs (length bs) r k.built k.low

-- the state of a search
pub record IsSearch (q : Sides) (s : Search) : Type 0 where
  pub built : AreBuilt q s.built.items
  pub memo : (e : Key × Known) → Contains s.memo.entries e → IsRemembered q s.built.items (region_of e.0) e.1

-- ---- a pending region

-- a region with a cell, of which more is wanted than needs no cut, and whose first cuts do not give it
pub record IsFrame (q : Sides) (f : Frame) : Type 0 where
  pub fits : Fits q f.region
  pub reach : Reach q.inst f.region
  pub some : 0 < area f.region
  pub above : base q.inst f.region < f.need
  pub tried : Tried q f.region f.need f.at

-- a frame whose need lies between the bounds of its region
abbrev pub IsPending : Sides → Search → Frame → Type 0
IsPending q s f = IsFrame q f × IsOpen q.inst s.memo f.region f.need

-- ---- what comes of a cut

-- the parts hold what is wanted
pub record IsTake (q : Sides) (bs : List Built) (r : Region) (need : ℕ) (cut : Cut) (a b : Held) : Type 0 where
  pub parts : AreParts q.inst bs (length bs) r cut a b
  pub enough : need ≤ a.count + b.count
  pub small : a.count + b.count ≤ 32000000

-- a smaller region of which more must be known first
pub record IsGo (q : Sides) (s : Search) (r : Region) (p : Region) (need : ℕ) : Type 0 where
  pub fits : Fits q p
  pub reach : Reach q.inst p
  pub some : 0 < area p
  pub above : base q.inst p < need
  pub falls : area p < area r
  pub opens : IsOpen q.inst s.memo p need

abbrev pub IsMove : Sides → Search → Region → ℕ → Cut → Move → Type 0
IsMove q s r need cut Skip = Fails q r need cut
IsMove q s r need cut (Take a b) = IsTake q s.built.items r need cut a b
IsMove q s r need cut (Go p least) = IsGo q s r p least

-- what a scan of the cuts found
abbrev pub IsOutcome : Sides → Search → Frame → Outcome → Type 0
IsOutcome q s f Failed = (n : ℕ) → EllAll q.inst f.region n → n < f.need
IsOutcome q s f (Taken cut a b) = IsTake q s.built.items f.region f.need cut a b
IsOutcome q s f (Pushed at p least) = Tried q f.region f.need at × IsGo q s f.region p least

-- a step from s to t is done, or it waits for a part: the cuts before `at` were tried, and nothing was written
abbrev pub IsStop : Sides → Search → Search → Frame → Stop → Type 0
IsStop q s t f Done = Narrows q.inst f.region s.memo t.memo
IsStop q s t f (Waits p least at) = (t.memo ≡ s.memo) × Tried q f.region f.need at × IsGo q s f.region p least

-- ---- the root

-- the pallet, its sides rounded down
pub record IsRoot (q : Sides) (r : Region) : Type 0 where
  pub a : ℕ
  pub b : ℕ
  pub down_x : RoundsTo q.inst q.inst.l_side a
  pub down_y : RoundsTo q.inst q.inst.w_side b
  pub is : r ≡ rectangle a b

-- what is known of a region
pub record IsKnown (q : Sides) (s : Search) (r : Region) (k : Known) : Type 0 where
  pub bounds : AreBounds q.inst r k
  pub lower : Stands q.inst s.built.items (length s.built.items) r k.built k.low

-- a region to go on with, or the root whose bounds have met
abbrev pub IsNext : Sides → Search → Region → Option Frame → Next → Type 0
IsNext q s root o (Try f) = IsPending q s f × IsFrom o root f
IsNext q s root o (Closed k) = IsKnown q s root k × (k.high ≤ k.low)

-- ---- the tree

-- a node of this region, lawful, with n cases
pub record Makes (I : Inst) (r : Region) (n : ℕ) (d : Node) : Type 0 where
  pub region : d.region ≡ r
  pub lawful : IsLawful I d.region d.block
  pub count : held_count I d.region d.block ≡ n
