-- The cuts of an instance, in order.
use Rattle.std.specs.Prelude.{◌≡◌, ℕ, ◌+◌, ◌-◌, ◌<◌, ⊤, List, [], ◌∷◌, ◌++◌, length, slice_index_or}
use Rattle.plan_geometry.specs.declared.spots.Axis.{Axis}
use Rattle.plan_geometry.specs.declared.spots.Axis.TheVariants.{X, Y}
use Rattle.plan_geometry.specs.declared.instances.Inst.{Inst}
use Rattle.plan_geometry.specs.Layout.{side}
use Rattle.partitions.specs.Partitions.{IsMaximal}
use Rattle.weightings.specs.declared.certs.StripCut.{StripCut}
use Rattle.weightings.specs.declared.certs.StripCut.TheVariants.{Area, X as LinesOfX, Y as LinesOfY}
use Rattle.strip_cuts.specs.Cuts.{IsGreatest}
use Rattle.strip_bound.specs.Firsts.{IsStripBound, IsStrip}

-- by the number i of long case sides, how many short ones the maximal partition with i long ones has
pub record AreShorts (axis : Axis) (I : Inst) (shorts : List ℕ) : Type 0 where
  pub each : (i : ℕ) → i < length shorts → IsMaximal (side axis I) I.long I.short i (slice_index_or shorts i 0)
  pub all : (i j : ℕ) → IsMaximal (side axis I) I.long I.short i j → (i < length shorts) × (slice_index_or shorts i 0 ≡ j)

-- what each crossing of a line by a long and by a short case side counts
pub record Counts : Type 0 where
  pub a : ℕ
  pub b : ℕ

-- a maximal partition with j short sides beside each of the later ones, of which the first has d long sides more:
-- both partitions of such a pair count the same, and no partition between them counts more
abbrev pub beside : ℕ → ℕ → List ℕ → List Counts
beside j d [] = []
beside j d (k ∷ later) = (record { a = j - k; b = d }) ∷ beside j (d + 1) later

-- each two maximal partitions, by the long sides of the one and then of the other
abbrev pub each_two : List ℕ → List Counts
each_two [] = []
each_two (j ∷ later) = beside j 1 later ++ each_two later

-- the long sides alone, the short ones alone, then each two maximal partitions
abbrev pub counts_of : List ℕ → List Counts
counts_of shorts = (record { a = 1; b = 0 }) ∷ (record { a = 0; b = 1 }) ∷ each_two shorts

abbrev pub line_cut : Axis → Counts → ℕ → StripCut
line_cut X n q = LinesOfX n.a n.b q
line_cut Y n q = LinesOfY n.a n.b q

-- the true cut of the lines along an axis that count so
pub record IsLineCut (axis : Axis) (I : Inst) (n : Counts) (cut : StripCut) : Type 0 where
  pub q : ℕ
  pub greatest : IsGreatest axis I n.a n.b q
  pub is : cut ≡ line_cut axis n q

-- the true cuts of a list of counts, in order
abbrev pub AreLineCuts : Axis → Inst → List Counts → List StripCut → Type 0
AreLineCuts axis I [] [] = ⊤
AreLineCuts axis I [] (c ∷ cs) = ⊥
AreLineCuts axis I (n ∷ ns) [] = ⊥
AreLineCuts axis I (n ∷ ns) (c ∷ cs) = IsLineCut axis I n c × AreLineCuts axis I ns cs

-- all cuts of an axis
pub record AreAxisCuts (axis : Axis) (I : Inst) (cuts : List StripCut) : Type 0 where
  pub shorts : List ℕ
  pub are_shorts : AreShorts axis I shorts
  pub are_cuts : AreLineCuts axis I (counts_of shorts) cuts

-- the cuts of an instance: area, those along x, those along y
pub record AreCuts (I : Inst) (cuts : List StripCut) : Type 0 where
  pub along_x : List StripCut
  pub along_y : List StripCut
  pub in_x : AreAxisCuts X I along_x
  pub in_y : AreAxisCuts Y I along_y
  pub all : cuts ≡ Area ∷ (along_x ++ along_y)

-- the certificate of the strip bound of an instance, each place with the first of all cuts that excludes its pair
pub record IsStripOf (I : Inst) (table : List StripCut) : Type 0 where
  pub cuts : List StripCut
  pub are_cuts : AreCuts I cuts
  pub is_strip : IsStrip I cuts table

-- n is the greatest h + v of a pair that meets each cut of the instance
pub record IsStripBoundOf (I : Inst) (n : ℕ) : Type 0 where
  pub cuts : List StripCut
  pub are_cuts : AreCuts I cuts
  pub is_bound : IsStripBound I cuts n
