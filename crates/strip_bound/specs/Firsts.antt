-- The first cuts that exclude pairs, and the strip bound of a list of cuts.
use Rattle.std.specs.Prelude.{◌≡◌, ℕ, ◌+◌, ◌-◌, ◌<◌, ◌≤◌, List, length, slice_index_or}
use Rattle.plan_geometry.specs.declared.instances.Inst.{Inst}
use Rattle.weightings.specs.declared.certs.StripCut.{StripCut}
use Rattle.weightings.specs.declared.certs.StripCut.TheVariants.{Area}
use Rattle.strip_cuts.specs.Cuts.{IsTrueCut, Meets, AcceptsStrip}

-- the number of each cut is the true greatest value
abbrev pub AreTrue : Inst → List StripCut → Type 0
AreTrue I cuts = (k : ℕ) → k < length cuts → IsTrueCut I (slice_index_or cuts k Area)

-- the pair meets each cut
abbrev pub MeetsAll : Inst → List StripCut → ℕ → ℕ → Type 0
MeetsAll I cuts h v = (k : ℕ) → k < length cuts → Meets I (slice_index_or cuts k Area) h v

-- the cut is the first of the list that the pair does not meet
pub record IsFirst (I : Inst) (cuts : List StripCut) (h v : ℕ) (cut : StripCut) : Type 0 where
  pub place : ℕ
  pub within : place < length cuts
  pub here : slice_index_or cuts place Area ≡ cut
  pub unmet : ¬ Meets I cut h v
  pub before : (k : ℕ) → k < place → Meets I (slice_index_or cuts k Area) h v

-- at each place h from 0 to n + 1 stands the first cut that excludes the pair of h and n + 1 - h
pub record IsTable (I : Inst) (cuts : List StripCut) (n : ℕ) (table : List StripCut) : Type 0 where
  pub count : length table ≡ n + 2
  pub each : (h : ℕ) → h < n + 2 → IsFirst I cuts h (n + 1 - h) (slice_index_or table h Area)

-- some pair of n cases meets each cut
pub record IsReached (I : Inst) (cuts : List StripCut) (n : ℕ) : Type 0 where
  pub h : ℕ
  pub v : ℕ
  pub admitted : MeetsAll I cuts h v
  pub reached : h + v ≡ n

-- n is the greatest h + v of a pair that meets each cut
pub record IsStripBound (I : Inst) (cuts : List StripCut) (n : ℕ) : Type 0 where
  pub most : (h v : ℕ) → MeetsAll I cuts h v → h + v ≤ n
  pub reached : IsReached I cuts n

-- the certificate of the strip bound
pub record IsStrip (I : Inst) (cuts table : List StripCut) : Type 0 where
  pub bound : ℕ
  pub is_bound : IsStripBound I cuts bound
  pub is_table : IsTable I cuts bound table
  pub accepted : AcceptsStrip I bound table
