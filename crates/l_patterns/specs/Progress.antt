-- How far a search still has to go.
use Rattle.std.specs.Prelude.{ℕ, ◌+◌, ◌-◌, ◌*◌, ◌/◌, ◌≤◌, ◌<◌, ◌≡◌, List, [], ◌∷◌, length, sum_by, Option, None, IsSome, MatchOption, AllPairs}
use Rattle.std.specs.Map.{lookup, values_of}
use Rattle.std.specs.Option.{unwrap_or}
use Rattle.lru.specs.LruCache.{LruCache}
use Rattle.plan_geometry.specs.declared.instances.Inst.{Inst}
use Rattle.block_tree.specs.declared.regions.Region.{Region}
use Rattle.block_tree.specs.Regions.{area}
use Rattle.l_patterns.specs.declared.knowledge.Key.{Key}
use Rattle.l_patterns.specs.declared.knowledge.Known.{Known}
use Rattle.l_patterns.specs.declared.trying.Frame.{Frame}
use Rattle.l_patterns.specs.Keys.{base, key_of, same_key}

-- what is known of a region before any of its cuts is tried
abbrev pub fresh_of : Inst → Region → Known
fresh_of I r = record { low = base I r; high = area r / (I.long * I.short); built = None }

-- what is known of a region
abbrev pub known_of : Inst → LruCache Key Known → Region → Known
known_of I m r = unwrap_or (lookup (same_key (key_of r)) m.entries) (fresh_of I r)

-- what is wanted of a region is more than is reached, and not more than is proved to be the most
abbrev pub IsOpen : Inst → LruCache Key Known → Region → ℕ → Type 0
IsOpen I m r need = ((known_of I m r).low < need) × (need ≤ (known_of I m r).high)

-- the memo has the region
abbrev pub HasRegion : LruCache Key Known → Region → Type 0
HasRegion m r = IsSome (lookup (same_key (key_of r)) m.entries)

-- how far the two bounds of a region are apart
abbrev pub gap_of : Known → ℕ
gap_of k = k.high - k.low

abbrev pub gaps_of : LruCache Key Known → ℕ
gaps_of m = sum_by gap_of (values_of m.entries)

-- the gaps of all regions in the memo, and for each one that may still come more than any gap
abbrev pub work_left : ℕ → LruCache Key Known → ℕ
work_left most m = (most - length m.entries) * 16000001 + gaps_of m

-- the bounds of a region came nearer, and nothing else changed
pub record Narrows (I : Inst) (r : Region) (m n : LruCache Key Known) : Type 0 where
  pub cap : n.cap ≡ m.cap
  pub count : length n.entries ≡ length m.entries
  pub nearer : gaps_of n < gaps_of m
  pub others : (t : Region) → (t ≡ r → ⊥) → known_of I n t ≡ known_of I m t

-- a region came into the memo as it was known
pub record Enters (I : Inst) (most : ℕ) (r : Region) (m n : LruCache Key Known) : Type 0 where
  pub cap : n.cap ≡ m.cap
  pub there : HasRegion n r
  pub less : work_left most n ≤ work_left most m
  pub same : (t : Region) → known_of I n t ≡ known_of I m t

-- the cells of the region that is tried next: the last that is pending, or the root
abbrev pub due_area : Region → List Frame → ℕ
due_area r [] = area r
due_area r (f ∷ fs) = due_area f.region fs

-- a pending region is smaller than those that wait for it
abbrev pub AreFalling : List Frame → Type 0
AreFalling fs = AllPairs (λ (f g : Frame). area g.region < area f.region) fs

-- the frame is the one that was taken off, or where there was none it is the root's
abbrev pub IsFrom : Option Frame → Region → Frame → Type 0
IsFrom o root f = MatchOption o (f.region ≡ root) (λ (g : Frame). f ≡ g)
