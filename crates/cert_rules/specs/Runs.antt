-- Runs of equal height.
use Rattle.std.specs.Prelude.{◌≡◌, ◌≢◌, ℕ, zero, suc, ◌+◌, ◌<◌, ◌≤◌, List, slice_index_or}
use Rattle.cert_rules.specs.declared.skyline.Run.{Run}

-- some columns from a on have the height h
abbrev pub IsFlat : List ℕ → ℕ → ℕ → ℕ → Type 0
IsFlat hs a n h = (k : ℕ) → a ≤ k → k < a + n → slice_index_or hs k 0 ≡ h

-- the entry of column a
abbrev pub entry : List Run → ℕ → Run
entry rs a = slice_index_or rs a (record { width = 0; height = 0 })

-- n runs of equal height lead from column a to column b, each by the entry of the column where it starts
abbrev pub Leads : List Run → List ℕ → ℕ → ℕ → ℕ → Type 0
Leads rs hs zero a b = a ≡ b
Leads rs hs (suc n) a b =
    (0 < (entry rs a).width)
    × IsFlat hs a (entry rs a).width (entry rs a).height
    × Leads rs hs n (a + (entry rs a).width) b

-- runs lead from column a to column b
abbrev pub HasRuns : List Run → List ℕ → ℕ → ℕ → Type 0
HasRuns rs hs a b = (n : ℕ) × Leads rs hs n a b

-- of the first c columns, y is the lowest height, x its leftmost column and run the flat run from there
pub record Scan (hs : List ℕ) (x y run c : ℕ) : Type 0 where
  pub some : 0 < run
  pub within : x + run ≤ c
  pub least : (k : ℕ) → k < c → y ≤ slice_index_or hs k 0
  pub first : (k : ℕ) → k < x → slice_index_or hs k 0 ≢ y
  pub flat : IsFlat hs x run y
  pub ends : x + run < c → slice_index_or hs (x + run) 0 ≢ y
