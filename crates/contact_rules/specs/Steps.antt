use Rattle.std.specs.Prelude.{◌≡◌, ℕ, ◌+◌, ◌-◌, ◌<◌, ◌≤◌, min, max, ◌⊎◌, Bool, ◌&&◌, nat_lt, List, length, map, filter, All}
use Rattle.std.specs.List.{AllWithin}
use Rattle.plan_geometry.specs.declared.spots.Axis.{Axis}
use Rattle.plan_geometry.specs.declared.spots.Spot.{Spot}
use Rattle.plan_geometry.specs.declared.instances.Inst.{Inst}
use Rattle.plan_geometry.specs.Layout.{start}
use Rattle.contact_rules.specs.declared.spans.Span.{Span}
use Rattle.contact_rules.specs.Real.{other, real_finish}
use Rattle.contact_rules.specs.Cut.{SomeCase, IsRun}

-- how far two cases overlap
abbrev pub overlap : Axis → Inst → ℕ → Spot → Spot → ℕ
overlap a I gap s t = min (real_finish a I gap s) (real_finish a I gap t) - max (start a s) (start a t)

-- the row lies in the span
abbrev pub LiesIn : ℕ → Span → Type 0
LiesIn row p = (p.start ≤ row) × (row < p.finish)

-- a span of at least one row, below the side
pub record IsSpanWithin (side : ℕ) (p : Span) : Type 0 where
  pub some : p.start < p.finish
  pub within : p.finish ≤ side

-- n consecutive rows from a row on, below the side, none of which lies in a span
pub record IsFree (spans : List Span) (side row n : ℕ) : Type 0 where
  pub within : row + n ≤ side
  pub outside : (k : ℕ) → row ≤ k → k < row + n → All (λ p. ¬ LiesIn k p) spans

-- a span that ends after the row does not begin before m
abbrev pub StopsBy : ℕ → ℕ → Span → Type 0
StopsBy row m p = row < p.finish → m ≤ p.start

-- what the case covers along the other direction
abbrev pub span_of : Axis → Inst → ℕ → Spot → Span
span_of a I gap s = record { start = start (other a) s; finish = real_finish (other a) I gap s }

-- whether the case begins before the line and ends after it
abbrev pub crosses : Axis → Inst → ℕ → ℕ → Spot → Bool
crosses a I gap line s = nat_lt (start a s) line && nat_lt line (real_finish a I gap s)

-- the spans of the cases that cross the line
abbrev pub crossing : Axis → Inst → ℕ → ℕ → List Spot → List Span
crossing a I gap line spots = map (λ s. span_of a I gap s) (filter (λ s. crosses a I gap line s) spots)

-- a case that ends at or after `from` does not end before `next`
abbrev pub EndsFrom : Axis → Inst → ℕ → ℕ → ℕ → Spot → Type 0
EndsFrom a I gap from next s = from ≤ real_finish a I gap s → next ≤ real_finish a I gap s

-- n is the greater of `most` and the longest run at the line, if some case begins at or after the line
pub record IsLongest (a : Axis) (I : Inst) (gap : ℕ) (lower upper : List Spot) (line most n : ℕ) : Type 0 where
  pub grows : most ≤ n
  pub bound : SomeCase (λ s. line ≤ start a s) lower upper → (row m : ℕ) → IsRun a I gap lower upper line row m → m ≤ n
  pub reached : (n ≡ most) ⊎ (SomeCase (λ s. line ≤ start a s) lower upper × ((row : ℕ) × IsRun a I gap lower upper line row n))

-- the cases before the place end at or before the row, were each as long as `reach`, and those from it on after it
pub record IsFirstNear (spots : List Spot) (reach row place : ℕ) : Type 0 where
  pub within : place ≤ length spots
  pub before : AllWithin (λ s. s.y + reach ≤ row) spots 0 place
  pub from : AllWithin (λ s. row < s.y + reach) spots place (length spots)

-- the cases before the place begin before the row, and those from it on at or after it
pub record IsFirstBehind (spots : List Spot) (row place : ℕ) : Type 0 where
  pub within : place ≤ length spots
  pub before : AllWithin (λ s. s.y < row) spots 0 place
  pub from : AllWithin (λ s. row ≤ s.y) spots place (length spots)
