-- A table of the next normal places of a side.
use Rattle.std.specs.Prelude.{◌≡◌, ℕ, ◌+◌, ◌<◌, List, length, slice_index_or}
use Rattle.plan_geometry.specs.declared.instances.Inst.{Inst}
use Rattle.cert_rules.specs.Next.{next}

-- at each place of the side stands the next normal place
pub record ListsNext (i : Inst) (side : ℕ) (table : List ℕ) : Type 0 where
  pub count : length table ≡ side + 1
  pub each : (k : ℕ) → k < length table → slice_index_or table k 0 ≡ next i side k

-- what a table is: the instance and the side
pub record SideOf : Type 0 where
  pub inst : Inst
  pub side : ℕ

-- the table is that of the instance and the side
pub record IsTableOf (i : Inst) (side : ℕ) (t : SideOf) : Type 0 where
  pub of_inst : t.inst ≡ i
  pub of_side : t.side ≡ side
