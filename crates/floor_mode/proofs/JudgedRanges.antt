-- The entries of a floor's text are within the ranges.
use Rattle.std.proofs.Common.{ℕ, ◌+◌, List, [], ◌∷◌}
use Rattle.std.specs.List.{All}
use Rattle.std.proofs.lemmas.List.Elements.{All-nil, All-cons}
use Rattle.cert_text.specs.declared.forms.Form.TheVariants.{Two}
use Rattle.plan_entries.specs.Ranges.{IsInRange}
use Rattle.floor_text.specs.declared.rows.FloorRow.{FloorRow}
use Rattle.floor_text.specs.Text.{entries_in, AreRowsFrom, IsFloor}

ranges : (before : ℕ) (rows : List FloorRow) → AreRowsFrom before rows → All (IsInRange Two) (entries_in rows)
ranges before [] are = All-nil (IsInRange Two)
ranges before (r ∷ rs) are =
    All-cons (IsInRange Two) r.floor (r.load ∷ entries_in rs) are.0.floor.0 (All-cons (IsInRange Two) r.load (entries_in rs) are.0.load.0 (ranges (before + 1) rs are.1))

pub in-range : (rows : List FloorRow) → IsFloor rows → All (IsInRange Two) (entries_in rows)
in-range rows is = ranges 0 rows is.numbered
