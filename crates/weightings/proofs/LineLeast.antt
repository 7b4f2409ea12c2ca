-- The least weight of a case under a table on few lines.
use Rattle.std.proofs.Common.{◌≡◌, ℕ, ◌+◌, ◌≤◌}
use Rattle.plan_geometry.specs.declared.spots.Way.{Way}
use Rattle.plan_geometry.specs.declared.instances.Inst.{Inst}
use Rattle.plan_geometry.specs.Layout.{x_extent, y_extent}
use Rattle.plan_geometry.specs.Weight.{block_weight}
use Rattle.line_tables.specs.Least.{IsLeastOf, IsInsideSo}
use Rattle.weightings.specs.Weighting.{IsLeastOfWay}

pub IsLeastOfWay-of : (I : Inst) (g : ℕ → ℕ → ℕ) (w : Way) (q : ℕ) → IsLeastOf I g (IsInsideSo I w) q → IsLeastOfWay I g w q
IsLeastOfWay-of I g w q h =
    let in_x : h.spot.x + x_extent I w ≤ I.l_side = rw h.counts.1 at h.counts.0.in_x in
    let in_y : h.spot.y + y_extent I w ≤ I.w_side = rw h.counts.1 at h.counts.0.in_y in
    let e : block_weight g h.spot.x h.spot.y (x_extent I w) (y_extent I w) ≡ q = rw h.counts.1 at h.reached in
    record {
      bound = λ s ins way. h.bound s (ins, way);
      x = h.spot.x;
      y = h.spot.y;
      inside = record { in_x = in_x; in_y = in_y };
      reached = e;
    }
