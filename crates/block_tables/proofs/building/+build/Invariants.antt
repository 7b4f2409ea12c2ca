use Rattle.std.proofs.Common.{◌+◌, ◌*◌, slice_index}
use Rattle.block_tables.proofs.building.+build.Given as goal

abbrev pub decreases-build : goal.decreases-build
decreases-build l = 3 * (l.r * l.d.table.now.y_count + l.c)

abbrev pub decreases-build_part : goal.decreases-build_part
decreases-build_part l = 3 * (slice_index l.d.table.now.x_places.items l.p * l.d.table.now.y_count + slice_index l.d.table.now.y_places.items l.q) + 1

abbrev pub decreases-build_centre : goal.decreases-build_centre
decreases-build_centre l = 3 * (slice_index l.d.table.now.x_places.items l.p * l.d.table.now.y_count + slice_index l.d.table.now.y_places.items l.q) + 2
