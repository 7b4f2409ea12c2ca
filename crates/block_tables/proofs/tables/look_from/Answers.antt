use Rattle.std.proofs.Common.{arith, ◌≡◌, ◌<◌, ◌+◌, length, slice_index}
use Rattle.std.proofs.lemmas.List.{get_or_read}
use Rattle.block_tables.proofs.EntryLemmas.{in-table}
use Rattle.block_tables.proofs.tables.look_from.Goals as goal

pub index-requires : goal.index-requires
index-requires c =
    let t = c.args.t.now in
    let e : c.index-column.result.now ≡ slice_index t.y_places.items c.args.d = get_or_read t.y_places.items _ _ c.requires.d_in c.index-column.ensures 0 in
    omega (arith, c.requires.row, e, in-table t c.requires.table c.args.c c.args.d c.requires.c_in c.requires.d_in, t.values.ok.0)

pub returns-clause-small : goal.returns-clause-small
returns-clause-small c =
    let t = c.args.t.now in
    let e : c.index-column.result.now ≡ slice_index t.y_places.items c.args.d = get_or_read t.y_places.items _ _ c.requires.d_in c.index-column.ensures 0 in
    let p = in-table t c.requires.table c.args.c c.args.d c.requires.c_in c.requires.d_in in
    let l : c.args.row + c.index-column.result.now < length t.values.items = omega (arith, c.requires.row, e, p) in
    let v : c.index.result.now ≡ slice_index t.values.items (c.args.row + c.index-column.result.now) = get_or_read t.values.items _ _ l c.index.ensures 0 in
    omega (arith, v, c.requires.table.small _ l)
