use Rattle.std.proofs.Common.{rules, length, arith, ap, sym}
use Rattle.block_tables.proofs.EntryLemmas.{empty-is}
use Rattle.block_tables.proofs.filling.empty_filling.Goals as goal

pub returns : goal.returns
returns c =
    let ex = c.normal-x_count.ensures.value in
    let ey = c.normal-y_count.ensures.value in
    empty-is c.args.inst c.args.pattern c.args.px.now c.args.py.now _ c.normal-x_count.ensures.points c.normal-y_count.ensures.points c.requires.px c.requires.py
    c.requires.few_x c.requires.few_y c.in_ok-places_of.ensures.placed c.in_ok-places_of-2.ensures.placed c.in_ok-places_of.ensures.long c.in_ok-places_of-2.ensures.long
    (sym (ap length ex)) (sym (ap length ey)) (search rules) (omega (arith, c.in_ok-splits.ensures.len, c.in_ok-splits.splits.ok.0))
