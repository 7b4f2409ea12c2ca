use Rattle.dual_search.proofs.Rows.{some-more}
use Rattle.dual_search.proofs.raising.raise_block.Goals as goal

pub loop-j-preserved : goal.loop-j-preserved
loop-j-preserved c =
    let a = c.args in
    some-more a.width a.x a.y a.a c.loop-j.j a.list.now c.loop-j.list c.raise_row.new.list c.requires.across c.loop-j.invariant c.raise_row.ensures
