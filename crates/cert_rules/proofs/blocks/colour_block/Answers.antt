use Rattle.std.proofs.Common.{◌≤◌, ◌+◌, ◌*◌, arith}
use Rattle.cert_rules.proofs.BlockSums.{colour-more}
use Rattle.cert_rules.proofs.blocks.colour_block.Goals as goal

pub loop-i-preserved : goal.loop-i-preserved
loop-i-preserved c =
    let few : c.count-sum.result ≤ c.args.b = c.count-sum.ensures.small in
    let most : c.args.y + c.args.b ≤ 4000 = c.requires.along in
    let s : c.loop-i.sum ≤ c.loop-i.i * 4000 = c.loop-i.invariant.small in
    record {
      value = colour-more c.args.k c.args.c c.args.x c.args.y c.args.b c.loop-i.i c.loop-i.sum c.count-sum.result c.loop-i.invariant.value c.count-sum.ensures.value;
      small = omega arith;
    }
