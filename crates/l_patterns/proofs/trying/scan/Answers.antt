use Rattle.std.proofs.Common.{arith}
use Rattle.l_patterns.proofs.ScanLemmas.{tried-more, failed}
use Rattle.l_patterns.proofs.trying.scan.Goals as goal

pub loop-k-preserved : goal.loop-k-preserved
loop-k-preserved c =
    tried-more c.args.q c.args.f.region c.args.f.need c.loop-k.k c.nth_cut-cut.result c.loop-k.invariant c.nth_cut-cut.ensures.value c.in-Skip.ensures

pub returns : goal.returns
returns c =
    failed c.args.q c.requires.sides c.args.f c.requires.frame c.loop-k.k (omega (arith, c.loop-k-test.false, c.cut_count-k-end.ensures)) c.loop-k.invariant
