use Rattle.five_block.proofs.OrderLemmas.{cuts-more, cuts-same}
use Rattle.five_block.proofs.first_cuts.first_cuts.Goals as goal
use Rattle.five_block.proofs.first_cuts.first_cuts.Goals.{then-is_first_cut+in_ok-push, else-is_first_cut}

pub loop-x-preserved : goal.loop-x-preserved
loop-x-preserved c =
    elim c.if-is_first_cut.branch [
      | then-is_first_cut+in_ok-push w ↦ rw w.out-is (cuts-more c.args.inst c.args.s c.loop-x.x c.loop-x.out.items w.push.new.self.items w.in_ok-push.ensures.items c.loop-x.invariant (c.is_first_cut.ensures.0 w.if-is_first_cut.true))
      | else-is_first_cut w ↦ rw w.out-is (cuts-same c.args.inst c.args.s c.loop-x.x c.loop-x.out.items c.loop-x.invariant (λ h. (let q = c.is_first_cut.ensures.1 h in let r = w.if-is_first_cut.false in cc)))
    ]
