use Rattle.std.proofs.Common.{refl, arith}
use Rattle.std.proofs.lemmas.List.{same_lists}
use Rattle.stack_builder.proofs.forms.same_lists.Goals as goal

pub returns : goal.returns
returns c = (λ _. same_lists c.args.a.now c.args.b.now c.if-a-b.false (λ k d lt. c.loop-k.invariant k d (omega arith)), λ _. refl)
