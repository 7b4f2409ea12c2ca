use Rattle.page_stacks.proofs.PlanRanges.{stack_is_small}
use Rattle.page_stacks.proofs.stacks.put_stack_words.Goals as goal

pub put_stack-requires-clause-stack : goal.put_stack-requires-clause-stack
put_stack-requires-clause-stack c = rw c.as_slice.ensures (stack_is_small c.args.plan.now c.in-Stack.stack c.requires c.in-Stack.is)
