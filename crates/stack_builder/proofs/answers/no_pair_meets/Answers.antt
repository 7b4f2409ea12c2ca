use Rattle.std.proofs.Common.{◌↔◌, List, IsTrue, subst}
use Rattle.contact_rules.specs.declared.rules.Rule.{Rule}
use Rattle.stack_builder.specs.Pairs.{Interlocks}
use Rattle.stack_builder.proofs.FirstPairs.{alone-known}
use Rattle.stack_builder.proofs.answers.no_pair_meets.Goals as goal

pub returns-then-all : goal.returns-then-all
returns-then-all c =
    alone-known c.args.inst c.args.gap c.args.variants.now c.args.rule c.interlocks.result c.requires.gap c.requires.variants (c.requires.all c.if-all.true) (subst (λ (l : List Rule). IsTrue c.interlocks.result ↔ Interlocks c.args.inst c.args.gap l c.args.variants.now) c.as_slice.ensures c.interlocks.ensures)
