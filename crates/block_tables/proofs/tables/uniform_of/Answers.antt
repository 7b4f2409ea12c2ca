use Rattle.std.proofs.Common.{rules, ◌≡◌, arith}
use Rattle.block_tree.specs.Trees.{uniform}
use Rattle.block_tables.proofs.EntryLemmas.{uniform-small}
use Rattle.block_tables.proofs.tables.uniform_of.Goals as goal

pub returns-clause-small : goal.returns-clause-small
returns-clause-small c =
    let i = c.args.inst in
    let e : c.max.result ≡ uniform i c.args.a c.args.b = search rules in
    omega (arith, e, uniform-small i c.args.a c.args.b c.requires.a_small c.requires.b_small)
