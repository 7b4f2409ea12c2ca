use Rattle.std.proofs.Common.{◌*◌, ◌+◌, length}
use Rattle.block_tables.specs.declared.patterns.Pattern.TheVariants.{Four}
use Rattle.block_tables.specs.Built.{IsFilling}
use Rattle.g4_patterns.proofs.closing.fill_row.Given as goal

abbrev pub invariant-loop-c : goal.invariant-loop-c
invariant-loop-c l = IsFilling l.fn.inst Four l.px.normal l.py.normal l.f (l.r * length l.py.normal + l.c)
