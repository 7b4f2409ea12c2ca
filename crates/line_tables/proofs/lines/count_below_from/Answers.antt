use Rattle.std.proofs.Common.{inl, inr, arith}
use Rattle.std.proofs.lemmas.Bool.{cases_lt}
use Rattle.line_tables.specs.Laws.{lines_below}
use Rattle.line_tables.proofs.LineSteps.{IsSplit, split-rising}
use Rattle.line_tables.proofs.lines.count_below_from.Goals as goal

pub returns-then-from-place-clause-value : goal.returns-then-from-place-clause-value
returns-then-from-place-clause-value c =
    let m = lines_below c.args.lines.now c.args.place in
    let s : IsSplit c.args.lines.now c.args.place m = split-rising c.args.lines.now c.args.place c.requires.rising in
    elim (cases_lt c.loop-k.k m) [
      | inl l ↦ absurd (omega (arith, s.before c.loop-k.k l, c.from.ensures, c.if-from-place.true))
      | inr l ↦ omega (arith, c.loop-k.invariant)
    ]

pub loop-k-preserved : goal.loop-k-preserved
loop-k-preserved c =
    let m = lines_below c.args.lines.now c.args.place in
    let s : IsSplit c.args.lines.now c.args.place m = split-rising c.args.lines.now c.args.place c.requires.rising in
    elim (cases_lt c.loop-k.k m) [
      | inl l ↦ omega arith
      | inr l ↦ absurd (omega (arith, s.after c.loop-k.k l c.loop-k-test.true, c.from.ensures, c.if-from-place.false))
    ]

pub returns-clause-value : goal.returns-clause-value
returns-clause-value c =
    let s : IsSplit c.args.lines.now c.args.place (lines_below c.args.lines.now c.args.place) = split-rising c.args.lines.now c.args.place c.requires.rising in
    omega (arith, s.few, c.loop-k.invariant, c.loop-k-test.false)
