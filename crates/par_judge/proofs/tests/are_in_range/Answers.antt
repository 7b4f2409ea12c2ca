use Rattle.std.proofs.Common.{List, subst}
use Rattle.std.specs.List.{All}
use Rattle.std.proofs.lemmas.List.{take_all}
use Rattle.std.proofs.lemmas.List.Elements.{All-more}
use Rattle.cert_text.specs.declared.forms.Form.TheVariants.{Two}
use Rattle.plan_entries.specs.declared.entries.Entry.{Entry}
use Rattle.plan_entries.specs.Ranges.{IsInRange}
use Rattle.par_judge.proofs.tests.are_in_range.Goals as goal

pub loop-index-preserved : goal.loop-index-preserved
loop-index-preserved c =
    All-more (IsInRange Two) c.args.entries.now c.loop-index.index c.index-entries-index.result c.loop-index-test.true c.loop-index.invariant
    (subst (IsInRange Two) c.index-entries-index.is (c.is_in_range.ensures.0 c.if-not-is_in_range.false))

pub returns : goal.returns
returns c = λ _. subst (λ (l : List Entry). All (IsInRange Two) l) (take_all c.loop-index.index c.args.entries.now c.loop-index-test.false) c.loop-index.invariant
