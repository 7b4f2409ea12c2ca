use Rattle.std.proofs.Common.{◌≡◌, ◌≤◌, min, get_or}
use Rattle.std.proofs.lemmas.List.Elements.{All-take}
use Rattle.contact_rules.specs.Steps.{StopsBy}
use Rattle.contact_rules.proofs.RunSteps.{iff-more, All-end}
use Rattle.contact_rules.proofs.SpanSteps.{stop-keeps, stop-takes, nothing}
use Rattle.contact_rules.proofs.spans.stop.Goals as goal
use Rattle.contact_rules.proofs.spans.stop.Goals.{then-row-p, else-row-p}

pub loop-p-preserved : goal.loop-p-preserved
loop-p-preserved c = λ m.
    let xs = c.args.spans.now in
    let i = c.loop-p.p-index in
    let p = get_or xs i nothing in
    iff-more (StopsBy c.args.row m) xs i nothing (m ≤ c.loop-p.stop) (m ≤ c.if-row-p.stop) (m ≤ c.args.limit) c.loop-p-test.true (c.loop-p.invariant m) (elim c.if-row-p.branch [
      | then-row-p w ↦
          let e : c.if-row-p.stop ≡ min c.loop-p.stop p.start = cc in
          stop-takes c.args.row c.loop-p.stop c.if-row-p.stop m p w.if-row-p.true e
      | else-row-p w ↦ rw w.stop-is (stop-keeps c.args.row c.loop-p.stop m p w.if-row-p.false)
    ])

pub returns : goal.returns
returns c = λ m. (
  λ h. let z = (c.loop-p.invariant m).0 h in (z.0, All-end (StopsBy c.args.row m) c.args.spans.now c.loop-p.p-index c.loop-p-test.false z.1),
  λ h. (c.loop-p.invariant m).1 (h.0, All-take (StopsBy c.args.row m) c.loop-p.p-index c.args.spans.now h.1),
)
