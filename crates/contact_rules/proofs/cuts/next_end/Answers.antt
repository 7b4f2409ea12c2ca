use Rattle.std.proofs.Common.{◌≡◌, min, get_or, take, inl, inr, arith}
use Rattle.std.proofs.lemmas.Bool.{cases_lt}
use Rattle.std.proofs.lemmas.List.{get_or_default}
use Rattle.std.proofs.lemmas.List.Elements.{All-more}
use Rattle.plan_geometry.specs.declared.spots.Spot.{Spot}
use Rattle.contact_rules.specs.Real.{real_finish}
use Rattle.contact_rules.specs.Steps.{EndsFrom}
use Rattle.contact_rules.proofs.RunSteps.{corner, All-end, EndsFrom-less}
use Rattle.contact_rules.proofs.cuts.next_end.Goals as goal
use Rattle.contact_rules.proofs.cuts.next_end.Goals.{then-from-end, else-from-end}

pub loop-s-preserved : goal.loop-s-preserved
loop-s-preserved c =
    let a = c.args.axis in
    let I = c.args.inst in
    let g = c.args.gap in
    let xs = c.args.spots.now in
    let i = c.loop-s.s-index in
    let from = c.args.from in
    let s : Spot = get_or xs i corner in
    let end = c.real_finish_along-end.result in
    let e : end ≡ real_finish a I g s = c.real_finish_along-end.ensures.value in
    elim c.if-from-end.branch [
      | then-from-end w ↦
          let new = c.if-from-end.next in
          let m : new ≡ min c.loop-s.next end = cc in
          record {
            ahead = omega (arith, c.loop-s.invariant.ahead, w.if-from-end.true);
            limited = omega (arith, c.loop-s.invariant.limited);
            skips = All-more (EndsFrom a I g from new) xs i corner c.loop-s-test.true (EndsFrom-less a I g from c.loop-s.next new (take i xs) (omega arith) c.loop-s.invariant.skips) (λ at. omega arith);
            reached = elim (cases_lt end c.loop-s.next) [
              | inl lt ↦ inr (i, s, c.loop-s-test.true, get_or_default xs i s corner c.loop-s-test.true, (let z : real_finish a I g s ≡ new = omega arith in z))
              | inr ge ↦ let z : new ≡ c.loop-s.next = omega arith in rw z c.loop-s.invariant.reached
            ];
          }
      | else-from-end w ↦
          rw w.next-is (record {
            ahead = c.loop-s.invariant.ahead;
            limited = c.loop-s.invariant.limited;
            skips = All-more (EndsFrom a I g from c.loop-s.next) xs i corner c.loop-s-test.true c.loop-s.invariant.skips (λ at. absurd (omega (arith, w.if-from-end.false)));
            reached = c.loop-s.invariant.reached;
          })
    ]

pub returns-clause-skips : goal.returns-clause-skips
returns-clause-skips c =
    All-end (EndsFrom c.args.axis c.args.inst c.args.gap c.args.from c.loop-s.next) c.args.spots.now c.loop-s.s-index c.loop-s-test.false c.loop-s.invariant.skips
