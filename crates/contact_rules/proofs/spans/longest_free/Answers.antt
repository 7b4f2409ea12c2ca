use Rattle.std.proofs.Common.{◌≡◌, ◌≤◌, max, get_or, take, arith, inl, inr}
use Rattle.std.proofs.lemmas.Bool.{cases_lt}
use Rattle.std.proofs.lemmas.List.Elements.{All-more, All-nil}
use Rattle.contact_rules.specs.declared.spans.Span.{Span}
use Rattle.contact_rules.proofs.RunSteps.{All-end}
use Rattle.contact_rules.proofs.SpanSteps.{nothing, FreesFrom, FreesFrom-more, frees-bounded}
use Rattle.contact_rules.proofs.spans.longest_free.Goals as goal

pub loop-p-init : goal.loop-p-init
loop-p-init c =
    record {
      first = λ n f. (c.free_from-most.ensures n).1 f;
      each = All-nil (FreesFrom c.args.spans.now c.args.side c.free_from-most.result);
      reached = (0, (c.free_from-most.ensures c.free_from-most.result).0 (omega arith));
    }

pub loop-p-preserved : goal.loop-p-preserved
loop-p-preserved c =
    let ps = c.args.spans.now in
    let side = c.args.side in
    let i = c.loop-p.p-index in
    let p : Span = get_or ps i nothing in
    let r = c.free_from.result in
    let new = c.max-most.result in
    let e : new ≡ max c.loop-p.most r = cc in
    record {
      first = λ n f. let z : n ≤ c.loop-p.most = c.loop-p.invariant.first n f in omega arith;
      each = All-more (FreesFrom ps side new) ps i nothing c.loop-p-test.true (FreesFrom-more ps side c.loop-p.most new (take i ps) (omega arith) c.loop-p.invariant.each) (λ n f. let z : n ≤ r = (c.free_from.ensures n).1 f in omega arith);
      reached = elim (cases_lt c.loop-p.most r) [
        | inl lt ↦ let z : new ≡ r = omega arith in rw z (p.finish, (c.free_from.ensures r).0 (omega arith))
        | inr ge ↦ let z : new ≡ c.loop-p.most = omega arith in rw z c.loop-p.invariant.reached
      ];
    }

pub returns : goal.returns
returns c =
    let ps = c.args.spans.now in
    record {
      bound = frees-bounded ps c.args.side c.loop-p.most c.loop-p.invariant.first (All-end (FreesFrom ps c.args.side c.loop-p.most) ps c.loop-p.p-index c.loop-p-test.false c.loop-p.invariant.each);
      reached = c.loop-p.invariant.reached;
      within = omega (arith, c.loop-p.invariant.reached.1.within);
    }
