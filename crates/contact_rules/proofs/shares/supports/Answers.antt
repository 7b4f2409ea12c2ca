use Rattle.std.proofs.Common.{◌≤◌, ◌+◌, ◌∙◌, cond, ltb, length, sym, refl, arith}
use Rattle.contact_rules.proofs.AreaSteps.{layer-count}
use Rattle.contact_rules.proofs.SweepSteps.{sweep-starts, sweep-stops}
use Rattle.contact_rules.proofs.shares.supports.Goals as goal

pub loop-k-init : goal.loop-k-init
loop-k-init c =
    record {
      value = sym (sweep-starts c.args.lower.now.inst c.args.gap c.args.upper c.args.lower.now.spots c.near_places-first.result.0 (λ n. cond (ltb 0 n) 1 0) c.requires.gap c.requires.inside c.near_places-first.ensures.first refl);
      few = omega arith;
    }

pub overflow_add-count : goal.overflow_add-count
overflow_add-count c =
    let xs = c.args.lower.now.spots in
    let lt : c.loop-k.k + 1 ≤ length xs = omega (arith, c.loop-k-test.true, c.near_places-first.ensures.last.within) in
    omega (arith, layer-count c.args.lower.now.inst xs c.inst-inst.ensures.layer.layout, c.loop-k.invariant.few)

pub returns : goal.returns
returns c =
    c.loop-k.invariant.value ∙ sweep-stops c.args.lower.now.inst c.args.gap c.args.upper c.args.lower.now.spots c.near_places-first.result.1 c.loop-k.k (λ n. cond (ltb 0 n) 1 0) c.requires.gap c.requires.inside c.near_places-first.ensures.last c.loop-k-test.false refl
