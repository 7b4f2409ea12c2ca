use Rattle.std.proofs.Common.{◌≤◌, ◌+◌, ◌*◌, ◌∙◌, length, sym, subst, refl, arith}
use Rattle.plan_geometry.specs.Layout.{IsLayout}
use Rattle.contact_rules.proofs.AreaSteps.{part-area, more-area}
use Rattle.contact_rules.proofs.SweepSteps.{sweep-starts, sweep-stops}
use Rattle.contact_rules.proofs.shares.contact.Goals as goal

pub loop-k-init : goal.loop-k-init
loop-k-init c =
    record {
      value = sym (sweep-starts c.args.lower.now.inst c.args.gap c.args.upper c.args.lower.now.spots c.near_places-first.result.0 (λ n. n) c.requires.gap c.requires.inside c.near_places-first.ensures.first refl);
      within = c.near_places-first.ensures.first.within;
      small = omega arith;
    }

pub overflow_add-total : goal.overflow_add-total
overflow_add-total c =
    let I = c.inst-inst.result in
    let xs = c.args.lower.now.spots in
    let k = c.loop-k.k in
    let h : IsLayout I xs = subst (λ J. IsLayout J xs) (sym c.inst-inst.ensures.value) c.inst-inst.ensures.layer.layout in
    let lt : k + 1 ≤ length xs = omega (arith, c.loop-k-test.true, c.near_places-first.ensures.last.within) in
    omega (arith, part-area I xs (k + 1) h lt, more-area (I.long * I.short) c.loop-k.total c.shared_area-total.result k c.loop-k.invariant.small c.shared_area-total.ensures.small)

pub returns : goal.returns
returns c =
    let I = c.inst-inst.result in
    let xs = c.args.lower.now.spots in
    let k = c.loop-k.k in
    let h : IsLayout I xs = subst (λ J. IsLayout J xs) (sym c.inst-inst.ensures.value) c.inst-inst.ensures.layer.layout in
    record {
      value = c.loop-k.invariant.value ∙ sweep-stops c.args.lower.now.inst c.args.gap c.args.upper xs c.near_places-first.result.1 k (λ n. n) c.requires.gap c.requires.inside c.near_places-first.ensures.last c.loop-k-test.false refl;
      small = omega (arith, part-area I xs k h c.loop-k.invariant.within, c.loop-k.invariant.small);
    }
