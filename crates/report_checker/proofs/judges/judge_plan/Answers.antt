use Rattle.std.proofs.Common.{◌≡◌, ◌<◌, List, length, sym, subst}
use Rattle.plan_entries.specs.declared.listed.Listed.{Listed}
use Rattle.plan_entries.specs.Entries.{variants_on}
use Rattle.plan_soundness.specs.Sound.{IsListedLayer}
use Rattle.report_checker.specs.Places.{IsFirstWithout, IsFirstDifference}
use Rattle.report_checker.specs.Verdicts.{IsFirstOf}
use Rattle.report_checker.proofs.OneVerdict.{fails-layout, fails-variants}
use Rattle.report_checker.proofs.Parts.{AreTurned, turned-of, variants-listed, some-layers}
use Rattle.report_checker.proofs.judges.judge_plan.Goals as goal

pub first_layer-requires-clause-some : goal.first_layer-requires-clause-some
first_layer-requires-clause-some c =
    subst (λ (l : List Listed). 0 < length l) (sym c.as_slice-layers.ensures) (some-layers c.args.plan.now c.requires)

pub returns-in-Err : goal.returns-in-Err
returns-in-Err c =
    let p = c.args.plan.now in
    let bad : IsFirstWithout (IsListedLayer p.order p.count) c.as_slice-layers.result.now c.in-Err.item = rw c.in-Err.is at c.in_ok-first.ensures in
    fails-layout p c.in-Err.item (c.keeps_sides.ensures.0 c.if-not-keeps_sides.false)
    (subst (λ l. IsFirstWithout (IsListedLayer p.order p.count) l c.in-Err.item) c.as_slice-layers.ensures bad)

pub returns-in-Some : goal.returns-in-Some
returns-in-Some c =
    let p = c.args.plan.now in
    let ls = c.as_slice-layers.result.now in
    let I = c.inst-given.result in
    let vs = c.as_slice.result.now in
    let first : IsFirstOf p.order p.count ls c.in-Ok.first = rw c.in-Ok.is at c.in_ok-first.ensures in
    let t : AreTurned p I vs = turned-of p c.in-Ok.first I c.in_ok-turned.turned.items vs (subst (λ l. IsFirstOf p.order p.count l c.in-Ok.first) c.as_slice-layers.ensures first) c.inst-given.ensures.value c.as_slice.ensures.value c.in_ok-turned.ensures.variants in
    fails-variants p c.in-Some.item I vs (c.keeps_sides.ensures.0 c.if-not-keeps_sides.false) t.layers t.given t.variants
    (subst (λ l. IsFirstDifference (variants_on I l) vs c.in-Some.item) c.as_slice-layers.ensures c.in-Some.ensures)

pub judge_listed-requires-clause-kept : goal.judge_listed-requires-clause-kept
judge_listed-requires-clause-kept c = c.keeps_sides.ensures.0 c.if-not-keeps_sides.false

pub judge_listed-requires-clause-variants : goal.judge_listed-requires-clause-variants
judge_listed-requires-clause-variants c =
    let p = c.args.plan.now in
    let ls = c.as_slice-layers.result.now in
    let I = c.inst-given.result in
    let vs = c.as_slice.result.now in
    let first : IsFirstOf p.order p.count ls c.in-Ok.first = rw c.in-Ok.is at c.in_ok-first.ensures in
    let t : AreTurned p I vs = turned-of p c.in-Ok.first I c.in_ok-turned.turned.items vs (subst (λ l. IsFirstOf p.order p.count l c.in-Ok.first) c.as_slice-layers.ensures first) c.inst-given.ensures.value c.as_slice.ensures.value c.in_ok-turned.ensures.variants in
    (variants-listed p I vs t.given t.variants).0 (subst (λ l. variants_on I l ≡ vs) c.as_slice-layers.ensures c.in-None.ensures)
