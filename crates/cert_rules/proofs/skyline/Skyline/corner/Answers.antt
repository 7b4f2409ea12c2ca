use Rattle.std.proofs.Common.{◌≡◌, ◌≤◌, ◌+◌, ℕ, List, length, ap, ◌∙◌, subst, sym, arith}
use Rattle.cert_rules.specs.Path.{Path, state}
use Rattle.cert_rules.specs.Runs.{HasRuns}
use Rattle.cert_rules.specs.declared.skyline.Run.{Run}
use Rattle.cert_rules.proofs.RunSteps.{runs-start, runs-next}
use Rattle.cert_rules.proofs.Paths.{after-at, corner-found}
use Rattle.cert_rules.proofs.skyline.Skyline.corner.Goals as goal

pub bounds-runs-0 : goal.bounds-runs-0
bounds-runs-0 c =
    let a = after-at c.self.inside c.args.self.now c.self.invariant c.self.view_is in
    let wide : length c.deref-runs.result.now ≡ c.args.self.now.inst.l_side + 1 = ap length c.deref-runs.ensures.value ∙ a.wide in
    omega arith

pub loop-c-init : goal.loop-c-init
loop-c-init c =
    let a = after-at c.self.inside c.args.self.now c.self.invariant c.self.view_is in
    let same : c.self.inside.inst.l_side ≡ c.args.self.now.inst.l_side = ap (λ (p : Path). p.inst.l_side) c.self.view_is in
    let runs : HasRuns c.deref-runs.result.now (state c.args.self.now).heights 0 c.self.inside.inst.l_side =
    subst (λ (rs : List Run). HasRuns rs (state c.args.self.now).heights 0 c.self.inside.inst.l_side) (sym c.deref-runs.ensures.value)
    (subst (λ (n : ℕ). HasRuns c.self.inside.runs.items (state c.args.self.now).heights 0 n) (sym same) a.leads) in
    let some : 1 ≤ c.self.inside.inst.l_side = c.self.inside.inst.sides.l_min in
    let start = runs-start c.deref-runs.result.now (state c.args.self.now).heights c.self.inside.inst.l_side runs (omega arith) in
    record {
      columns = same;
      wide = ap length c.deref-runs.ensures.value ∙ (a.wide ∙ ap (λ (n : ℕ). n + 1) (sym same));
      scan = start.0;
      ahead = start.1;
    }

pub seen-best-requires-clause-range : goal.seen-best-requires-clause-range
seen-best-requires-clause-range c =
    let next = runs-next c.deref-runs.result.now (state c.args.self.now).heights c.loop-c.c c.self.inside.inst.l_side c.loop-c.invariant.ahead c.loop-c-test.true in
    let most : c.self.inside.inst.l_side ≤ 4000 = c.self.inside.inst.sides.l_max in
    omega (arith, next.3)

pub overflow_add-c : goal.overflow_add-c
overflow_add-c c =
    let next = runs-next c.deref-runs.result.now (state c.args.self.now).heights c.loop-c.c c.self.inside.inst.l_side c.loop-c.invariant.ahead c.loop-c-test.true in
    let most : c.self.inside.inst.l_side ≤ 4000 = c.self.inside.inst.sides.l_max in
    omega (arith, next.3)

pub loop-c-preserved : goal.loop-c-preserved
loop-c-preserved c =
    let next = runs-next c.deref-runs.result.now (state c.args.self.now).heights c.loop-c.c c.self.inside.inst.l_side c.loop-c.invariant.ahead c.loop-c-test.true in
    record {
      columns = c.loop-c.invariant.columns;
      wide = c.loop-c.invariant.wide;
      scan = c.seen-best.ensures (state c.args.self.now).heights c.loop-c.invariant.scan next.1 next.0;
      ahead = next.2;
    }

pub returns-clause-x : goal.returns-clause-x
returns-clause-x c =
    (corner-found c.self.inside c.args.self.now c.deref-runs.result.now c.loop-c.best.x c.loop-c.best.y c.loop-c.best.run c.loop-c.c c.self.inside.inst.l_side
    c.self.invariant c.self.view_is c.loop-c.invariant.scan c.loop-c.invariant.ahead c.loop-c.invariant.columns c.loop-c-test.false).0

pub returns-clause-y : goal.returns-clause-y
returns-clause-y c =
    (corner-found c.self.inside c.args.self.now c.deref-runs.result.now c.loop-c.best.x c.loop-c.best.y c.loop-c.best.run c.loop-c.c c.self.inside.inst.l_side
    c.self.invariant c.self.view_is c.loop-c.invariant.scan c.loop-c.invariant.ahead c.loop-c.invariant.columns c.loop-c-test.false).1

pub returns-clause-run : goal.returns-clause-run
returns-clause-run c =
    (corner-found c.self.inside c.args.self.now c.deref-runs.result.now c.loop-c.best.x c.loop-c.best.y c.loop-c.best.run c.loop-c.c c.self.inside.inst.l_side
    c.self.invariant c.self.view_is c.loop-c.invariant.scan c.loop-c.invariant.ahead c.loop-c.invariant.columns c.loop-c-test.false).2

pub returns-clause-fits : goal.returns-clause-fits
returns-clause-fits c =
    (corner-found c.self.inside c.args.self.now c.deref-runs.result.now c.loop-c.best.x c.loop-c.best.y c.loop-c.best.run c.loop-c.c c.self.inside.inst.l_side
    c.self.invariant c.self.view_is c.loop-c.invariant.scan c.loop-c.invariant.ahead c.loop-c.invariant.columns c.loop-c-test.false).3

pub returns-clause-low : goal.returns-clause-low
returns-clause-low c =
    (corner-found c.self.inside c.args.self.now c.deref-runs.result.now c.loop-c.best.x c.loop-c.best.y c.loop-c.best.run c.loop-c.c c.self.inside.inst.l_side
    c.self.invariant c.self.view_is c.loop-c.invariant.scan c.loop-c.invariant.ahead c.loop-c.invariant.columns c.loop-c-test.false).4
