use Rattle.std.proofs.Common.{◌≡◌, ◌∙◌, true, false, sym, subst, arith}
use Rattle.plan_geometry.specs.Layout.{IsLayout}
use Rattle.dual_search.specs.Dual.{IsDual}
use Rattle.std.proofs.lemmas.Result.{IfOk-weaker}
use Rattle.layer_planner.proofs.TableLemmas.{table-text, reached-dual, dual-is, dual-none}
use Rattle.layer_planner.proofs.tables.or_dual.Goals as goal
use Rattle.layer_planner.proofs.tables.or_dual.Goals.{then-known-count-via-then-known-count, then-known-count-via-else-known-count+then-not-has_few_cells}

never : false ≡ true → ⊥
never e = cc

pub returns-then-known-count-clause-dual : goal.returns-then-known-count-clause-dual
returns-then-known-count-clause-dual c =
    let s = c.args.layer.now.spots in
    let l : IsLayout c.args.reduced s = subst (λ i. IsLayout i s) c.requires.inst c.requires.layer.layout in
    elim c.then-known-count.branch [
      | then-known-count-via-then-known-count w ↦ reached-dual c.args.reduced c.args.known.bound s (omega (arith, w.if-known-count.true, c.count-count.ensures.value)) l
      | then-known-count-via-else-known-count+then-not-has_few_cells w ↦ λ t n few. absurd (never (sym w.if-not-has_few_cells.true ∙ w.has_few_cells.ensures.1 few))
    ]

pub returns-in_default-clause-dual : goal.returns-in_default-clause-dual
returns-in_default-clause-dual c = dual-none c.args.reduced c.args.known.bound (subst (λ a. IsDual c.args.reduced 2000 a) c.in_default.is c.in_ok-table.ensures.best)

pub or_table-requires-clause-text : goal.or_table-requires-clause-text
or_table-requires-clause-text c =
    let sides : (c.in-Some.table.x_side ≡ c.args.reduced.l_side) × (c.in-Some.table.y_side ≡ c.args.reduced.w_side) = rw c.in-Some.is at c.in_ok-table.ensures.sides in
    table-text c.args.reduced c.in-Some.table c.x_side.ensures.table sides.0 sides.1

pub returns-clause-dual : goal.returns-clause-dual
returns-clause-dual c =
    IfOk-weaker c.or_table.result _ _
    (λ k value. dual-is c.args.reduced c.in-Some.table k.bound (subst (λ a. IsDual c.args.reduced 2000 a) c.in-Some.is c.in_ok-table.ensures.best) value)
    c.or_table.ensures.value
