use Rattle.std.proofs.Common.{◌+◌, ◌/◌, ◌%◌, arith, subst}
use Rattle.std.proofs.lemmas.Nat.{mul-le}
use Rattle.plan_geometry.specs.declared.spots.Axis.TheVariants.{X, Y}
use Rattle.dual_search.specs.Raising.{Raises, IsInBlock}
use Rattle.dual_search.specs.Positions.{places}
use Rattle.dual_search.proofs.Held.{cell-at, held-raised}
use Rattle.dual_search.proofs.positions.raise_positions.Goals as goal

pub raise_block-requires-clause-along : goal.raise_block-requires-clause-along
raise_block-requires-clause-along c =
    let a = c.args in
    let w = c.window_over-along.result in
    let le = mul-le (w.from + w.count) (places X a.inst a.way) (places Y a.inst a.way) (places X a.inst a.way) c.window_over-along.ensures.within (omega arith) in
    rw c.places_along.ensures.value (omega (arith, le, c.requires.count))

pub returns-clause-raised : goal.returns-clause-raised
returns-clause-raised c = λ cells count held.
    let a = c.args in
    let I = a.inst in
    let across = c.window_over-across.result in
    let along = c.window_over-along.result in
    let at = cell-at I a.cell c.requires.on in
    let raised : Raises (places X I a.way) (IsInBlock across.from along.from across.count along.count) a.weights.now c.raise_block.new.list =
    subst (λ n. Raises n (IsInBlock across.from along.from across.count along.count) a.weights.now c.raise_block.new.list) c.places_along.ensures.value c.raise_block.ensures.raised in
    held-raised I a.way a.cell (a.cell % I.l_side) (a.cell / I.l_side) across along cells a.weights.now c.raise_block.new.list at.0
    (omega (arith, count, c.requires.on)) c.window_over-across.ensures.exact c.window_over-along.ensures.exact raised held
