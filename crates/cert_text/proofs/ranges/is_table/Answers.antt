use Rattle.std.proofs.Common.{◌≡◌, ◌*◌, ◌∙◌, ap, sym, Bool, true, false, leb, eq-eqb, length, refl}
use Rattle.std.specs.Prelude.{◌&&◌}
use Rattle.std.specs.List.{list_all}
use Rattle.std.proofs.Math.Nat.{mul_comm}
use Rattle.std.proofs.lemmas.Bool.{le-leb}
use Rattle.std.proofs.lemmas.List.Sums.{list_all-from_AllPass}
use Rattle.weightings.specs.Table.{CellTable, IsCellTable}
use Rattle.cert_text.specs.Forms.{has_tables}
use Rattle.cert_text.specs.Ranges.{are_sides, are_weights}
use Rattle.cert_text.proofs.ranges.is_table.Goals as goal

-- each table has a weight for each cell, none too great
weights : (t : CellTable) → IsCellTable t → are_weights (t.y_side * t.x_side) t.cells ≡ true
weights t h =
    let count : length t.cells ≡ t.y_side * t.x_side = h.count ∙ mul_comm t.x_side t.y_side in
    let light : list_all (λ w. leb w 100000) t.cells ≡ true = list_all-from_AllPass (λ w. leb w 100000) t.cells (λ i d l. le-leb _ _ (h.light i d l)) in
    rw (eq-eqb (length t.cells) (t.y_side * t.x_side) count, light) refl

and_true : (b : Bool) → b ≡ (b && true)
and_true true = refl
and_true false = refl

pub returns-then-has_tables : goal.returns-then-has_tables
returns-then-has_tables c =
    let t = c.args.table.now in
    let w : are_weights (t.y_side * t.x_side) t.cells ≡ true = weights t c.x_side-x.ensures.table in
    let h : has_tables c.args.form ≡ true = sym c.has_tables.ensures ∙ c.if-has_tables.true in
    let e : c.are_sides.result ≡ are_sides t.x_side t.y_side = rw (c.x_side-x.ensures.value, c.y_side-y.ensures.value) at c.are_sides.ensures in
    e ∙ and_true (are_sides t.x_side t.y_side) ∙ ap (λ b. are_sides t.x_side t.y_side && b) (sym w) ∙ ap (λ b. (b && are_sides t.x_side t.y_side) && are_weights (t.y_side * t.x_side) t.cells) (sym h)
