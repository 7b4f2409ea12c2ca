use Rattle.std.proofs.Common.{◌≡◌, ◌<◌, List, length, get_or, subst, sym, rules}
use Rattle.layer_symmetry.specs.declared.symmetries.Move.{Move}
use Rattle.layer_symmetry.specs.Moves.{lawful_moves, KeepsLayouts}
use Rattle.layer_symmetry.proofs.TurnSteps.{keeps-layouts}
use Rattle.layer_symmetry.proofs.VariantSteps.{lawful-listed}
use Rattle.layer_symmetry.proofs.symmetries.moves.Goals as goal

pub returns-then-inst-clause-layouts : goal.returns-then-inst-clause-layouts
returns-then-inst-clause-layouts c = λ k d p.
    let I = c.args.inst in
    let e : c.push-then-inst-4.new.self.items ≡ lawful_moves I = search rules in
    subst (λ (l : List Move). KeepsLayouts I (get_or l k d)) (sym e) (keeps-layouts I (get_or (lawful_moves I) k d) (lawful-listed I k d (subst (λ (l : List Move). k < length l) e p)))

pub returns-else-inst-clause-layouts : goal.returns-else-inst-clause-layouts
returns-else-inst-clause-layouts c = λ k d p.
    let I = c.args.inst in
    let e : c.push-4.new.self.items ≡ lawful_moves I = search rules in
    subst (λ (l : List Move). KeepsLayouts I (get_or l k d)) (sym e) (keeps-layouts I (get_or (lawful_moves I) k d) (lawful-listed I k d (subst (λ (l : List Move). k < length l) e p)))
