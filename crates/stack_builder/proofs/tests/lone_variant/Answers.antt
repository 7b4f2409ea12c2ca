use Rattle.std.proofs.Common.{◌≡◌, List, [], ◌∷◌, ◌++◌, ◌∙◌, ap, sym, subst}
use Rattle.std.specs.List.{All}
use Rattle.std.proofs.lemmas.List.Elements.{All-nil, All-push}
use Rattle.plan_geometry.specs.declared.instances.Inst.{Inst}
use Rattle.plan_geometry.specs.Placed.{Placed}
use Rattle.layer_symmetry.specs.declared.symmetries.Move.{Move}
use Rattle.layer_symmetry.specs.declared.symmetries.Move.TheVariants.{Same}
use Rattle.order_reader.specs.Instances.{IsGivenOf}
use Rattle.stack_builder.proofs.tests.lone_variant.Goals as goal

pub returns-clause-given : goal.returns-clause-given
returns-clause-given c =
    let o = c.args.order.now in
    let v : Move × Placed = (Same, c.in-Some.layer) in
    let pushed : c.push.new.self.items ≡ c.new-listed.result.items ++ v ∷ [] = rw c.if-is_err.ensures.negation at c.push.ensures.items in
    let e : c.push.new.self.items ≡ [] ++ v ∷ [] = pushed ∙ ap (λ (l : List (Move × Placed)). l ++ v ∷ []) c.new-listed.ensures.items in
    let given : IsGivenOf o c.in-Some.layer.inst = subst (λ (I : Inst). IsGivenOf o I) (sym c.in-Some.ensures.inst) c.inst.ensures.given in
    subst (λ (l : List (Move × Placed)). All (λ (w : Move × Placed). IsGivenOf o w.1.inst) l) (sym e) (All-push (λ (w : Move × Placed). IsGivenOf o w.1.inst) [] v (All-nil (λ (w : Move × Placed). IsGivenOf o w.1.inst)) given)
