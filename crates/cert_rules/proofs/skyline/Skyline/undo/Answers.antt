use Rattle.std.proofs.Common.{◌≤◌, ◌+◌, ◌∷◌, [], arith, ap, ◌∙◌}
use Rattle.std.specs.Prelude.{reverse}
use Rattle.std.proofs.lemmas.List.{reverse-append}
use Rattle.cert_rules.proofs.Paths.{undo-small}
use Rattle.cert_rules.proofs.skyline.Skyline.undo.Goals as goal

pub overflow_add-self : goal.overflow_add-self
overflow_add-self c =
    let small : c.self.inside.weight + c.in-Some.frame.weight ≤ 16000000000 =
    undo-small c.self.inside.inst c.self.inside.weighting (reverse c.self.inside.frames.items) (reverse c.pop.new.self.items) c.in-Some.frame
    c.self.inside.runs.items c.self.inside.weight c.self.invariant.runs
    (ap reverse c.in-Some.ensures.items ∙ reverse-append c.pop.new.self.items (c.in-Some.frame ∷ [])) in
    omega arith
