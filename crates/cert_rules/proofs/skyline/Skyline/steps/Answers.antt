use Rattle.std.proofs.Common.{◌≡◌, length, ap, ◌∙◌, sym}
use Rattle.std.specs.Prelude.{reverse}
use Rattle.std.proofs.lemmas.List.{length-reverse}
use Rattle.cert_rules.specs.Path.{Path}
use Rattle.cert_rules.proofs.Paths.{length-steps_of}
use Rattle.cert_rules.proofs.skyline.Skyline.steps.Goals as goal

pub returns : goal.returns
returns c =
    let vec : length c.self.inside.frames.items ≡ c.len.result = cc (c.self.inside.frames.ok.0, c.len.ensures) in
    sym (ap (λ (p : Path). length p.steps) (sym c.self.view_is)
    ∙ (length-steps_of (reverse c.self.inside.frames.items) ∙ (length-reverse c.self.inside.frames.items ∙ vec)))
