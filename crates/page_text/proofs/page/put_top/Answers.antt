use Rattle.std.proofs.Common.{◌∙◌, ◌++◌, ℕ, List, ap, append_assoc}
use Rattle.std.specs.Prelude.{codes}
use Rattle.page_text.specs.Styles.{opening_rest}
use Rattle.page_text.proofs.page.put_top.Goals as goal

pub returns : goal.returns
returns c =
    c.in_ok-put_opening_rest.ensures ∙ ap (λ (t : List ℕ). t ++ opening_rest) c.in_ok-put_text.ensures
    ∙ append_assoc c.args.out.now.items (codes "<!DOCTYPE html>\n") opening_rest
