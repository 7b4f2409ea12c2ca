use Rattle.layout_map.proofs.Admits.{normal_form_law}
use Rattle.layout_map.proofs.laws.layouts_have_a_normal_form.Goals as goal

pub returns : goal.returns
returns c = normal_form_law
