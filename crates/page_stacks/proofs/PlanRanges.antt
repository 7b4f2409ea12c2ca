-- The range of a stack.
use Rattle.std.proofs.Common.{◌≡◌, ℕ, ◌≤◌, true, List, length, leb}
use Rattle.std.proofs.lemmas.Bool.{leb-true}
use Rattle.texts.proofs.Parsers.{both_true}
use Rattle.cert_text.specs.declared.forms.Form.TheVariants.{Two}
use Rattle.cert_text.specs.Ranges.{in_range as cert_in_range}
use Rattle.stack_builder.specs.declared.lists.StackAnswer.TheVariants.{Stack}
use Rattle.plan_entries.specs.Ranges.{order_in_range, layers_in_range, stack_in_range, numbers_in_range, plan_in_range}
use Rattle.plan_entries.specs.declared.entries.Plan.{Plan}

pub stack_is_small : (p : Plan) (stack : List ℕ) → plan_in_range Two p ≡ true → p.stack ≡ Stack stack → length stack ≤ 10000
stack_is_small p stack e is =
    let orders = (both_true (numbers_in_range Two p) _ e).1 in
    let certs = (both_true (order_in_range Two p.order) _ orders).1 in
    let lists = (both_true (cert_in_range Two p.cert) _ certs).1 in
    let told = (both_true (layers_in_range p.count p.layers) _ lists).1 in
    let whole : stack_in_range p.order (length p.layers) (Stack stack) ≡ true = rw is at told in
    leb-true (length stack) 10000 (both_true (leb (length stack) 10000) _ whole).0
