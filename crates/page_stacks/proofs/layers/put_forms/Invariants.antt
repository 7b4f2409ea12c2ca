use Rattle.std.proofs.Common.{◌≡◌, ◌++◌}
use Rattle.page_stacks.specs.Layers.{form_lines}
use Rattle.page_stacks.proofs.layers.put_forms.Given as goal

abbrev pub invariant-loop-form : goal.invariant-loop-form
invariant-loop-form l = l.out.items ≡ l.fn.out.items ++ form_lines l.form l.stack
