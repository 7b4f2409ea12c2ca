-- What a sheet says in words of the stack of a plan.
use Rattle.std.specs.Prelude.{ℕ, List, [], ◌∷◌, ◌++◌, length, codes}
use Rattle.stack_builder.specs.declared.lists.StackAnswer.{StackAnswer}
use Rattle.stack_builder.specs.declared.lists.StackAnswer.TheVariants.{Stack, Unmet}
use Rattle.plan_entries.specs.declared.entries.Plan.{Plan}
use Rattle.page_stacks.specs.Layers.{layers_text}
use Rattle.page_stacks.specs.Totals.{plan_total}
use Rattle.page_stacks.specs.Unmet.{unmet_text}

-- a stack of no layers
unfoldable pub no_layer_text : List ℕ
no_layer_text = codes "<h3>The stack</h3>\n<p>No layer: the height or the weight allows none.</p>\n"

-- a stack of these forms from the pallet up: which layers have which form, and what it has in all
unfoldable pub stack_text : Plan → List ℕ → List ℕ
stack_text p [] = no_layer_text
stack_text p (n ∷ ns) = layers_text (length p.layers) (n ∷ ns) ++ plan_total p (length (n ∷ ns))

-- the stack, or the rules that none meets
abbrev pub answer_text : Plan → StackAnswer → List ℕ
answer_text p (Stack stack) = stack_text p stack
answer_text p (Unmet unmet) = unmet_text unmet

unfoldable pub stack_words : Plan → List ℕ
stack_words p = answer_text p p.stack
