-- The sheet of an order: its words, the forms of its layer from above, and its stack in words and in a picture.
use Rattle.std.specs.Prelude.{ℕ, List, [], ◌∷◌, ◌++◌, codes}
use Rattle.plan_entries.specs.declared.entries.Plan.{Plan}
use Rattle.plan_entries.specs.declared.listed.Listed.{Listed}
use Rattle.stack_builder.specs.declared.lists.StackAnswer.{StackAnswer}
use Rattle.stack_builder.specs.declared.lists.StackAnswer.TheVariants.{Stack, Unmet}
use Rattle.page_words.specs.Words.{order_words}
use Rattle.page_stacks.specs.Stacks.{stack_words}
use Rattle.page_figures.specs.declared.sides.Sides.{Sides}
use Rattle.page_figures.specs.Sides.{sides_of}
use Rattle.page_figures.specs.Forms.{forms_text}
use Rattle.page_figures.specs.Stack.{stack_figure}

unfoldable pub forms_head : List ℕ
forms_head = codes "<div class=\"forms\">\n"

-- each form of the layer from above
unfoldable pub forms_part : Sides → List Listed → List ℕ
forms_part s layers = forms_head ++ (forms_text s layers ++ codes "</div>\n")

-- a stack of one layer at least has a picture
unfoldable pub stack_picture : ℕ → Sides → List Listed → StackAnswer → List ℕ
stack_picture sheet s layers (Stack []) = []
stack_picture sheet s layers (Stack (lowest ∷ higher)) = stack_figure s sheet layers (lowest ∷ higher)
stack_picture sheet s layers (Unmet rules) = []

-- the stack, and the end of the sheet
unfoldable pub stack_part : ℕ → Sides → Plan → List ℕ
stack_part sheet s p = stack_words p ++ (stack_picture sheet s p.layers p.stack ++ codes "</section>\n")

-- what stands behind the words of the order
unfoldable pub layers_part : ℕ → Sides → Plan → List ℕ
layers_part sheet s p = forms_part s p.layers ++ stack_part sheet s p

unfoldable pub planned_sheet : ℕ → Plan → List ℕ
planned_sheet sheet p = order_words sheet p ++ layers_part sheet (sides_of p.order) p
