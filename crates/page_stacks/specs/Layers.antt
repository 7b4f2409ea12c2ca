-- Which layers of a stack have which form.
use Rattle.std.specs.Prelude.{ℕ, zero, suc, ◌+◌, List, [], ◌∷◌, ◌++◌, codes, decimal}
use Rattle.page_stacks.specs.Places.{places_of, listed}

-- the end of a line, which names the form
abbrev pub form_end : ℕ → List ℕ
form_end form = codes ": form " ++ (decimal form ++ codes "</li>\n")

-- the line of a form that one layer has, and of one that several layers have
unfoldable pub lone_line : ℕ → ℕ → List ℕ
lone_line form layer = codes "<li>layer " ++ (decimal layer ++ form_end form)

unfoldable pub several_line : ℕ → List ℕ → List ℕ
several_line form layers = codes "<li>layers " ++ (listed layers ++ form_end form)

-- the line of a form that these layers have, or no line where none has it
abbrev pub form_line : ℕ → List ℕ → List ℕ
form_line form [] = []
form_line form (only ∷ []) = lone_line form only
form_line form (first ∷ second ∷ more) = several_line form (first ∷ second ∷ more)

-- the lines of the forms from 1 up to this number
unfoldable pub form_lines : ℕ → List ℕ → List ℕ
form_lines zero stack = []
form_lines (suc k) stack = form_lines k stack ++ form_line (k + 1) (places_of (k + 1) stack)

-- the list of a stack's forms, of which there are so many
unfoldable pub layers_text : ℕ → List ℕ → List ℕ
layers_text forms stack = codes "<h3>The stack</h3>\n<ul class=\"stack\">\n" ++ (form_lines forms stack ++ codes "</ul>\n")
