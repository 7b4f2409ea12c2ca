-- Reading the first lines of a plan.
use Rattle.std.specs.Prelude.{ℕ, List, Ok}
use Rattle.texts.specs.Grammar.{Reading, ◌>>=◌, first_by}
use Rattle.cert_text.specs.declared.forms.Form.{Form}
use Rattle.report_text.specs.Words.{count_of_line, bound_of_line, status_of_line, order_of_line, reduced_of_line}
use Rattle.report_text.specs.declared.heads.PlanHead.{PlanHead}

-- the first lines of a plan behind its id
unfoldable pub head_from : Form → List ℕ → List (List ℕ) → Reading (List ℕ) PlanHead
head_from form id ls = do
  order ← first_by (order_of_line form id) ls
  reduced ← first_by reduced_of_line order.1
  count ← first_by (count_of_line form) reduced.1
  bound ← first_by (bound_of_line form) count.1
  status ← first_by status_of_line bound.1
  Ok (record { order = order.0; reduced = reduced.0; count = count.0; bound = bound.0; status = status.0 }, status.1)
