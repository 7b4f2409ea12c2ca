-- The one spelling of each entry, in each form.
use Rattle.std.specs.Prelude.{◌≡◌, ℕ, List, [], ◌∷◌, ◌++◌}
use Rattle.texts.specs.Lines.{spaced, text_of}
use Rattle.cert_text.specs.declared.forms.Form.{Form}
use Rattle.cert_text.specs.Text.{cert_lines}
use Rattle.listing_text.specs.Text.{layers_lines, answer_lines}
use Rattle.plan_entries.specs.Ranges.{IsInRange}
use Rattle.plan_entries.specs.declared.entries.Plan.{Plan}
use Rattle.plan_entries.specs.declared.entries.Entry.{Entry}
use Rattle.plan_entries.specs.declared.entries.Entry.TheVariants.{Planned, Refused}
use Rattle.report_text.specs.LineTexts.{number_words, id_line, fault_line, order_words, reduced_words, count_words, bound_words, status_line, end_line}

-- the lines of a plan from that of its id to that of its status
abbrev pub front_lines : Form → Plan → List (List ℕ)
front_lines form p =
    id_line p.order.id
    ∷ spaced (order_words form p.order)
    ∷ spaced (reduced_words p.reduced)
    ∷ spaced (count_words p.count)
    ∷ spaced (bound_words p.bound)
    ∷ status_line p.status
    ∷ []

-- the lines of a plan behind that of its number
abbrev pub plan_lines : Form → Plan → List (List ℕ)
plan_lines form p =
    front_lines form p ++ (cert_lines p.cert ++ (layers_lines p.layers ++ (answer_lines (p.allowed, p.stack) ++ end_line ∷ [])))

unfoldable pub entry_lines : Form → Entry → List (List ℕ)
entry_lines form (Planned p) = spaced (number_words p.number) ∷ plan_lines form p
entry_lines form (Refused n fault) = spaced (number_words n) ∷ fault_line fault ∷ end_line ∷ []

abbrev pub entry_text : Form → Entry → List ℕ
entry_text form e = text_of (entry_lines form e)

-- the text of some entry is at the front
pub record BeginsWithEntry (form : Form) (bytes : List ℕ) : Type 0 where
  pub entry : Entry
  pub fits : IsInRange form entry
  pub behind : List ℕ
  pub parts : bytes ≡ entry_text form entry ++ behind
