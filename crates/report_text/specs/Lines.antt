-- Reading an entry line by line.
use Rattle.std.specs.Prelude.{ℕ, suc, List, [], ◌∷◌, length, Result, Ok, Err, if◌then◌else◌}
use Rattle.std.specs.Str.{bytes_eq}
use Rattle.texts.specs.Grammar.{Reading, ◌>>=◌, first_by}
use Rattle.cert_text.specs.Lines.{cert_at}
use Rattle.cert_text.specs.declared.forms.Form.{Form}
use Rattle.listing_text.specs.Lines.{layers_at, answer_at}
use Rattle.plan_entries.specs.declared.entries.Plan.{Plan}
use Rattle.plan_entries.specs.declared.entries.Entry.{Entry}
use Rattle.plan_entries.specs.declared.entries.Entry.TheVariants.{Planned, Refused}
use Rattle.report_text.specs.LineTexts.{end_line}
use Rattle.report_text.specs.Words.{number_of_line, second_of}
use Rattle.report_text.specs.HeadLines.{head_from}
use Rattle.report_text.specs.declared.seconds.Second.{Second}
use Rattle.report_text.specs.declared.seconds.Second.TheVariants as seconds

-- the lines behind a first line that is this one
abbrev pub behind_line : List ℕ → List (List ℕ) → Result (List (List ℕ)) ℕ
behind_line line [] = Err 0
behind_line line (l ∷ ls) = if bytes_eq l line then Ok ls else Err (suc (length ls))

-- a plan whose number and id were read
unfoldable pub plan_from : Form → ℕ → List ℕ → List (List ℕ) → Reading (List ℕ) Plan
plan_from form number id ls = do
  head ← head_from form id ls
  cert ← cert_at form head.1
  layers ← layers_at head.0.count cert.1
  answer ← answer_at head.0.order (length layers.0) layers.1
  rest ← behind_line end_line answer.1
  Ok (
    record {
      number = number;
      order = head.0.order;
      reduced = head.0.reduced;
      count = head.0.count;
      bound = head.0.bound;
      status = head.0.status;
      cert = cert.0;
      layers = layers.0;
      allowed = answer.0.0;
      stack = answer.0.1;
    },
    rest,
  )

-- an entry whose number and second line were read
unfoldable pub entry_of_second : Form → ℕ → Second → List (List ℕ) → Reading (List ℕ) Entry
entry_of_second form number (seconds.Id id) ls = do
  plan ← plan_from form number id ls
  Ok (Planned plan.0, plan.1)
entry_of_second form number (seconds.Fault fault) ls = do
  rest ← behind_line end_line ls
  Ok (Refused number fault, rest)

-- an entry whose number was read
unfoldable pub entry_behind : Form → ℕ → List (List ℕ) → Reading (List ℕ) Entry
entry_behind form number ls = do
  second ← first_by (second_of form) ls
  entry_of_second form number second.0 second.1

unfoldable pub entry_at : Form → List (List ℕ) → Reading (List ℕ) Entry
entry_at form ls = do
  number ← first_by (number_of_line form) ls
  entry_behind form number.0 number.1
