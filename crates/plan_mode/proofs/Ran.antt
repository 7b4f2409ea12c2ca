-- What `plan` did, from what its parts did.
use Rattle.std.proofs.Common.{◌≡◌, ◌<◌, ◌⊎◌, ℕ, ◌+◌, true, false, Bool, List, [], ◌++◌, length, sym, ap, ◌∙◌, arith, inl, inr}
use Rattle.std.proofs.lemmas.List.{append-nil, length-append}
use Rattle.plan_io.specs.Streams.{Intake, Outlet, at_end}
use Rattle.run_parts.specs.Written.{Wrote}
use Rattle.run_parts.specs.declared.codes.Code.TheVariants.{Memory}
use Rattle.order_reader.specs.declared.rows.Row.{Row}
use Rattle.plan_entries.specs.declared.entries.Entry.{Entry}
use Rattle.report_text.specs.Reports.{done_text}
use Rattle.plan_mode.specs.OrdersFiles.{HasRows}
use Rattle.plan_mode.specs.Entries.{AreFirstEntriesOf}
use Rattle.plan_mode.specs.Pieces.{head_of, joined, IsTextOf, IsBrokenText}
use Rattle.plan_mode.specs.Runs.{PlanRan}

-- the whole pieces of some first rows were written, or nothing was
abbrev pub StoppedWhole : Bool → List Row → Outlet → Outlet → Type 0
StoppedWhole draw rows to to' = (to' ≡ to)
    ⊎ ((es : List Entry) × (text : List ℕ) × AreFirstEntriesOf rows es × IsBrokenText draw es text × Wrote to to' text)

-- a run that was refused memory when it had its rows
pub refused_ran : (draw : Bool) (rows : List Row) (read : List ℕ) (from from' : Intake) (to to' : Outlet) → from' ≡ at_end from read → HasRows read rows → StoppedWhole draw rows to to' → PlanRan draw from to Memory from' to'
refused_ran draw rows read from from' to to' ended has (inl same) = record {
  read = read;
  wrote = [];
  given = ap (λ p. p.given) ended;
  taken = ap (λ p. p.taken) same ∙ sym (append-nil to.taken);
  source_later = omega (arith, ap (λ p. p.faults) ended);
  sink_later = omega (arith, ap (λ p. p.faults) same);
  means = (inl same, ap (λ p. p.faults) same, omega (arith, has.few_bytes));
}
refused_ran draw rows read from from' to to' ended has (inr (es, text, first, broken, wrote)) = record {
  read = read;
  wrote = text;
  given = ap (λ p. p.given) ended;
  taken = ap (λ p. p.taken) wrote;
  source_later = omega (arith, ap (λ p. p.faults) ended);
  sink_later = omega (arith, ap (λ p. p.faults) wrote);
  means = (
    inr (ap (λ p. p.ended) ended, record { rows = rows; has_rows = has; entries = es; are_entries = first; is_text = broken }),
    ap (λ p. p.faults) wrote,
    omega (arith, has.few_bytes),
  );
}

-- a first line has bytes
some_head : (draw : Bool) → 0 < length (head_of draw)
some_head true = omega arith
some_head false = omega arith

some_text : (draw : Bool) (rest text : List ℕ) → text ≡ head_of draw ++ rest → 0 < length text
some_text draw rest text is = omega (arith, some_head draw, ap length is, length-append (head_of draw) rest)

-- a sink that took a text that begins with a first line is not as it was
pub took_some : (draw : Bool) (rest text : List ℕ) (to to' : Outlet) → text ≡ head_of draw ++ rest → Wrote to to' text → to' ≡ to → ⊥
took_some draw rest text to to' is wrote same =
    let more : length to'.taken ≡ length to.taken + length text = ap (λ p. length p.taken) wrote ∙ length-append to.taken text in
    omega (arith, more, some_text draw rest text is, ap (λ p. length p.taken) same)

pub took_report : (draw : Bool) (es : List Entry) (text : List ℕ) (to to' : Outlet) → IsTextOf draw es text → Wrote to to' text → to' ≡ to → ⊥
took_report draw es text to to' is wrote same = took_some draw (joined is.pieces ++ done_text (length es)) text to to' is.text_is wrote same
