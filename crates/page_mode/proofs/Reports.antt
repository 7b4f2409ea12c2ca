-- A run that read a report to its end, a run that got none, and what was written of its page.
use Rattle.std.proofs.Common.{◌≡◌, ◌≤◌, ◌⊎◌, ◌∙◌, ◌+◌, ℕ, suc, true, List, [], ◌∷◌, ◌++◌, length, take, ap, arith, inl, inr, refl, sym}
use Rattle.std.specs.List.{concat}
use Rattle.std.proofs.lemmas.List.{append-nil, length-append}
use Rattle.plan_io.specs.Streams.{Intake, Outlet, at_end}
use Rattle.run_parts.specs.Written.{Wrote}
use Rattle.run_parts.specs.declared.codes.Code.{Code}
use Rattle.run_parts.specs.declared.codes.Code.TheVariants.{Done, Findings, Usage, TooLong, NoHeader, TooManyRows, BadReport, ReadFault, WriteFault, Memory}
use Rattle.plan_entries.specs.declared.entries.Entry.{Entry}
use Rattle.report_text.specs.Reports.{Report}
use Rattle.report_reading.specs.Reading.{NoReportMeans, GotNoReport, HasReport}
use Rattle.report_reading.proofs.Untouched.{took-some}
use Rattle.page_text.specs.Page.{top_text, sheets_from, closing_text, pieces_of, page_of}
use Rattle.page_mode.specs.Pages.{PageMeans, PageRan, Paged}

none-means : (from : Intake) (to : Outlet) (code : Code) (line : ℕ) (from' : Intake) (read : List ℕ) → NoReportMeans code line read from from' → PageMeans code line read [] from from' to to
none-means from to Done line from' read m = absurd m
none-means from to Findings line from' read m = absurd m
none-means from to Usage line from' read m = absurd m
none-means from to TooLong line from' read m = (m.0, refl, m.1)
none-means from to NoHeader line from' read m = absurd m
none-means from to TooManyRows line from' read m = absurd m
none-means from to BadReport line from' read m = (m.0, refl, m.1)
none-means from to ReadFault line from' read m = (m.0, m.1, refl, m.2)
none-means from to WriteFault line from' read m = absurd m
none-means from to Memory line from' read m = (inl refl, refl, m.0, m.1, m.2)

pub page-none : (from : Intake) (to : Outlet) (code : Code) (line : ℕ) (from' : Intake) → GotNoReport from code line from' → PageRan from to code line from' to
page-none from to code line from' none = record {
  read = none.read;
  wrote = [];
  given = none.given;
  taken = sym (append-nil to.taken);
  source_later = none.later;
  sink_later = omega arith;
  means = none-means from to code line from' none.read none.means;
}

pub page-read : (from : Intake) (to : Outlet) (code : Code) (from' : Intake) (to' : Outlet) (bytes wrote : List ℕ)
    → from' ≡ at_end from bytes → to'.taken ≡ to.taken ++ wrote → to.faults ≤ to'.faults
    → (from'.ended ≡ true → from'.faults ≡ from.faults → PageMeans code 0 bytes wrote from from' to to') → PageRan from to code 0 from' to'
page-read from to code from' to' bytes wrote past taken later means =
    let same = ap (λ p. p.faults) past in
    record {
      read = bytes;
      wrote = wrote;
      given = ap (λ p. p.given) past;
      taken = taken;
      source_later = omega (arith, same);
      sink_later = later;
      means = means (ap (λ p. p.ended) past) same;
    }

pub paged : (bytes : List ℕ) (r : Report) → HasReport bytes r → Paged bytes (page_of r.entries)
paged bytes r has = record { report = r; has_report = has; text = refl }

-- memory was refused before anything was written, or behind some first pieces
pub page-memory : {K : Type 0} (past : K → Outlet) (old new : K) (from from' : Intake) (bytes : List ℕ) (r : Report)
    → from' ≡ at_end from bytes → HasReport bytes r → (past old).faults ≤ (past new).faults
    → (new ≡ old) ⊎ ((more : ℕ) × Wrote (past old) (past new) (concat (take (suc more) (pieces_of r.entries))))
    → PageRan from (past old) Memory 0 from' (past new)
page-memory past old new from from' bytes r is has later (inl same) =
    page-read from (past old) Memory from' (past new) bytes [] is (ap (λ k. (past k).taken) same ∙ sym (append-nil (past old).taken)) later
    (λ ended calm. (inl (ap past same), ap (λ k. (past k).faults) same, calm, omega (arith, has.few_bytes), refl))
page-memory past old new from from' bytes r is has later (inr (more, wrote)) =
    page-read from (past old) Memory from' (past new) bytes (concat (take (suc more) (pieces_of r.entries))) is (ap (λ p. p.taken) wrote) later
    (λ ended calm. (inr (ended, record { report = r; has_report = has; pieces = suc more; text = refl }), ap (λ p. p.faults) wrote, calm, omega (arith, has.few_bytes), refl))

-- the top of a page shows
pub top-shows : {K : Type 0} (past : K → Outlet) (old new : K) (es : List Entry)
    → (new ≡ old) ⊎ ((more : ℕ) × Wrote (past old) (past new) (concat (take (suc more) (pieces_of es))))
    → past new ≡ past old → new ≡ old
top-shows past old new es (inl still) same = still
top-shows past old new es (inr (more, wrote)) same =
    let rest = take more (sheets_from 1 es ++ closing_text es ∷ []) in
    absurd (took-some (past old) (past new) (top_text ++ concat rest) (omega (arith, length-append top_text (concat rest))) wrote same)

pub page-shows : {K : Type 0} (past : K → Outlet) (old new : K) (es : List Entry) → Wrote (past old) (past new) (page_of es) → past new ≡ past old → new ≡ old
page-shows past old new es wrote same =
    let rest = sheets_from 1 es ++ closing_text es ∷ [] in
    absurd (took-some (past old) (past new) (top_text ++ concat rest) (omega (arith, length-append top_text (concat rest))) wrote same)
