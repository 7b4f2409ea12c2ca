-- A run of `design` to which memory was refused.
use Rattle.std.proofs.Common.{◌≡◌, ◌∙◌, ◌⊎◌, ℕ, List, [], ◌++◌, ap, arith, refl, sym, inl, inr}
use Rattle.std.proofs.lemmas.List.{append-nil}
use Rattle.plan_io.specs.Streams.{Intake, Outlet, at_end}
use Rattle.run_parts.specs.Written.{Wrote}
use Rattle.run_parts.specs.declared.codes.Code.TheVariants.{Memory}
use Rattle.cert_text.specs.declared.forms.Form.TheVariants.{Two}
use Rattle.plan_entries.specs.declared.entries.Entry.{Entry}
use Rattle.report_text.specs.Reports.{entries_text}
use Rattle.case_design.specs.declared.designs.Design.{Design}
use Rattle.case_design.specs.Designs.{rows_in}
use Rattle.case_design.specs.Text.{head_text}
use Rattle.plan_mode.specs.Entries.{AreFirstEntriesOf}
use Rattle.design_mode.specs.DesignFiles.{HasDesign}
use Rattle.design_mode.specs.DesignRuns.{DesignRan}

-- what the sink took by then: nothing, or the head and the entries of the first sizes
abbrev pub HasStopped : Design → Outlet → Outlet → Type 0
HasStopped design to to' = (to' ≡ to)
    ⊎ ((es : List Entry) × AreFirstEntriesOf (rows_in design) es × Wrote to to' (head_text design ++ entries_text Two es))

pub memory-ran : (design : Design) (read : List ℕ) (from from' : Intake) (to to' : Outlet) → from' ≡ at_end from read → HasDesign read design → HasStopped design to to' → DesignRan from to Memory from' to'
memory-ran design read from from' to to' ended has (inl same) = record {
  read = read;
  wrote = [];
  given = ap (λ p. p.given) ended;
  taken = ap (λ p. p.taken) same ∙ sym (append-nil to.taken);
  source_later = omega (arith, ap (λ p. p.faults) ended);
  sink_later = omega (arith, ap (λ p. p.faults) same);
  means = (inl same, ap (λ p. p.faults) same, omega (arith, has.few_bytes));
}
memory-ran design read from from' to to' ended has (inr (es, first, wrote)) = record {
  read = read;
  wrote = head_text design ++ entries_text Two es;
  given = ap (λ p. p.given) ended;
  taken = ap (λ p. p.taken) wrote;
  source_later = omega (arith, ap (λ p. p.faults) ended);
  sink_later = omega (arith, ap (λ p. p.faults) wrote);
  means = (
    inr (ap (λ p. p.ended) ended, record { design = design; has_design = has; entries = es; are_entries = first; text = refl }),
    ap (λ p. p.faults) wrote,
    omega (arith, has.few_bytes),
  );
}
