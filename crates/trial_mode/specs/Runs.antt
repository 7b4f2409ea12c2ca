-- What a run of `trial` did, between two moments of its sink. It reads nothing.
use Rattle.std.specs.Prelude.{ℕ, ◌≤◌, ◌≡◌, List, ◌++◌}
use Rattle.plan_io.specs.Streams.{Outlet}
use Rattle.plan_io.specs.Causes.{Rose}
use Rattle.run_parts.specs.Written.{IsPrefixOf}
use Rattle.run_parts.specs.declared.codes.Code.{Code}
use Rattle.run_parts.specs.declared.codes.Code.TheVariants.{Done, Findings, Usage, TooLong, NoHeader, TooManyRows, BadReport, ReadFault, WriteFault, Memory}
use Rattle.made_orders.specs.Summaries.{summary_text}
use Rattle.trial_mode.specs.Trials.{Tried, IsTrialOf, summary_of}

-- what was written is the summary of a trial of this number
pub record Summed (number : ℕ) (wrote : List ℕ) : Type 0 where
  pub tried : List Tried
  pub is_trial : IsTrialOf number tried
  pub is_text : wrote ≡ summary_text (summary_of number tried)

-- what was written are the first bytes of it
pub record SummedInPart (number : ℕ) (wrote : List ℕ) : Type 0 where
  pub tried : List Tried
  pub is_trial : IsTrialOf number tried
  pub front : IsPrefixOf (summary_text (summary_of number tried)) wrote

-- What each code says of the bytes that were written, and of how the sink stands then.
abbrev pub TrialMeans : ℕ → Code → List ℕ → Outlet → Outlet → Type 0
TrialMeans number Done wrote to to' = Summed number wrote
TrialMeans number Findings wrote to to' = ⊥
TrialMeans number Usage wrote to to' = ⊥
TrialMeans number TooLong wrote to to' = ⊥
TrialMeans number NoHeader wrote to to' = ⊥
TrialMeans number TooManyRows wrote to to' = ⊥
TrialMeans number BadReport wrote to to' = ⊥
TrialMeans number ReadFault wrote to to' = ⊥
TrialMeans number WriteFault wrote to to' = SummedInPart number wrote × Rose to.faults to'.faults
TrialMeans number Memory wrote to to' = to' ≡ to

-- A run of `trial` with this number that gave this code.
pub record TrialRan (number : ℕ) (to : Outlet) (code : Code) (to' : Outlet) : Type 0 where
  -- all bytes that it wrote
  pub wrote : List ℕ
  pub taken : to'.taken ≡ to.taken ++ wrote
  -- the count of faults did not fall
  pub sink_later : to.faults ≤ to'.faults
  pub means : TrialMeans number code wrote to to'
