use Rattle.std.proofs.Common.{◌≡◌, ℕ, List, length, ap, rules, sym, subst, ◌∙◌}
use Rattle.std.specs.Prelude.{IfOk, Result, Ok, Err}
use Rattle.std.specs.List.{All}
use Rattle.order_reader.specs.declared.rows.Row.{Row}
use Rattle.report_checker.proofs.OneVerdict.{accepted}
use Rattle.made_orders.specs.Made.{IsAccepted, made_rows_of}
use Rattle.made_orders.specs.declared.summaries.Summary.{Summary}
use Rattle.trial_mode.specs.Trials.{Tried, AreTriedFrom, IsTrialOf}
use Rattle.trial_mode.proofs.Counts.{as_many}
use Rattle.trial_mode.proofs.Accepted.{all_planned, all_yes}
use Rattle.trial_mode.proofs.trials.summary.Goals as goal

if_ok : {X E : Type 0} {P Q : X → Type 0} (r : Result X E) → ((x : X) → P x → Q x) → IfOk r P → IfOk r Q
if_ok (Ok x) f h = f x h
if_ok (Err e) f h = h

trial_of : (number : ℕ) (rows : List Row) (tried : List Tried) → rows ≡ made_rows_of number → length rows ≡ 16 → All IsAccepted (made_rows_of number) → AreTriedFrom 1 rows tried → IsTrialOf number tried
trial_of number rows tried is count all are =
    let each : All IsAccepted rows = subst (λ (rs : List Row). All IsAccepted rs) (sym is) all in
    record {
      are_tried = subst (λ (rs : List Row). AreTriedFrom 1 rs tried) is are;
      rows = as_many 1 rows tried are ∙ count;
      planned = all_planned 1 rows tried each are ∙ count;
      yes = all_yes accepted 1 rows tried each are ∙ count;
    }

pub returns : goal.returns
returns c =
    let number = c.args.number in
    let made = c.in_ok-rows.ensures in
    let same : c.deref.result.now ≡ c.in_ok-rows.rows.items = search rules in
    let count : length c.deref.result.now ≡ 16 = ap (λ (rs : List Row). length rs) same ∙ made.count in
    if_ok c.sum_rows.result (λ (s : Summary) x. (x.0, trial_of number c.deref.result.now x.0 (same ∙ made.rows) count c.made_rows.ensures.accepted x.1, x.2)) c.sum_rows.ensures
