-- Of accepted rows each is planned, and judged with a yes.
use Rattle.std.proofs.Common.{ℕ, ◌+◌, ◌≤◌, ◌≡◌, true, leb, List, [], ◌∷◌, length, cond, arith, ap, refl}
use Rattle.std.specs.List.{All, count_by}
use Rattle.std.proofs.lemmas.List.Elements.{All-head, All-tail}
use Rattle.std.proofs.lemmas.List.Sums.{sum_by-append}
use Rattle.order_reader.specs.declared.rows.Row.{Row}
use Rattle.order_reader.specs.declared.rows.Row.TheVariants as row
use Rattle.plan_entries.specs.declared.entries.Entry.{Entry}
use Rattle.plan_entries.specs.declared.entries.Entry.TheVariants as entries
use Rattle.report_checker.specs.declared.verdicts.Verdict.{Verdict}
use Rattle.report_checker.specs.Verdicts.{IsVerdict}
use Rattle.report_checker.specs.Laws.{SoundPlansAreAccepted}
use Rattle.made_orders.specs.Made.{IsAccepted}
use Rattle.plan_mode.specs.Entries.{IsEntryOf}
use Rattle.trial_mode.specs.Trials.{Tried, AreTriedFrom, is_planned, cases_of, is_yes}
use Rattle.cert_text.specs.declared.forms.Form.TheVariants.{Two}
use Rattle.plan_entries.specs.Ranges.{IsInRange, numbers_in_range, is_within}
use Rattle.texts.proofs.Parsers.{both_true}
use Rattle.std.proofs.lemmas.Bool.{leb-true}

-- the entry of an accepted row is planned
planned : (n : ℕ) (r : Row) (e : Entry) → IsAccepted r → IsEntryOf n r e → is_planned e ≡ true
planned n (row.Order o) (entries.Planned p) accepted of_row = refl
planned n (row.Order o) (entries.Refused m fault) accepted of_row = absurd of_row
planned n (row.Refused k fault) e accepted of_row = absurd accepted

yes : (law : SoundPlansAreAccepted) (n : ℕ) (r : Row) (e : Entry) (v : Verdict) → IsAccepted r → IsEntryOf n r e → IsVerdict e v → is_yes v ≡ true
yes law n (row.Order o) (entries.Planned p) v accepted of_row right = ap is_yes ((law p of_row.sound).1 v right)
yes law n (row.Order o) (entries.Refused m fault) v accepted of_row right = absurd of_row
yes law n (row.Refused k fault) e v accepted of_row right = absurd accepted

pub all_planned : (n : ℕ) (rs : List Row) (ts : List Tried) → All IsAccepted rs → AreTriedFrom n rs ts → count_by (λ (t : Tried). is_planned t.0) ts ≡ length rs
all_planned n [] [] accepted are = refl
all_planned n [] (t ∷ ts) accepted are = absurd are
all_planned n (r ∷ rs) [] accepted are = absurd are
all_planned n (r ∷ rs) (t ∷ ts) accepted are =
    let one : ◌≡◌ {A = ℕ} (cond (is_planned t.0) 1 0) 1 = ap (λ b. cond b 1 0) (planned n r t.0 (All-head IsAccepted r rs accepted) are.0) in
    let step : count_by (λ (u : Tried). is_planned u.0) (t ∷ ts) ≡ 0 + cond (is_planned t.0) 1 0 + count_by (λ (u : Tried). is_planned u.0) ts = sum_by-append (λ (u : Tried). cond (is_planned u.0) 1 0) (t ∷ []) ts in
    let rest : count_by (λ (u : Tried). is_planned u.0) ts ≡ length rs = all_planned (n + 1) rs ts (All-tail IsAccepted r rs accepted) are.2 in
    omega (arith, step, one, rest)

pub all_yes : (law : SoundPlansAreAccepted) (n : ℕ) (rs : List Row) (ts : List Tried) → All IsAccepted rs → AreTriedFrom n rs ts → count_by (λ (t : Tried). is_yes t.1) ts ≡ length rs
all_yes law n [] [] accepted are = refl
all_yes law n [] (t ∷ ts) accepted are = absurd are
all_yes law n (r ∷ rs) [] accepted are = absurd are
all_yes law n (r ∷ rs) (t ∷ ts) accepted are =
    let one : ◌≡◌ {A = ℕ} (cond (is_yes t.1) 1 0) 1 = ap (λ b. cond b 1 0) (yes law n r t.0 t.1 (All-head IsAccepted r rs accepted) are.0 are.1) in
    let step : count_by (λ (u : Tried). is_yes u.1) (t ∷ ts) ≡ 0 + cond (is_yes t.1) 1 0 + count_by (λ (u : Tried). is_yes u.1) ts = sum_by-append (λ (u : Tried). cond (is_yes u.1) 1 0) (t ∷ []) ts in
    let rest : count_by (λ (u : Tried). is_yes u.1) ts ≡ length rs = all_yes law (n + 1) rs ts (All-tail IsAccepted r rs accepted) are.2 in
    omega (arith, step, one, rest)

-- a plan within the ranges has at most 1,000 cases
pub few_cases : (e : Entry) → IsInRange Two e → cases_of e ≤ 1000
few_cases (entries.Planned p) h =
    let a = both_true (numbers_in_range Two p) _ h in
    let b = both_true (is_within 256 p.number) _ a.0 in
    let c = both_true (is_within 1000 p.count) _ b.1 in
    let d = both_true (leb 1 p.count) (leb p.count 1000) c.0 in
    leb-true p.count 1000 d.1
few_cases (entries.Refused n fault) h = omega arith
