-- What `choose` wrote is judged to be right.
use Rattle.std.proofs.Common.{◌≡◌, ◌<◌, ◌∙◌, ℕ, ◌+◌, List, [], ◌∷◌, ◌++◌, length, Option, arith, refl, sym, subst, ap}
use Rattle.std.specs.Prelude.{Bool, true, false, not, map, nat_le}
use Rattle.std.specs.Int.{IsInRange as IsWithin}
use Rattle.std.specs.List.{AllByRecursion, All}
use Rattle.std.proofs.lemmas.List.Elements.{All-head, All-tail}
use Rattle.std.proofs.lemmas.Bool.{leb-true}
use Rattle.texts.specs.Lines.{text_of}
use Rattle.texts.specs.Spelling.{HasOneSpelling}
use Rattle.texts.proofs.Parsers.{both_true}
use Rattle.cert_text.specs.declared.forms.Form.TheVariants.{Two}
use Rattle.plan_entries.specs.declared.entries.Plan.{Plan}
use Rattle.plan_entries.specs.declared.entries.Entry.{Entry}
use Rattle.plan_entries.specs.declared.entries.Entry.TheVariants.{Planned, Refused}
use Rattle.plan_entries.specs.Ranges.{IsInRange, numbers_in_range, is_within}
use Rattle.report_text.specs.Reports.{AreNumberedFrom}
use Rattle.report_checker.specs.declared.verdicts.Verdict.{Verdict}
use Rattle.par_judge.specs.Judged.{AreVerdicts}
use Rattle.par_judge.proofs.Joined.{verdicts-none, verdicts-cons, one-list}
use Rattle.pallet_choice.specs.declared.choices.Score.{Score}
use Rattle.pallet_choice.specs.Choices.{IsChoice}
use Rattle.pallet_choice.specs.Text.{told_of_both}
use Rattle.pallet_choice.specs.Ranges.{RisesFrom, IsScore, IsTail}
use Rattle.pallet_choice.specs.Laws.{ChoicesAreTails}
use Rattle.choice_text.specs.Text.{ChoiceFile, file_lines, file_text, IsChoiceFile, IsChoiceIn, HasShortReport}
use Rattle.plan_mode.specs.Accepted.{verdict_due, IsAcceptedEntry}
use Rattle.check_mode.specs.Verdicts.{any_no}
use Rattle.choice_mode.specs.Scores.{score_of, scores_of}
use Rattle.choice_mode.specs.Choosing.{file_of}
use Rattle.choice_mode.specs.Judging.{IsRightChoice, ChoiceJudged, judgement_text}
use Rattle.choice_mode.specs.Laws.{ChoicesAreAccepted}

-- ---- the choice has a text

within : (most n : ℕ) → is_within most n ≡ true → IsWithin 1 most n
within most n e =
    let (low, high) = both_true (nat_le 1 n) (nat_le n most) e in
    (leb-true 1 n low, leb-true n most high)

score-within : (p : Plan) → IsInRange Two (Planned p) → IsScore (score_of p)
score-within p e =
    let numbers = both_true (numbers_in_range Two p) _ e in
    let number = both_true (is_within 256 p.number) _ numbers.0 in
    let count = both_true (is_within 1000 p.count) _ number.1 in
    let bound = both_true (is_within 1000 p.bound) _ count.1 in
    record { number = within 256 p.number number.0; count = within 1000 p.count count.0; bound = within 1000 p.bound bound.0 }

scores-within : (n : ℕ) (es : List Entry) → AreNumberedFrom Two n es → AllByRecursion IsScore (scores_of es)
scores-within n [] are = tt
scores-within n (Planned p ∷ es) are = (score-within p are.0.1, scores-within (n + 1) es are.1)
scores-within n (Refused m fault ∷ es) are = scores-within (n + 1) es are.1

-- the numbers of the planned entries rise, since those of all entries do
numbers-rise : (low n : ℕ) (es : List Entry) → low < n → AreNumberedFrom Two n es → RisesFrom low (map (λ s. s.number) (scores_of es))
numbers-rise low n [] lt are = tt
numbers-rise low n (Planned p ∷ es) lt are = (omega (arith, lt, are.0.0), numbers-rise p.number (n + 1) es (omega (arith, are.0.0)) are.1)
numbers-rise low n (Refused m fault ∷ es) lt are = numbers-rise low (n + 1) es (omega (arith, lt)) are.1

pub is-file : ChoicesAreTails → (es : List Entry) (chosen : Option Score) (rivals : List Score) → AreNumberedFrom Two 1 es → IsChoice (scores_of es) chosen rivals → IsTail (told_of_both chosen rivals)
is-file tails es chosen rivals are choice =
    tails (scores_of es) chosen rivals (scores-within 1 es are) (numbers-rise 0 1 es (omega arith) are) choice

-- ---- the verdicts are those that are due

due : (es : List Entry) → All IsAcceptedEntry es → AreVerdicts es (map verdict_due es)
due [] all = verdicts-none
due (e ∷ es) all = verdicts-cons e (verdict_due e) es (map verdict_due es) (All-head IsAcceptedEntry e es all).0 (due es (All-tail IsAcceptedEntry e es all))

none-no : (es : List Entry) → any_no (map verdict_due es) ≡ false
none-no [] = refl
none-no (Planned p ∷ es) = none-no es
none-no (Refused n fault ∷ es) = none-no es

same-file : ((f : ChoiceFile) → text_of (file_lines f) ≡ file_text f) → HasOneSpelling file_lines IsChoiceFile → (f g : ChoiceFile) (bytes : List ℕ) → IsChoiceIn bytes f → IsChoiceIn bytes g → f ≡ g
same-file lines spelling f g bytes a b =
    let texts : text_of (file_lines f) ++ [] ≡ text_of (file_lines g) ++ [] = ap (λ t. t ++ []) (lines f ∙ sym a.text ∙ b.text ∙ sym (lines g)) in
    (spelling f g [] [] a.is_file b.is_file texts).0

pub accepted : ((f : ChoiceFile) → text_of (file_lines f) ≡ file_text f) → HasOneSpelling file_lines IsChoiceFile → ((f : ChoiceFile) → IsChoiceFile f → HasShortReport f → length (file_text f) < 160010000) → ChoicesAreTails
    → ChoicesAreAccepted
accepted lines spelling short tails orders bytes refused p = record { is_choice = (file, record { few_bytes = omega (arith, short file fits p.accepted.short, ap length p.text); is_choice = here }); judged = all-yes }
  where
    file : ChoiceFile
    file = file_of p.entries p.chosen p.rivals

    fits : IsChoiceFile file
    fits = record { reported = p.accepted.reported; is_tail = is-file tails p.entries p.chosen p.rivals p.accepted.reported.numbered p.is_choice }

    here : IsChoiceIn bytes file
    here = record { is_file = fits; text = p.text }

    all-yes : (wrote : List ℕ) (found : Bool) → ChoiceJudged bytes wrote found → (found ≡ false) × (wrote ≡ judgement_text p.entries (map verdict_due p.entries) true)
    all-yes wrote found j =
        let same : j.file ≡ file = same-file lines spelling j.file file bytes j.has_choice.is_choice here in
        let entries : j.file.entries ≡ p.entries = ap (λ (f : ChoiceFile). f.entries) same in
        let right : AreVerdicts p.entries j.verdicts = subst (λ (es : List Entry). AreVerdicts es j.verdicts) entries j.are_verdicts in
        let are : j.verdicts ≡ map verdict_due p.entries = one-list p.entries (map verdict_due p.entries) (due p.entries p.accepted.verdicts) j.verdicts right in
        let told : IsRightChoice file j.verdicts = record { no_no = ap any_no are ∙ none-no p.entries; chosen = p.chosen; rivals = p.rivals; is_choice = p.is_choice; tail = refl } in
        let yes : j.right ≡ true = j.is_right.0 (subst (λ (f : ChoiceFile). IsRightChoice f j.verdicts) (sym same) told) in (
          sym j.finding ∙ ap not yes,
          j.text ∙ ap (λ (b : Bool). judgement_text j.file.entries j.verdicts b) yes ∙ ap (λ (vs : List Verdict). judgement_text j.file.entries vs true) are ∙ ap (λ (es : List Entry). judgement_text es (map verdict_due p.entries) true) entries,
        )
