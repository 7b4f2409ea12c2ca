-- What was written of a judgement is the front of what is due.
use Rattle.std.proofs.Common.{◌≡◌, ◌∙◌, ℕ, List, ◌++◌, length, drop, inl, inr, refl, sym, subst, ap, arith, append_assoc}
use Rattle.std.specs.Prelude.{◌↔◌, Bool, true, false}
use Rattle.std.proofs.lemmas.List.{append-nil, take_all}
use Rattle.run_parts.specs.Written.{IsPrefixOf, WrotePart}
use Rattle.plan_io.specs.Streams.{Outlet}
use Rattle.report_checker.specs.declared.verdicts.Verdict.{Verdict}
use Rattle.par_judge.specs.Judged.{AreVerdicts}
use Rattle.choice_text.specs.Text.{ChoiceFile}
use Rattle.check_mode.specs.Verdicts.{AreFirstVerdicts, verdict_lines}
use Rattle.check_mode.proofs.VerdictFacts.{lines-parts, are-first}
use Rattle.choice_mode.specs.Reading.{HasChoice}
use Rattle.choice_mode.specs.Judging.{TellsRight, MayEnd, ChoiceJudgedInPart, choice_end, judgement_text}

prefix-trans : (text front sent : List ℕ) → IsPrefixOf text front → IsPrefixOf front sent → IsPrefixOf text sent
prefix-trans text front sent (rest, is) (more, has) = (more ++ rest, is ∙ ap (λ t. t ++ rest) has ∙ append_assoc sent more rest)

-- two that tell whether the same holds tell the same
same-told : {P : Type 0} (a b : Bool) → P ↔ (a ≡ true) → P ↔ (b ≡ true) → a ≡ b
same-told true true f g = refl
same-told true false f g = sym (g.0 (f.1 refl))
same-told false true f g = f.0 (g.1 refl)
same-told false false f g = refl

due : (f : ChoiceFile) (vs : List Verdict) (end sent : List ℕ) → AreFirstVerdicts f.entries vs → MayEnd f vs end → IsPrefixOf (verdict_lines f.entries vs ++ end) sent
    → (all : List Verdict) (right : Bool) → AreVerdicts f.entries all → TellsRight f all right → IsPrefixOf (judgement_text f.entries all right) sent
due f vs end sent first (inl none) front all right are tells =
    let es = f.entries in
    let more = verdict_lines (drop (length vs) es) (drop (length vs) all) in
    let parts : verdict_lines es all ≡ verdict_lines es vs ++ more = lines-parts (length vs) es all ∙ ap (λ ws. verdict_lines es ws ++ more) (are-first es vs all first are) in
    let unended : verdict_lines es vs ≡ verdict_lines es vs ++ end = sym (append-nil (verdict_lines es vs)) ∙ ap (λ t. verdict_lines es vs ++ t) (sym none) in
    let whole : judgement_text es all right ≡ (verdict_lines es vs ++ end) ++ (more ++ choice_end es right) =
    ap (λ t. t ++ choice_end es right) parts ∙ append_assoc (verdict_lines es vs) more (choice_end es right) ∙ ap (λ t. t ++ (more ++ choice_end es right)) unended in
    prefix-trans (judgement_text es all right) (verdict_lines es vs ++ end) sent (more ++ choice_end es right, whole) front
due f vs end sent first (inr (count, (said, says, is))) front all right are tells =
    let es = f.entries in
    let same : all ≡ vs = sym (take_all (length vs) all (omega (arith, count, are.as_many))) ∙ are-first es vs all first are in
    let alike : right ≡ said = same-told right said (subst (λ ws. TellsRight f ws right) same tells) says in
    let whole : judgement_text es all right ≡ verdict_lines es vs ++ end =
    ap (λ ws. judgement_text es ws right) same ∙ ap (λ b. judgement_text es vs b) alike ∙ ap (λ t. verdict_lines es vs ++ t) (sym is) in
    subst (λ t. IsPrefixOf t sent) (sym whole) front

pub judged-part : (bytes : List ℕ) (f : ChoiceFile) (vs : List Verdict) (end : List ℕ) (old new : Outlet) → HasChoice bytes f → AreFirstVerdicts f.entries vs → MayEnd f vs end
    → (part : WrotePart old new (verdict_lines f.entries vs ++ end)) → ChoiceJudgedInPart bytes part.sent
judged-part bytes f vs end old new has first may part = record {
  file = f;
  has_choice = has;
  verdicts = vs;
  are_verdicts = first;
  end = end;
  may_end = may;
  front = part.front;
  due = due f vs end part.sent first may part.front;
}
