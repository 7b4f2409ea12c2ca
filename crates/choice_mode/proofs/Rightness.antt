-- Whether a choice is right.
use Rattle.std.proofs.Common.{◌≡◌, ◌∙◌, List, Option, sym, subst, ap}
use Rattle.std.specs.Prelude.{◌↔◌, Bool, true, false, IfOk, Result, Ok, Err}
use Rattle.report_checker.specs.declared.verdicts.Verdict.{Verdict}
use Rattle.pallet_choice.specs.declared.choices.Score.{Score}
use Rattle.pallet_choice.specs.Choices.{IsChoice}
use Rattle.pallet_choice.specs.Text.{TailValue, told_of_both}
use Rattle.pallet_choice.proofs.Chosen.{choice_is_one}
use Rattle.choice_text.specs.Text.{ChoiceFile}
use Rattle.check_mode.specs.Verdicts.{any_no}
use Rattle.choice_mode.specs.Scores.{scores_of}
use Rattle.choice_mode.specs.Judging.{TellsRight}

-- no verdict is no, and this is told, which is the choice
abbrev pub IsRightOf : Bool → List Score → TailValue → Type 0
IsRightOf found scores told = (found ≡ false) × (chosen : Option Score) × (rivals : List Score) × IsChoice scores chosen rivals × (told ≡ told_of_both chosen rivals)

-- it is right exactly where it tells the one choice that there is
pub right-by : (found : Bool) (scores : List Score) (told : TailValue) (chosen : Option Score) (rivals : List Score) → found ≡ false → IsChoice scores chosen rivals
    → (right : Bool) → (right ≡ true) ↔ (told ≡ told_of_both chosen rivals) → IsRightOf found scores told ↔ (right ≡ true)
right-by found scores told chosen rivals calm choice right same = (
  λ is.
      let (still, other, others, one, tells) = is in
      let alike = choice_is_one scores other chosen others rivals one choice in
      same.1 (tells ∙ ap (λ (c : Option Score). told_of_both c others) alike.0 ∙ ap (λ (rs : List Score). told_of_both chosen rs) alike.1),
  λ yes. (calm, chosen, rivals, choice, same.0 yes),
)

pub on-ok : {X E : Type 0} {P Q : X → Type 0} (r : Result X E) → ((x : X) → P x → Q x) → IfOk r P → IfOk r Q
on-ok (Ok x) f h = f x h
on-ok (Err e) f h = h

-- of the entries' own verdicts and scores it is what the judge tells
pub told-right : (f : ChoiceFile) (vs : List Verdict) (found : Bool) (scores : List Score) (told : TailValue) (right : Bool) → any_no vs ≡ found → scores ≡ scores_of f.entries → told ≡ f.tail
    → IsRightOf found scores told ↔ (right ≡ true) → TellsRight f vs right
told-right f vs found scores told right calm same tail is = (
  λ r. is.0 (sym calm ∙ r.no_no, r.chosen, r.rivals, subst (λ (ss : List Score). IsChoice ss r.chosen r.rivals) (sym same) r.is_choice, tail ∙ r.tail),
  λ yes.
      let (still, chosen, rivals, choice, tells) = is.1 yes in
      record {
        no_no = calm ∙ still;
        chosen = chosen;
        rivals = rivals;
        is_choice = subst (λ (ss : List Score). IsChoice ss chosen rivals) same choice;
        tail = sym tail ∙ tells;
      },
)
