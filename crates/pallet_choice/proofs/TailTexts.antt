-- A choice among entries within the ranges has the text of a tail.
use Rattle.std.proofs.Common.{ℕ, ◌<◌, List, [], ◌∷◌, map, Option, Some, None, sym, subst, arith, Bool, inl, inr}
use Rattle.std.specs.Prelude.{filter, option_map, IfSome}
use Rattle.std.specs.List.{AllByRecursion}
use Rattle.std.proofs.lemmas.Bool.{cases_Bool}
use Rattle.pallet_choice.specs.declared.choices.Score.{Score}
use Rattle.pallet_choice.specs.Choices.{IsChosen, AreRivals}
use Rattle.pallet_choice.specs.Text.{count_told, bound_told}
use Rattle.pallet_choice.specs.Ranges.{IsTold, RisesFrom, IsScore}
use Rattle.pallet_choice.specs.Laws.{ChoicesAreTails}
use Rattle.pallet_choice.proofs.Chosen.{all_behind}
use Rattle.pallet_choice.proofs.RivalLines.{number_told}

abbrev number_of_score : Score → ℕ
number_of_score s = s.number

rises_from_less : (low high : ℕ) (ns : List ℕ) → low < high → RisesFrom high ns → RisesFrom low ns
rises_from_less low high [] lt f = tt
rises_from_less low high (n ∷ ns) lt f = let first = f.0 in (omega arith, f.1)

-- some of the entries, in their order
kept_told : (p : Score → Bool) (scores : List Score) → AllByRecursion IsScore scores → AllByRecursion IsTold (map bound_told (filter p scores))
kept_told p [] f = tt
kept_told p (s ∷ scores) f = elim (cases_Bool (p s)) [
  | inl passes ↦ rw passes ((f.0.number, f.0.bound), kept_told p scores f.1)
  | inr fails ↦ rw fails (kept_told p scores f.1)
]

kept_rise : (p : Score → Bool) (low : ℕ) (scores : List Score) → RisesFrom low (map number_of_score scores) → RisesFrom low (map number_told (map bound_told (filter p scores)))
kept_rise p low [] f = tt
kept_rise p low (s ∷ scores) f = elim (cases_Bool (p s)) [
  | inl passes ↦ rw passes (f.0, kept_rise p s.number scores f.1)
  | inr fails ↦ rw fails (kept_rise p low scores (rises_from_less low s.number (map number_of_score scores) f.0 f.1))
]

chosen_told : (scores : List Score) (chosen : Option Score) → AllByRecursion IsScore scores → IsChosen scores chosen → IfSome (option_map count_told chosen) IsTold
chosen_told scores None all f = tt
chosen_told scores (Some c) all f =
    let here = all_behind IsScore f.before (c ∷ f.after) (subst (AllByRecursion IsScore) f.parts all) in
    (here.0.number, here.0.count)

rivals_told : (scores : List Score) (chosen : Option Score) (rivals : List Score) → AllByRecursion IsScore scores → AreRivals scores chosen rivals → AllByRecursion IsTold (map bound_told rivals)
rivals_told scores None rivals all f = subst (λ (rs : List Score). AllByRecursion IsTold (map bound_told rs)) (sym f) tt
rivals_told scores (Some c) rivals all f = subst (λ (rs : List Score). AllByRecursion IsTold (map bound_told rs)) (sym f) (kept_told _ scores all)

rivals_rise : (scores : List Score) (chosen : Option Score) (rivals : List Score) → RisesFrom 0 (map number_of_score scores) → AreRivals scores chosen rivals → RisesFrom 0 (map number_told (map bound_told rivals))
rivals_rise scores None rivals rise f = subst (λ (rs : List Score). RisesFrom 0 (map number_told (map bound_told rs))) (sym f) tt
rivals_rise scores (Some c) rivals rise f = subst (λ (rs : List Score). RisesFrom 0 (map number_told (map bound_told rs))) (sym f) (kept_rise _ 0 scores rise)

pub choice_is_tail : ChoicesAreTails
choice_is_tail scores chosen rivals all rise f = record {
  chosen = chosen_told scores chosen all f.is_chosen;
  rivals = rivals_told scores chosen rivals all f.are_rivals;
  rise = rivals_rise scores chosen rivals rise f.are_rivals;
}
