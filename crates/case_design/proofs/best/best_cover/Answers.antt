use Rattle.std.proofs.Common.{◌≡◌, ◌∙◌, List, Option, map, ap, subst, rules}
use Rattle.std.specs.Prelude.{option_map}
use Rattle.pallet_choice.specs.declared.choices.Score.{Score}
use Rattle.pallet_choice.specs.Choices.{IsChoice}
use Rattle.case_design.specs.declared.best.Cover.{Cover}
use Rattle.case_design.specs.Bests.{IsBest, score_by, cover_by}
use Rattle.case_design.proofs.BestFacts.{best_of_choice}
use Rattle.case_design.proofs.best.best_cover.Goals as goal

by_score : (covers : List Cover) (scores : List Score) (chosen : Option Score) (rivals : List Score) (best : Option Cover) (own : List Cover) → scores ≡ map score_by covers → IsChoice scores chosen rivals → best ≡ option_map cover_by chosen → own ≡ map cover_by rivals → IsBest covers best own
by_score covers scores chosen rivals best own are choice is of_rivals =
    rw (is, of_rivals) (best_of_choice covers chosen rivals (subst (λ (s : List Score). IsChoice s chosen rivals) are choice))

pub returns : goal.returns
returns c =
    let best : c.map.result ≡ option_map cover_by c.in_ok-choice.choice.chosen = search rules in
    by_score c.args.list.now c.deref.result.now c.in_ok-choice.choice.chosen c.in_ok-choice.choice.rivals.items c.map.result c.in_ok-rivals.rivals.items (c.deref.ensures.value ∙ c.in_ok-scores.ensures) c.in_ok-choice.ensures best (c.in_ok-rivals.ensures ∙ ap (map cover_by) c.deref-2.ensures.value)
