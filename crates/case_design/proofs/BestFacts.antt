-- The best among entries is the choice among them by their cells.
use Rattle.std.proofs.Common.{◌≡◌, ◌<◌, ◌≤◌, List, [], ◌∷◌, ◌++◌, map, Option, Some, None, Bool, refl, sym, ap, ◌∙◌, inl, inr}
use Rattle.std.specs.Prelude.{filter, nat_lt, option_map}
use Rattle.std.specs.List.{AllByRecursion}
use Rattle.std.proofs.lemmas.Bool.{cases_Bool}
use Rattle.std.proofs.lemmas.List.{map-append}
use Rattle.pallet_choice.specs.declared.choices.Score.{Score}
use Rattle.pallet_choice.specs.Choices.{IsChoice}
use Rattle.pallet_choice.proofs.Chosen.{choice_is_one}
use Rattle.case_design.specs.declared.best.Cover.{Cover}
use Rattle.case_design.specs.Bests.{IsBest, score_by, cover_by}
use Rattle.case_design.specs.Laws.{BestsAreOne}

-- ---- entries and scores

covers_back : (covers : List Cover) → map cover_by (map score_by covers) ≡ covers
covers_back [] = refl
covers_back (c ∷ covers) = ap (λ (cs : List Cover). c ∷ cs) (covers_back covers)

best_back : (best : Option Cover) → option_map cover_by (option_map score_by best) ≡ best
best_back None = refl
best_back (Some c) = refl

all_mapped : {X Y : Type 0} (f : X → Y) (P : Y → Type 0) (xs : List X) → AllByRecursion (λ x. P (f x)) xs → AllByRecursion P (map f xs)
all_mapped f P [] all = tt
all_mapped f P (x ∷ xs) all = (all.0, all_mapped f P xs all.1)

-- a test by the image keeps the images
kept : {X Y : Type 0} (f : X → Y) (p : Y → Bool) (xs : List X) → filter p (map f xs) ≡ map f (filter (λ x. p (f x)) xs)
kept f p [] = refl
kept f p (x ∷ xs) = elim (cases_Bool (p (f x))) [
  | inl passes ↦ rw (passes, kept f p xs) refl
  | inr fails ↦ rw (fails, kept f p xs) refl
]

parts_mapped : {X Y : Type 0} (f : X → Y) (xs before after : List X) (x : X) → xs ≡ before ++ x ∷ after → map f xs ≡ map f before ++ f x ∷ map f after
parts_mapped f xs before after x parts = ap (map f) parts ∙ map-append f before (x ∷ after)

-- ---- between the choice and the best

pub best_of_choice : (covers : List Cover) (chosen : Option Score) (rivals : List Score) → IsChoice (map score_by covers) chosen rivals → IsBest covers (option_map cover_by chosen) (map cover_by rivals)
best_of_choice covers None rivals c = (sym (covers_back covers) ∙ ap (map cover_by) c.is_chosen, ap (map cover_by) c.are_rivals)
best_of_choice covers (Some s) rivals c =
    let f = c.is_chosen in (
      record {
        before = map cover_by f.before;
        after = map cover_by f.after;
        parts = sym (covers_back covers) ∙ parts_mapped cover_by (map score_by covers) f.before f.after s f.parts;
        less = all_mapped cover_by (λ d. d.covers < s.count) f.before f.fewer;
        no_more = all_mapped cover_by (λ d. d.covers ≤ s.count) f.after f.no_more;
      },
      ap (map cover_by) (c.are_rivals ∙ kept score_by (λ t. nat_lt s.count t.bound) covers) ∙ covers_back (filter (λ d. nat_lt s.count d.may) covers),
    )

choice_of_best : (covers : List Cover) (best : Option Cover) (rivals : List Cover) → IsBest covers best rivals → IsChoice (map score_by covers) (option_map score_by best) (map score_by rivals)
choice_of_best covers None rivals b = record { is_chosen = ap (map score_by) b.0; are_rivals = ap (map score_by) b.1 }
choice_of_best covers (Some best) rivals b =
    let f = b.0 in record {
      is_chosen = record {
        before = map score_by f.before;
        after = map score_by f.after;
        parts = parts_mapped score_by covers f.before f.after best f.parts;
        fewer = all_mapped score_by (λ s. s.count < best.covers) f.before f.less;
        no_more = all_mapped score_by (λ s. s.count ≤ best.covers) f.after f.no_more;
      };
      are_rivals = ap (map score_by) b.1 ∙ sym (kept score_by (λ s. nat_lt best.covers s.bound) covers);
    }

pub best_is_one : BestsAreOne
best_is_one covers b c rivals others f g =
    let one = choice_is_one (map score_by covers) (option_map score_by b) (option_map score_by c) (map score_by rivals) (map score_by others) (choice_of_best covers b rivals f) (choice_of_best covers c others g) in
    (sym (best_back b) ∙ ap (option_map cover_by) one.0 ∙ best_back c, sym (covers_back rivals) ∙ ap (map cover_by) one.1 ∙ covers_back others)
