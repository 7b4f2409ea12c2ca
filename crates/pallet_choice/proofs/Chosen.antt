-- The first entry of the greatest count is one, and is kept up while entries are added.
use Rattle.std.proofs.Common.{◌≡◌, ℕ, ◌<◌, ◌≤◌, ◌+◌, List, [], ◌∷◌, ◌++◌, length, get_or, take, Option, Some, None, refl, sym, ap, subst, ◌∙◌, append_assoc, arith}
use Rattle.std.specs.List.{AllByRecursion}
use Rattle.std.proofs.lemmas.List.{take_more}
use Rattle.pallet_choice.specs.declared.choices.Score.{Score}
use Rattle.pallet_choice.specs.Choices.{IsFirstOfMost, IsChosen, AreRivals, ChoicesAreOne}

-- ---- what holds of all elements of two lists

pub all_both : {X : Type 0} (P : X → Type 0) (xs ys : List X) → AllByRecursion P xs → AllByRecursion P ys → AllByRecursion P (xs ++ ys)
all_both P [] ys p q = q
all_both P (x ∷ xs) ys p q = (p.0, all_both P xs ys p.1 q)

pub all_behind : {X : Type 0} (P : X → Type 0) (xs ys : List X) → AllByRecursion P (xs ++ ys) → AllByRecursion P ys
all_behind P [] ys p = p
all_behind P (x ∷ xs) ys p = all_behind P xs ys p.1

pub all_as : {X : Type 0} (P Q : X → Type 0) → ((x : X) → P x → Q x) → (xs : List X) → AllByRecursion P xs → AllByRecursion Q xs
all_as P Q f [] p = tt
all_as P Q f (x ∷ xs) p = (f x p.0, all_as P Q f xs p.1)

-- ---- one more entry

pub alone : (s : Score) → IsFirstOfMost (s ∷ []) s
alone s = record { before = []; after = []; parts = refl; fewer = tt; no_more = tt }

pub stays : (scores : List Score) (most s : Score) → IsFirstOfMost scores most → s.count ≤ most.count → IsFirstOfMost (scores ++ s ∷ []) most
stays scores most s f le = record {
  before = f.before;
  after = f.after ++ s ∷ [];
  parts = ap (λ (t : List Score). t ++ s ∷ []) f.parts ∙ append_assoc f.before (most ∷ f.after) (s ∷ []);
  fewer = f.fewer;
  no_more = all_both (λ t. t.count ≤ most.count) f.after (s ∷ []) f.no_more (le, tt);
}

pub moves : (scores : List Score) (most s : Score) → IsFirstOfMost scores most → most.count < s.count → IsFirstOfMost (scores ++ s ∷ []) s
moves scores most s f lt = record {
  before = scores;
  after = [];
  parts = refl;
  fewer = subst (AllByRecursion (λ t. t.count < s.count)) (sym f.parts) (all_both (λ t. t.count < s.count) f.before (most ∷ f.after) (all_as (λ t. t.count < most.count) (λ t. t.count < s.count) below f.before f.fewer) (lt, all_as (λ t. t.count ≤ most.count) (λ t. t.count < s.count) at_most f.after f.no_more));
  no_more = tt;
}
  where
    below : (t : Score) → t.count < most.count → t.count < s.count
    below t h = omega arith

    at_most : (t : Score) → t.count ≤ most.count → t.count < s.count
    at_most t h = omega arith

-- where none was chosen, the next entry is
pub begins : (scores : List Score) (s : Score) → scores ≡ [] → IsFirstOfMost (scores ++ s ∷ []) s
begins scores s e = subst (λ (xs : List Score). IsFirstOfMost (xs ++ s ∷ []) s) (sym e) (alone s)

-- the entries so far, and the next one
pub one_more : (scores : List Score) (i : ℕ) (d : Score) (most : Option Score) → i < length scores → IsChosen (take i scores ++ get_or scores i d ∷ []) most → IsChosen (take (i + 1) scores) most
one_more scores i d most lt f = subst (λ (t : List Score). IsChosen t most) (sym (take_more scores i d lt)) f

-- ---- there is one

-- no entry that stands first of its count is behind another
first_not_behind : (before after others : List Score) (s t : Score) → s ∷ after ≡ before ++ t ∷ others → AllByRecursion (λ x. x.count ≤ s.count) after → AllByRecursion (λ x. x.count < t.count) before → s ≡ t
first_not_behind [] after others s t e most first = cc
first_not_behind (x ∷ before) after others s t e most first =
    let heads : s ≡ x = cc in
    let tails : after ≡ before ++ t ∷ others = cc in
    let behind = all_behind (λ y. y.count ≤ s.count) before (t ∷ others) (subst (AllByRecursion (λ y. y.count ≤ s.count)) tails most) in
    let same : s.count ≡ x.count = ap (λ (y : Score). y.count) heads in
    let above = first.0 in
    let below = behind.0 in
    absurd (omega arith)

same_first : (before between after others : List Score) (s t : Score) → before ++ s ∷ after ≡ between ++ t ∷ others → AllByRecursion (λ x. x.count < s.count) before → AllByRecursion (λ x. x.count ≤ s.count) after
    → AllByRecursion (λ x. x.count < t.count) between → AllByRecursion (λ x. x.count ≤ t.count) others → s ≡ t
same_first [] between after others s t e f g h k = first_not_behind between after others s t e g h
same_first (x ∷ before) [] after others s t e f g h k = sym (first_not_behind (x ∷ before) others after t s (sym e) k f)
same_first (x ∷ before) (y ∷ between) after others s t e f g h k =
    let tails : before ++ s ∷ after ≡ between ++ t ∷ others = cc in
    same_first before between after others s t tails f.1 g h.1 k

pub one_first : (scores : List Score) (s t : Score) → IsFirstOfMost scores s → IsFirstOfMost scores t → s ≡ t
one_first scores s t f g = same_first f.before g.before f.after g.after s t (sym f.parts ∙ g.parts) f.fewer f.no_more g.fewer g.no_more

none_has_no_first : (s : Score) → IsFirstOfMost [] s → ⊥
none_has_no_first s f = none f.before f.parts
  where
    none : (before : List Score) → [] ≡ before ++ s ∷ f.after → ⊥
    none [] e = absurd cc
    none (x ∷ before) e = absurd cc

chosen_is_one : (scores : List Score) (c d : Option Score) → IsChosen scores c → IsChosen scores d → c ≡ d
chosen_is_one scores None None f g = refl
chosen_is_one scores None (Some t) f g = absurd (none_has_no_first t (subst (λ (xs : List Score). IsFirstOfMost xs t) f g))
chosen_is_one scores (Some s) None f g = absurd (none_has_no_first s (subst (λ (xs : List Score). IsFirstOfMost xs s) g f))
chosen_is_one scores (Some s) (Some t) f g = ap (λ (x : Score). Some x) (one_first scores s t f g)

rivals_are_one : (scores : List Score) (c : Option Score) (rivals others : List Score) → AreRivals scores c rivals → AreRivals scores c others → rivals ≡ others
rivals_are_one scores None rivals others f g = f ∙ sym g
rivals_are_one scores (Some c) rivals others f g = f ∙ sym g

pub choice_is_one : ChoicesAreOne
choice_is_one scores c d rivals others f g =
    let same = chosen_is_one scores c d f.is_chosen g.is_chosen in
    (same, rivals_are_one scores d rivals others (subst (λ (x : Option Score). AreRivals scores x rivals) same f.are_rivals) g.are_rivals)
