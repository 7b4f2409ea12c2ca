-- The lines of rivals are read as far as their numbers rise.
use Rattle.std.proofs.Common.{◌≡◌, ℕ, suc, ◌<◌, List, [], ◌∷◌, ◌++◌, length, map, Option, Some, None, refl, sym, ap, ◌∙◌, append_assoc, arith, ◌⊎◌, inl, inr}
use Rattle.std.specs.List.{AllByRecursion}
use Rattle.std.specs.Prelude.{option_map}
use Rattle.std.proofs.lemmas.List.{append-nil}
use Rattle.texts.proofs.LineEnds.{IsPlain}
use Rattle.texts.proofs.Parsers.{map_some}
use Rattle.pallet_choice.specs.Text.{rival_line}
use Rattle.pallet_choice.specs.Ranges.{IsTold, RisesFrom}
use Rattle.pallet_choice.specs.Words.{rival_of}
use Rattle.pallet_choice.specs.Lines.{next_rival, rival_onto, rivals_from}
use Rattle.pallet_choice.proofs.EntryLines.{rival_plain, rival_back, rival_only}

abbrev pub number_told : ℕ × ℕ → ℕ
number_told rival = rival.0

-- the number of the last rival
abbrev pub last_of : ℕ → List (ℕ × ℕ) → ℕ
last_of low [] = low
last_of low (r ∷ rs) = last_of r.0 rs

-- the first line is no rival's whose number is above this one
abbrev pub NoneFollows : ℕ → List (List ℕ) → Type 0
NoneFollows low [] = Unit {0}
NoneFollows low (l ∷ ls) = rival_of low l ≡ None

pub either : {X : Type 0} (o : Option X) → (o ≡ None) ⊎ ((x : X) × (o ≡ Some x))
either None = inl refl
either (Some x) = inr (x, refl)

-- rivals in the first lines, and what follows them
pub record TakesRivals (low : ℕ) (ls : List (List ℕ)) (rs : List (ℕ × ℕ)) (rest : List (List ℕ)) : Type 0 where
  pub told : AllByRecursion IsTold rs
  pub rise : RisesFrom low (map number_told rs)
  pub parts : ls ≡ map rival_line rs ++ rest
  pub no_more : NoneFollows (last_of low rs) rest

pub rivals_take : (low : ℕ) (ls : List (List ℕ)) → TakesRivals low ls (rivals_from low ls).0 (rivals_from low ls).1
unfolding rivals_from
rivals_take low [] = record { told = tt; rise = tt; parts = refl; no_more = tt }
rivals_take low (l ∷ ls) = elim (either (rival_of low l)) [
  | inl none ↦ rw none (record { told = tt; rise = tt; parts = refl; no_more = none })
  | inr some ↦
      let o = rival_only low l some.0 some.1 in
      let t = rivals_take some.0.0 ls in
      rw some.1 (record {
        told = (o.told, t.told);
        rise = (o.above, t.rise);
        parts = ap (λ (x : List ℕ). x ∷ ls) o.line_is ∙ ap (λ (x : List (List ℕ)). rival_line some.0 ∷ x) t.parts;
        no_more = t.no_more;
      })
]

-- what is read where rivals stand in front
pub rivals_again : (low : ℕ) (rs : List (ℕ × ℕ)) (rest : List (List ℕ)) → AllByRecursion IsTold rs → RisesFrom low (map number_told rs)
    → rivals_from low (map rival_line rs ++ rest) ≡ (rs ++ (rivals_from (last_of low rs) rest).0, (rivals_from (last_of low rs) rest).1)
unfolding rivals_from
rivals_again low [] rest told rise = refl
rivals_again low (r ∷ rs) rest told rise = rw (rival_back low r told.0 rise.0) (ap (rival_onto r) (rivals_again r.0 rs rest told.1 rise.1))

pub rivals_stop : (low : ℕ) (rest : List (List ℕ)) → NoneFollows low rest → rivals_from low rest ≡ ([], rest)
unfolding rivals_from
rivals_stop low [] none = refl
rivals_stop low (l ∷ ls) none = rw none refl

pub rivals_plain : (rs : List (ℕ × ℕ)) → AllByRecursion IsTold rs → AllByRecursion IsPlain (map rival_line rs)
rivals_plain [] told = tt
rivals_plain (r ∷ rs) told = (rival_plain r told.0, rivals_plain rs told.1)

-- one rival more
pub rises_on : (low : ℕ) (rs : List (ℕ × ℕ)) (r : ℕ × ℕ) → RisesFrom low (map number_told rs) → last_of low rs < r.0 → RisesFrom low (map number_told (rs ++ r ∷ []))
rises_on low [] r rise lt = (lt, tt)
rises_on low (x ∷ rs) r rise lt = (rise.0, rises_on x.0 rs r rise.1 lt)

-- ---- reading in a loop

-- what was read before, and what is still read
abbrev pub with_front : List (ℕ × ℕ) → List (ℕ × ℕ) × List (List ℕ) → List (ℕ × ℕ) × List (List ℕ)
with_front front read = (front ++ read.0, read.1)

next_is : (low : ℕ) (ls : List (List ℕ)) (r : ℕ × ℕ) (after : List (List ℕ)) → next_rival low ls ≡ Some (r, after) → (l : List ℕ) × (ls ≡ l ∷ after) × (rival_of low l ≡ Some r)
unfolding next_rival
next_is low [] r after e = absurd cc
next_is low (l ∷ ls) r after e =
    let m = map_some (rival_of low l) (λ x. (x, ls)) (r, after) e in
    let first : m.0 ≡ r = ap (λ (p : (ℕ × ℕ) × List (List ℕ)). p.0) m.2 in
    let others : ls ≡ after = ap (λ (p : (ℕ × ℕ) × List (List ℕ)). p.1) m.2 in
    (l, ap (λ (t : List (List ℕ)). l ∷ t) others, m.1 ∙ ap (λ (x : ℕ × ℕ). Some x) first)

pub goes_on : (front : List (ℕ × ℕ)) (low : ℕ) (ls after : List (List ℕ)) (r : ℕ × ℕ) (total : List (ℕ × ℕ) × List (List ℕ)) → next_rival low ls ≡ Some (r, after)
    → with_front front (rivals_from low ls) ≡ total → with_front (front ++ r ∷ []) (rivals_from r.0 after) ≡ total
unfolding rivals_from
goes_on front low ls after r total h so_far =
    let n = next_is low ls r after h in
    let one : rivals_from low ls ≡ rival_onto r (rivals_from r.0 after) = ap (rivals_from low) n.1 ∙ rw n.2 refl in
    let more : with_front front (rival_onto r (rivals_from r.0 after)) ≡ with_front (front ++ r ∷ []) (rivals_from r.0 after) = regroup (rivals_from r.0 after) in
    sym more ∙ ap (with_front front) (sym one) ∙ so_far
  where
    regroup : (read : List (ℕ × ℕ) × List (List ℕ)) → with_front front (rival_onto r read) ≡ with_front (front ++ r ∷ []) read
    regroup read = ap (λ (rs : List (ℕ × ℕ)). (rs, read.1)) (sym (append_assoc front (r ∷ []) read.0))

abbrev read_before : List (List ℕ) → ℕ × ℕ → (ℕ × ℕ) × List (List ℕ)
read_before ls r = (r, ls)

none_next : (low : ℕ) (ls : List (List ℕ)) → next_rival low ls ≡ None → NoneFollows low ls
unfolding next_rival
none_next low [] h = tt
none_next low (l ∷ ls) h = elim (either (rival_of low l)) [
  | inl none ↦ none
  | inr some ↦ let e = ap (option_map (read_before ls)) some.1 in absurd cc
]

pub is_done : (front : List (ℕ × ℕ)) (low : ℕ) (ls : List (List ℕ)) (total : List (ℕ × ℕ) × List (List ℕ)) → next_rival low ls ≡ None → with_front front (rivals_from low ls) ≡ total → total ≡ (front, ls)
is_done front low ls total h so_far =
    let one = rivals_stop low ls (none_next low ls h) in
    sym so_far ∙ ap (with_front front) one ∙ ap (λ (rs : List (ℕ × ℕ)). (rs, ls)) (append-nil front)

pub shorter : (low : ℕ) (ls after : List (List ℕ)) (r : ℕ × ℕ) → next_rival low ls ≡ Some (r, after) → length after < length ls
shorter low ls after r h =
    let n = next_is low ls r after h in
    let len : length ls ≡ suc (length after) = ap length n.1 in
    omega arith
