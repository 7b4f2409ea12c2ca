-- The line of the chosen entry and that of a rival are read exactly.
use Rattle.std.proofs.Common.{◌≡◌, ℕ, ◌<◌, ◌≤◌, List, [], ◌∷◌, Option, Some, None, refl, sym, ap, subst, ◌∙◌, arith, Bool, true, false, cond, leb, ltb, ◌⊎◌, inl, inr}
use Rattle.std.specs.Prelude.{decimal, codes, option_map, ◌&&◌, IfSome}
use Rattle.std.specs.Int.{IsInRange}
use Rattle.std.specs.Str.{bytes_eq}
use Rattle.std.specs.List.{AllByRecursion}
use Rattle.std.proofs.lemmas.Bool.{cases_Bool, leb-true, le-leb, ltb-true, lt-ltb}
use Rattle.std.proofs.lemmas.Slice.Eq.{bytes_eq-Decides}
use Rattle.plan_io.specs.Numbers.{number_of}
use Rattle.texts.specs.Lines.{spaced}
use Rattle.texts.specs.Words.{◌>>=◌, word_by, behind}
use Rattle.texts.proofs.LineEnds.{IsPlain}
use Rattle.texts.proofs.Parsers.{Parses, both_true, bind_some, map_some, some_is, guard_some, number_back, number_is, parses_word, parses_behind, parses_none, parses_then, IsWord, few_wide, words_spaced, plain_spaced, ReadsLine, reads_line}
use Rattle.pallet_choice.specs.Text.{told_words, chosen_words, rival_line}
use Rattle.pallet_choice.specs.Ranges.{IsTold}
use Rattle.pallet_choice.specs.Words.{from_one, number_from_one, told_at, told_of, chosen_of, numbered_above, rival_of}

-- ---- a number from 1 on

from_one_back : (most n : ℕ) → most ≤ 9999999999 → IsInRange 1 most n → number_from_one most (decimal n) ≡ Some n
from_one_back most n le f =
    let low = f.0 in
    let high = f.1 in
    rw (number_back n (omega arith)) (rw (le-leb 1 n low, le-leb n most high) refl)

from_one_only : (most : ℕ) (w : List ℕ) (n : ℕ) → number_from_one most w ≡ Some n → IsInRange 1 most n × (w ≡ decimal n)
from_one_only most w n e =
    let b = bind_some (number_of w) (from_one most) n e in
    let g = guard_some (leb 1 b.0 && leb b.0 most) b.0 n b.2 in
    let p = both_true (leb 1 b.0) (leb b.0 most) g.0 in
    let s = number_is w b.0 b.1 in
    (subst (IsInRange 1 most) g.1 (leb-true 1 b.0 p.0, leb-true b.0 most p.1), s.1 ∙ ap decimal g.1)

from_one_parses : (most : ℕ) → most ≤ 9999999999 → Parses (λ n. decimal n ∷ []) (IsInRange 1 most) (word_by (number_from_one most))
from_one_parses most le = parses_word (number_from_one most) decimal (IsInRange 1 most) (λ n f. from_one_back most n le f) (from_one_only most)

-- ---- two numbers of an entry

told_parses : (name unit : List ℕ) → Parses (told_words name unit) IsTold (told_at name unit)
unfolding told_at
told_parses name unit =
    parses_behind name (λ e. decimal e.0 ∷ unit ∷ decimal e.1 ∷ []) IsTold (λ ws. word_by (number_from_one 256) ws >>= λ number. behind unit number.1 >>= λ rest. word_by (number_from_one 1000) rest >>= λ cases. Some ((number.0, cases.0), cases.1))
    (parses_then (λ n. decimal n ∷ []) (IsInRange 1 256) (word_by (number_from_one 256)) (λ e. e.0) (λ e. unit ∷ decimal e.1 ∷ []) IsTold (λ n ws. behind unit ws >>= λ rest. word_by (number_from_one 1000) rest >>= λ cases. Some ((n, cases.0), cases.1))
    (from_one_parses 256 (omega arith))
    (λ n hn. parses_behind unit (λ e. decimal e.1 ∷ []) (λ e. IsTold e × (e.0 ≡ n)) (λ rest. word_by (number_from_one 1000) rest >>= λ cases. Some ((n, cases.0), cases.1))
    (parses_then (λ m. decimal m ∷ []) (IsInRange 1 1000) (word_by (number_from_one 1000)) (λ e. e.1) (λ e. []) (λ e. IsTold e × (e.0 ≡ n)) (λ m ws. Some ((n, m), ws))
    (from_one_parses 1000 (omega arith))
    (λ m hm. parses_none (λ e. (IsTold e × (e.0 ≡ n)) × (e.1 ≡ m)) (n, m) (((hn, hm), refl), refl) (one n m))
    (λ e f. f.0.1)))
    (λ e f. f.0))
  where
    one : (n m : ℕ) (e : ℕ × ℕ) → (IsTold e × (e.0 ≡ n)) × (e.1 ≡ m) → e ≡ (n, m)
    one n m e f = ap (λ (k : ℕ). (k, e.1)) f.0.1 ∙ ap (λ (k : ℕ). (n, k)) f.1

told_solid : (name unit : List ℕ) (entry : ℕ × ℕ) → IsWord name → IsWord unit → IsTold entry → AllByRecursion IsWord (told_words name unit entry)
told_solid name unit entry is_name is_unit f =
    let number = f.0.1 in
    let cases = f.1.1 in
    (is_name, (few_wide entry.0 (omega arith), (is_unit, (few_wide entry.1 (omega arith), tt))))

told_reads : (name unit : List ℕ) → IsWord name → IsWord unit → ReadsLine (λ e. spaced (told_words name unit e)) IsTold (told_of name unit)
unfolding told_of
told_reads name unit is_name is_unit =
    reads_line (told_words name unit) IsTold (told_at name unit) (told_parses name unit) (λ e f. words_spaced name (decimal e.0 ∷ unit ∷ decimal e.1 ∷ []) (told_solid name unit e is_name is_unit f))

told_plain : (name unit : List ℕ) (entry : ℕ × ℕ) → IsWord name → IsWord unit → IsTold entry → IsPlain (spaced (told_words name unit entry))
told_plain name unit entry is_name is_unit f = plain_spaced (told_words name unit entry) (told_solid name unit entry is_name is_unit f)

-- ---- the chosen entry

abbrev pub IsChosenTold : Option (ℕ × ℕ) → Type 0
IsChosenTold chosen = IfSome chosen IsTold

abbrev none_line : List ℕ
none_line = codes "chosen none"

abbrev an_entry : ℕ × ℕ → Option (ℕ × ℕ)
an_entry entry = Some entry

none_is_no_entry : told_of (codes "chosen") (codes "count") none_line ≡ None
unfolding told_of told_at
none_is_no_entry = refl

entry_reads : ReadsLine (λ e. spaced (told_words (codes "chosen") (codes "count") e)) IsTold (told_of (codes "chosen") (codes "count"))
entry_reads = told_reads (codes "chosen") (codes "count") refl refl

chosen_back : (chosen : Option (ℕ × ℕ)) → IsChosenTold chosen → chosen_of (spaced (chosen_words chosen)) ≡ Some chosen
unfolding chosen_of
chosen_back None f = refl
chosen_back (Some entry) f =
    let line = spaced (told_words (codes "chosen") (codes "count") entry) in
    let read : told_of (codes "chosen") (codes "count") line ≡ Some entry = entry_reads.back entry f in
    elim (cases_Bool (bytes_eq line none_line)) [
      | inl y ↦
          let same : line ≡ none_line = (bytes_eq-Decides line none_line).0 y in
          let none : told_of (codes "chosen") (codes "count") line ≡ None = ap (told_of (codes "chosen") (codes "count")) same ∙ none_is_no_entry in
          let both : an_entry entry ≡ None = sym read ∙ none in
          absurd cc
      | inr n ↦ rw n (ap (option_map an_entry) read)
    ]

pick : {X : Type 0} (b : Bool) (x y z : X) → cond b x y ≡ z → ((b ≡ true) × (x ≡ z)) ⊎ ((b ≡ false) × (y ≡ z))
pick true x y z e = inl (refl, e)
pick false x y z e = inr (refl, e)

chosen_only : (line : List ℕ) (chosen : Option (ℕ × ℕ)) → chosen_of line ≡ Some chosen → IsChosenTold chosen × (line ≡ spaced (chosen_words chosen))
unfolding chosen_of
chosen_only line chosen e = elim (pick (bytes_eq line none_line) (Some None) (option_map an_entry (told_of (codes "chosen") (codes "count") line)) (Some chosen) e) [
  | inl p ↦
      let none : None ≡ chosen = some_is None chosen p.1 in
      let same = (bytes_eq-Decides line none_line).0 p.0 in
      (subst IsChosenTold none tt, same ∙ ap (λ (c : Option (ℕ × ℕ)). spaced (chosen_words c)) none)
  | inr q ↦
      let m = map_some (told_of (codes "chosen") (codes "count") line) an_entry chosen q.1 in
      let r = entry_reads.only line m.0 m.1 in
      (subst IsChosenTold m.2 r.0, r.1 ∙ ap (λ (c : Option (ℕ × ℕ)). spaced (chosen_words c)) m.2)
]

pub chosen_reads : ReadsLine (λ c. spaced (chosen_words c)) IsChosenTold chosen_of
chosen_reads = record { back = chosen_back; only = chosen_only }

pub chosen_plain : (chosen : Option (ℕ × ℕ)) → IsChosenTold chosen → IsPlain (spaced (chosen_words chosen))
chosen_plain None f = plain_spaced (codes "chosen" ∷ codes "none" ∷ []) (refl, (refl, tt))
chosen_plain (Some entry) f = told_plain (codes "chosen") (codes "count") entry refl refl f

-- ---- a rival

rival_reads : ReadsLine rival_line IsTold (told_of (codes "rival") (codes "bound"))
rival_reads = told_reads (codes "rival") (codes "bound") refl refl

pub rival_plain : (rival : ℕ × ℕ) → IsTold rival → IsPlain (rival_line rival)
rival_plain rival f = told_plain (codes "rival") (codes "bound") rival refl refl f

pub rival_back : (low : ℕ) (rival : ℕ × ℕ) → IsTold rival → low < rival.0 → rival_of low (rival_line rival) ≡ Some rival
unfolding rival_of
rival_back low rival f lt = rw (rival_reads.back rival f) (rw (lt-ltb low rival.0 lt) refl)

-- the line of a rival whose number is above this one
pub record IsRivalAbove (low : ℕ) (line : List ℕ) (rival : ℕ × ℕ) : Type 0 where
  pub told : IsTold rival
  pub above : low < rival.0
  pub line_is : line ≡ rival_line rival

pub rival_only : (low : ℕ) (line : List ℕ) (rival : ℕ × ℕ) → rival_of low line ≡ Some rival → IsRivalAbove low line rival
unfolding rival_of
rival_only low line rival e =
    let b = bind_some (told_of (codes "rival") (codes "bound") line) (numbered_above low) rival e in
    let g = guard_some (ltb low b.0.0) b.0 rival b.2 in
    let r = rival_reads.only line b.0 b.1 in
    record {
      told = subst IsTold g.1 r.0;
      above = subst (λ (x : ℕ × ℕ). low < x.0) g.1 (ltb-true low b.0.0 g.0);
      line_is = r.1 ∙ ap rival_line g.1;
    }
