-- A tail is read line by line: the longest in front.
use Rattle.std.proofs.Common.{◌≡◌, ℕ, suc, List, [], ◌∷◌, ◌++◌, length, map, Option, Some, None, Result, Ok, Err, refl, sym, ap, subst, ◌∙◌, inl, inr}
use Rattle.std.specs.List.{AllByRecursion}
use Rattle.std.proofs.lemmas.List.{append-nil, map-append}
use Rattle.texts.specs.Lines.{spaced}
use Rattle.texts.proofs.LineEnds.{IsPlain}
use Rattle.texts.proofs.Readers.{ok_is}
use Rattle.pallet_choice.specs.Text.{TailValue, chosen_words, rival_line, tail_lines}
use Rattle.pallet_choice.specs.Ranges.{IsTail}
use Rattle.pallet_choice.specs.Words.{chosen_of}
use Rattle.pallet_choice.specs.Lines.{rivals_from, tail_made, tail_at}
use Rattle.pallet_choice.specs.Tails.{with_rivals}
use Rattle.pallet_choice.proofs.EntryLines.{chosen_reads, chosen_plain}
use Rattle.pallet_choice.proofs.RivalLines.{last_of, NoneFollows, either, rivals_take, rivals_again, rivals_stop, rivals_plain}

abbrev pub last_number : TailValue → ℕ
last_number t = last_of 0 t.rivals

abbrev pub tail_with : Option (ℕ × ℕ) → List (ℕ × ℕ) → TailValue
tail_with chosen rivals = record { chosen = chosen; rivals = rivals }

pub tail_plain : (t : TailValue) → IsTail t → AllByRecursion IsPlain (tail_lines t)
unfolding tail_lines
tail_plain t f = (chosen_plain t.chosen f.chosen, rivals_plain t.rivals f.rivals)

pub longer_lines : (t : TailValue) (more : List (ℕ × ℕ)) → tail_lines (with_rivals t more) ≡ tail_lines t ++ map rival_line more
unfolding tail_lines
longer_lines t more = ap (λ (ls : List (List ℕ)). spaced (chosen_words t.chosen) ∷ ls) (map-append rival_line t.rivals more)

-- what is read where a tail stands in front
pub tail_more : (t : TailValue) (rest : List (List ℕ)) → IsTail t
    → tail_at (tail_lines t ++ rest) ≡ Ok (with_rivals t (rivals_from (last_number t) rest).0, (rivals_from (last_number t) rest).1)
unfolding tail_at tail_lines
tail_more t rest f = rw (chosen_reads.back t.chosen f.chosen) (ap (λ (x : List (ℕ × ℕ) × List (List ℕ)). Ok (tail_made t.chosen x)) (rivals_again 0 t.rivals rest f.rivals f.rise))

pub tail_again : (t : TailValue) (rest : List (List ℕ)) → IsTail t → NoneFollows (last_number t) rest → tail_at (tail_lines t ++ rest) ≡ Ok (t, rest)
tail_again t rest f none =
    let stop = rivals_stop (last_number t) rest none in
    tail_more t rest f ∙ ap (λ (x : List (ℕ × ℕ) × List (List ℕ)). Ok (with_rivals t x.0, x.1)) stop ∙ ap (λ (rs : List (ℕ × ℕ)). Ok (tail_with t.chosen rs, rest)) (append-nil t.rivals)

-- a tail in front of lines that do not go on
pub record TakesTail (ls : List (List ℕ)) (t : TailValue) (rest : List (List ℕ)) : Type 0 where
  pub fits : IsTail t
  pub parts : ls ≡ tail_lines t ++ rest
  pub no_more : NoneFollows (last_number t) rest

made_takes : (l : List ℕ) (ls : List (List ℕ)) (chosen : Option (ℕ × ℕ)) → chosen_of l ≡ Some chosen → TakesTail (l ∷ ls) (tail_made chosen (rivals_from 0 ls)).0 (tail_made chosen (rivals_from 0 ls)).1
unfolding tail_lines
made_takes l ls chosen e =
    let o = chosen_reads.only l chosen e in
    let t = rivals_take 0 ls in
    record {
      fits = record { chosen = o.0; rivals = t.told; rise = t.rise };
      parts = ap (λ (x : List ℕ). x ∷ ls) o.1 ∙ ap (λ (x : List (List ℕ)). spaced (chosen_words chosen) ∷ x) t.parts;
      no_more = t.no_more;
    }

-- reading where the first line is that of a chosen entry, and where it is not
pub tail_begins : (l : List ℕ) (ls : List (List ℕ)) (chosen : Option (ℕ × ℕ)) → chosen_of l ≡ Some chosen → tail_at (l ∷ ls) ≡ Ok (tail_made chosen (rivals_from 0 ls))
unfolding tail_at
tail_begins l ls chosen e = rw e refl

pub tail_fails : (l : List ℕ) (ls : List (List ℕ)) → chosen_of l ≡ None → tail_at (l ∷ ls) ≡ Err (suc (length ls))
unfolding tail_at
tail_fails l ls e = rw e refl

pub tail_ends : tail_at [] ≡ Err 0
unfolding tail_at
tail_ends = refl

abbrev read_ok : TailValue × List (List ℕ) → Result (TailValue × List (List ℕ)) ℕ
read_ok x = Ok x

abbrev read_err : ℕ → Result (TailValue × List (List ℕ)) ℕ
read_err n = Err n

pub tail_takes : (ls : List (List ℕ)) (t : TailValue) (rest : List (List ℕ)) → tail_at ls ≡ Ok (t, rest) → TakesTail ls t rest
tail_takes [] t rest e = let no : read_err 0 ≡ read_ok (t, rest) = sym tail_ends ∙ e in absurd cc
tail_takes (l ∷ ls) t rest e = elim (either (chosen_of l)) [
  | inl none ↦ let no : read_err (suc (length ls)) ≡ read_ok (t, rest) = sym (tail_fails l ls none) ∙ e in absurd cc
  | inr some ↦
      let same = ok_is (tail_made some.0 (rivals_from 0 ls)) (t, rest) (sym (tail_begins l ls some.0 some.1) ∙ e) in
      subst (λ (x : TailValue × List (List ℕ)). TakesTail (l ∷ ls) x.0 x.1) same (made_takes l ls some.0 some.1)
]
