-- A tail and what ends it are read exactly, line by line.
use Rattle.std.proofs.Common.{◌≡◌, ◌≢◌, ℕ, suc, List, [], ◌∷◌, ◌++◌, length, Option, Some, None, Result, Ok, Err, refl, sym, ap, subst, ◌∙◌, append_assoc, inl, inr}
use Rattle.std.proofs.lemmas.List.{append-nil}
use Rattle.texts.specs.Grammar.{Begins, NoneGoesOn, StopsAt, Reads, Reading, ◌>>=◌}
use Rattle.texts.specs.Lines.{spaced}
use Rattle.texts.proofs.Readers.{bind_ok, bind_err, ok_is, not_both}
use Rattle.pallet_choice.specs.Text.{TailValue, chosen_words, rival_line, tail_lines}
use Rattle.pallet_choice.specs.Ranges.{IsTail}
use Rattle.pallet_choice.specs.Words.{chosen_of, rival_of}
use Rattle.pallet_choice.specs.Lines.{rivals_from, tail_made, tail_at, ended_tail_at}
use Rattle.pallet_choice.specs.Laws.{StartsWithNoRival}
use Rattle.pallet_choice.proofs.EntryLines.{chosen_reads, rival_only}
use Rattle.pallet_choice.proofs.RivalLines.{NoneFollows, either}
use Rattle.pallet_choice.proofs.TailLines.{last_number, tail_again, TakesTail, tail_takes, tail_begins, tail_fails, tail_ends}

no_rival_follows : (low : ℕ) (l : List ℕ) → ((rival : ℕ × ℕ) → l ≢ rival_line rival) → rival_of low l ≡ None
no_rival_follows low l differs = elim (either (rival_of low l)) [
  | inl none ↦ none
  | inr some ↦ absurd (differs some.0 (rival_only low l some.0 some.1).line_is)
]

-- the tail with no rivals and no chosen entry
abbrev none_chosen : TailValue
none_chosen = record { chosen = None; rivals = [] }

none_fits : IsTail none_chosen
none_fits = record { chosen = tt; rivals = tt; rise = tt }

abbrev read_err : ℕ → Result (TailValue × List (List ℕ)) ℕ
read_err n = Err n

err_is : (m n : ℕ) → read_err m ≡ read_err n → m ≡ n
err_is m n e = cc

no_chosen : (o : Option (Option (ℕ × ℕ))) (chosen : Option (ℕ × ℕ)) → o ≡ None → o ≡ Some chosen → ⊥
no_chosen o chosen e f = cc

-- the first line is the same, whatever stands behind the next one
same_head : (low : ℕ) (front : List (List ℕ)) (l : List ℕ) (rest more : List (List ℕ)) → NoneFollows low (front ++ l ∷ rest) → NoneFollows low ((front ++ l ∷ []) ++ more)
same_head low [] l rest more h = h
same_head low (k ∷ front) l rest more h = h

module _ {A : Type 0} (lines : A → List (List ℕ)) (Fits : A → Type 0) (read : List (List ℕ) → Reading (List ℕ) A)
    (P : Reads lines Fits read) (starts : (a : A) → Fits a → StartsWithNoRival (lines a)) where
  abbrev pub both_lines : TailValue × A → List (List ℕ)
  both_lines x = tail_lines x.0 ++ lines x.1

  abbrev pub BothFit : TailValue × A → Type 0
  BothFit x = IsTail x.0 × Fits x.1

  -- no rival's line is the first of an end
  read_end : (low : ℕ) (a : A) (rest : List (List ℕ)) → Fits a → NoneFollows low (lines a ++ rest)
  read_end low a rest f = start (lines a) (starts a f)
    where
      start : (ls : List (List ℕ)) → StartsWithNoRival ls → NoneFollows low (ls ++ rest)
      start [] s = absurd s
      start (l ∷ ls) s = no_rival_follows low l s

  both_again : (x : TailValue × A) (rest : List (List ℕ)) → BothFit x → ended_tail_at read (both_lines x ++ rest) ≡ Ok (x, rest)
  both_again x rest f =
      let one : tail_at ((tail_lines x.0 ++ lines x.1) ++ rest) ≡ Ok (x.0, lines x.1 ++ rest) = ap tail_at (append_assoc (tail_lines x.0) (lines x.1) rest) ∙ tail_again x.0 (lines x.1 ++ rest) f.0 (read_end (last_number x.0) x.1 rest f.1) in
      rw (one, P.again x.1 rest f.1) refl

  both_takes : (ls : List (List ℕ)) (x : TailValue × A) (rest : List (List ℕ)) → ended_tail_at read ls ≡ Ok (x, rest) → BothFit x × (ls ≡ both_lines x ++ rest)
  both_takes ls x rest e =
      let s = bind_ok (tail_at ls) (λ t. read t.1 >>= λ a. Ok ((t.0, a.0), a.1)) (x, rest) e in
      let r = bind_ok (read s.0.1) (λ a. Ok ((s.0.0, a.0), a.1)) (x, rest) s.2 in
      let same = ok_is ((s.0.0, r.0.0), r.0.1) (x, rest) r.2 in
      let k = tail_takes ls s.0.0 s.0.1 s.1 in
      let p = P.takes s.0.1 r.0.0 r.0.1 r.1 in
      let made : BothFit (s.0.0, r.0.0) × (ls ≡ both_lines (s.0.0, r.0.0) ++ r.0.1) = ((k.fits, p.0), k.parts ∙ ap (λ (t : List (List ℕ)). tail_lines s.0.0 ++ t) p.1 ∙ sym (append_assoc (tail_lines s.0.0) (lines r.0.0) r.0.1)) in
      subst (λ (y : (TailValue × A) × List (List ℕ)). BothFit y.0 × (ls ≡ both_lines y.0 ++ y.1)) same made

  -- ---- a fault in the line of the chosen entry

  -- nothing is in front of the fault
  at_once : (ls : List (List ℕ)) (left : ℕ) → left ≡ length ls → NoneGoesOn both_lines BothFit [] ls → StopsAt both_lines BothFit ls left
  at_once ls left e none = record {
    front = [];
    rest = ls;
    left_is = e;
    stops = record {
      parts = refl;
      begun = record { value = (none_chosen, P.some); fits = (none_fits, P.some_fits); more = both_lines (none_chosen, P.some); whole = refl };
      ends = none;
    };
  }

  chosen_ends : (l : List ℕ) (ls : List (List ℕ)) → chosen_of l ≡ None → NoneGoesOn both_lines BothFit [] (l ∷ ls)
  unfolding tail_lines
  chosen_ends l ls none = λ h.
      let w = h.whole in
      let first : spaced (chosen_words h.value.0.chosen) ≡ l = cc in
      let back = chosen_reads.back h.value.0.chosen h.fits.0.chosen in
      let e : chosen_of l ≡ Some h.value.0.chosen = ap chosen_of (sym first) ∙ back in
      no_chosen (chosen_of l) h.value.0.chosen none e

  -- ---- a fault in the lines behind the tail

  begun_behind : (t : TailValue) (front : List (List ℕ)) → IsTail t → Begins lines Fits front → Begins both_lines BothFit (tail_lines t ++ front)
  begun_behind t front f b = record {
    value = (t, b.value);
    fits = (f, b.fits);
    more = b.more;
    whole = ap (λ (x : List (List ℕ)). tail_lines t ++ x) b.whole ∙ sym (append_assoc (tail_lines t) front b.more);
  }

  -- a text that goes on behind the tail has that tail
  same_tail : (t : TailValue) (front : List (List ℕ)) → IsTail t → ((more : List (List ℕ)) → NoneFollows (last_number t) (front ++ more)) → Begins both_lines BothFit (tail_lines t ++ front) → Begins lines Fits front
  same_tail t front f none b =
      let here : tail_at (both_lines b.value) ≡ Ok (b.value.0, lines b.value.1) = tail_again b.value.0 (lines b.value.1) b.fits.0 (subst (NoneFollows (last_number b.value.0)) (append-nil (lines b.value.1)) (read_end (last_number b.value.0) b.value.1 [] b.fits.1)) in
      let there : tail_at ((tail_lines t ++ front) ++ b.more) ≡ Ok (t, front ++ b.more) = ap tail_at (append_assoc (tail_lines t) front b.more) ∙ tail_again t (front ++ b.more) f (none b.more) in
      let pair = ok_is (b.value.0, lines b.value.1) (t, front ++ b.more) (sym here ∙ ap tail_at b.whole ∙ there) in
      record {
        value = b.value.1;
        fits = b.fits.1;
        more = b.more;
        whole = ap (λ (p : TailValue × List (List ℕ)). p.1) pair;
      }

  ends_behind : (t : TailValue) (front rest : List (List ℕ)) → IsTail t → NoneFollows (last_number t) (front ++ rest) → NoneGoesOn lines Fits front rest → NoneGoesOn both_lines BothFit (tail_lines t ++ front) rest
  ends_behind t front [] f none stops = tt
  ends_behind t front (l ∷ rest) f none stops = λ h.
      stops (same_tail t (front ++ l ∷ []) f (λ more. same_head (last_number t) front l rest more none) (subst (Begins both_lines BothFit) (append_assoc (tail_lines t) front (l ∷ [])) h))

  stops_behind : (ls : List (List ℕ)) (t : TailValue) (rest : List (List ℕ)) (left : ℕ) → TakesTail ls t rest → StopsAt lines Fits rest left → StopsAt both_lines BothFit ls left
  stops_behind ls t rest left k s = record {
    front = tail_lines t ++ s.front;
    rest = s.rest;
    left_is = s.left_is;
    stops = record {
      parts = k.parts ∙ ap (λ (x : List (List ℕ)). tail_lines t ++ x) s.stops.parts ∙ sym (append_assoc (tail_lines t) s.front s.rest);
      begun = begun_behind t s.front k.fits s.stops.begun;
      ends = ends_behind t s.front s.rest k.fits (subst (NoneFollows (last_number t)) s.stops.parts k.no_more) s.stops.ends;
    };
  }

  tail_stops : (ls : List (List ℕ)) (left : ℕ) → tail_at ls ≡ Err left → StopsAt both_lines BothFit ls left
  tail_stops [] left e = at_once [] left (err_is left 0 (sym e ∙ tail_ends)) tt
  tail_stops (l ∷ ls) left e = elim (either (chosen_of l)) [
    | inl none ↦ at_once (l ∷ ls) left (err_is left (suc (length ls)) (sym e ∙ tail_fails l ls none)) (chosen_ends l ls none)
    | inr some ↦ absurd (not_both (tail_at (l ∷ ls)) (tail_made some.0 (rivals_from 0 ls)) left (tail_begins l ls some.0 some.1) e)
  ]

  both_stops : (ls : List (List ℕ)) (left : ℕ) → ended_tail_at read ls ≡ Err left → StopsAt both_lines BothFit ls left
  both_stops ls left e = elim (bind_err (tail_at ls) (λ t. read t.1 >>= λ a. Ok ((t.0, a.0), a.1)) left e) [
    | inl one ↦ tail_stops ls left one
    | inr two ↦ elim (bind_err (read two.0.1) (λ a. Ok ((two.0.0, a.0), a.1)) left two.2) [
      | inl fault ↦ stops_behind ls two.0.0 two.0.1 left (tail_takes ls two.0.0 two.0.1 two.1) (P.stops two.0.1 left fault)
      | inr none ↦ let e = none.2 in absurd cc
    ]
  ]

  pub ended_tails_read : Reads both_lines BothFit (ended_tail_at read)
  ended_tails_read = record { some = (none_chosen, P.some); some_fits = (none_fits, P.some_fits); again = both_again; takes = both_takes; stops = both_stops }
