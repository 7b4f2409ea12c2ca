-- The entries that are taken from a text by their number.
use Rattle.std.proofs.Common.{◌≡◌, ℕ, zero, suc, ◌-◌, ◌+◌, ◌<◌, List, [], ◌∷◌, length, Ok, Err, refl, sym, ap, subst, ◌∙◌, arith, inl, inr}
use Rattle.std.proofs.lemmas.Bool.{cases_Bool}
use Rattle.texts.specs.Grammar.{Reading, ◌>>=◌}
use Rattle.texts.specs.Lines.{whole_lines}
use Rattle.texts.specs.Gives.{Fails}
use Rattle.texts.specs.declared.stops.Stop.{Stop}
use Rattle.texts.specs.declared.stops.Stop.TheVariants as stops
use Rattle.texts.proofs.Readers.{bind_ok, ok_is, not_both}
use Rattle.cert_text.specs.declared.forms.Form.TheVariants.{Two}
use Rattle.plan_entries.specs.declared.entries.Entry.{Entry}
use Rattle.report_text.specs.Cursors.{entries_of}
use Rattle.report_text.specs.Lines.{entry_at}
use Rattle.report_text.specs.ReportLines.{counted}
use Rattle.choice_text.specs.Lines.{entry_follows, entry_and, entries_from, all_entries_at, entries_counted}
use Rattle.choice_text.specs.Cursors.{entries_taken, entries_in, AreInFront}

-- an entry that was read, and the others
record FirstRead (others : List (List ℕ) → Reading (List ℕ) (List Entry)) (ls : List (List ℕ)) (es : List Entry) (after : List (List ℕ)) : Type 0 where
  entry : Entry
  mid : List (List ℕ)
  more : List Entry
  first : entry_at Two ls ≡ Ok (entry, mid)
  rest : others mid ≡ Ok (more, after)
  all : es ≡ entry ∷ more

first_read : (others : List (List ℕ) → Reading (List ℕ) (List Entry)) (ls : List (List ℕ)) (es : List Entry) (after : List (List ℕ)) → entry_and others ls ≡ Ok (es, after) → FirstRead others ls es after
first_read others ls es after e =
    let s = bind_ok (entry_at Two ls) (λ x. others x.1 >>= λ xs. Ok (x.0 ∷ xs.0, xs.1)) (es, after) e in
    let r = bind_ok (others s.0.1) (λ xs. Ok (s.0.0 ∷ xs.0, xs.1)) (es, after) s.2 in
    let pair = ok_is (s.0.0 ∷ r.0.0, r.0.1) (es, after) r.2 in
    record {
      entry = s.0.0;
      mid = s.0.1;
      more = r.0.0;
      first = s.1;
      rest = r.1 ∙ ap (λ (p : List Entry × List (List ℕ)). Ok (r.0.0, p.1)) pair;
      all = ap (λ (p : List Entry × List (List ℕ)). p.0) (sym pair);
    }

-- what follows one after another is taken by its number

none_taken : (before : ℕ) (ls : List (List ℕ)) (es : List Entry) (after : List (List ℕ)) → entries_from 0 before ls ≡ Ok (es, after) → entries_taken (length es) ls ≡ Ok (es, after)
unfolding entries_from entries_taken
none_taken before ls es after e = subst (λ (p : List Entry × List (List ℕ)). entries_taken (length p.0) ls ≡ Ok p) (ok_is ([], ls) (es, after) e) refl

some_again : (left : ℕ) (ls mid : List (List ℕ)) (e : Entry) (es : List Entry) (after : List (List ℕ)) → entry_at Two ls ≡ Ok (e, mid) → entries_taken left mid ≡ Ok (es, after) → entries_taken (suc left) ls ≡ Ok (e ∷ es, after)
unfolding entries_taken
some_again left ls mid e es after first rest = rw (first, rest) refl

taken_again : (most before : ℕ) (ls : List (List ℕ)) (es : List Entry) (after : List (List ℕ)) → entries_from most before ls ≡ Ok (es, after) → entries_taken (length es) ls ≡ Ok (es, after)
unfolding entries_from entries_taken
taken_again zero before ls es after e = none_taken before ls es after e
taken_again (suc most) before ls es after e = elim (cases_Bool (entry_follows (before + 1) ls)) [
  | inl y ↦
      let f = first_read (entries_from most (before + 1)) ls es after (rw y at e) in
      let again = some_again (length f.more) ls f.mid f.entry f.more after f.first (taken_again most (before + 1) f.mid f.more after f.rest) in
      subst (λ (xs : List Entry). entries_taken (length xs) ls ≡ Ok (xs, after)) (sym f.all) again
  | inr n ↦ none_taken before ls es after (rw n at e)
]

taken_count : (left : ℕ) (ls : List (List ℕ)) (es : List Entry) (after : List (List ℕ)) → entries_taken left ls ≡ Ok (es, after) → length es ≡ left
unfolding entries_taken
taken_count zero ls es after e = ap (λ (p : List Entry × List (List ℕ)). length p.0) (sym (ok_is ([], ls) (es, after) e))
taken_count (suc left) ls es after e =
    let f = first_read (entries_taken left) ls es after e in
    ap length f.all ∙ ap suc (taken_count left f.mid f.more after f.rest)

-- ---- what is still to be read

pub record Ahead (left : ℕ) (bytes : List ℕ) (es : List Entry) : Type 0 where
  pub entries : entries_in left bytes ≡ es
  pub in_front : AreInFront left bytes

taken_ahead : (left : ℕ) (bytes : List ℕ) (es : List Entry) (after : List (List ℕ)) → entries_taken left (whole_lines bytes) ≡ Ok (es, after) → Ahead left bytes es
unfolding entries_in
taken_ahead left bytes es after e =
    let same : entries_in left bytes ≡ es = ap entries_of e in
    record { entries = same; in_front = record { after = after; read = e ∙ ap (λ (xs : List Entry). Ok (xs, after)) (sym same) } }

pub left_is : (left : ℕ) (bytes : List ℕ) → AreInFront left bytes → length (entries_in left bytes) ≡ left
left_is left bytes f = taken_count left (whole_lines bytes) (entries_in left bytes) f.after f.read

pub none_left : (bytes : List ℕ) → entries_in 0 bytes ≡ []
unfolding entries_in entries_taken
none_left bytes = refl

-- the first of the entries, and what is then ahead
pub record Next (left : ℕ) (bytes rest : List ℕ) (e : Entry) : Type 0 where
  pub entries : entries_in left bytes ≡ e ∷ entries_in (left - 1) rest
  pub in_front : AreInFront (left - 1) rest

some_taken : (left : ℕ) (bytes : List ℕ) → 0 < left → (f : AreInFront left bytes) → FirstRead (entries_taken (left - 1)) (whole_lines bytes) (entries_in left bytes) f.after
unfolding entries_taken
some_taken zero bytes pos f = absurd (omega arith)
some_taken (suc left) bytes pos f = let n : suc left - 1 ≡ left = omega arith in rw n (first_read (entries_taken left) (whole_lines bytes) (entries_in (suc left) bytes) f.after f.read)

pub next_ahead : (left : ℕ) (bytes rest : List ℕ) (e : Entry) → 0 < left → AreInFront left bytes → entry_at Two (whole_lines bytes) ≡ Ok (e, whole_lines rest) → Next left bytes rest e
next_ahead left bytes rest e pos f read =
    let t = some_taken left bytes pos f in
    let pair = ok_is (t.entry, t.mid) (e, whole_lines rest) (sym t.first ∙ read) in
    let others : entries_taken (left - 1) (whole_lines rest) ≡ Ok (t.more, f.after) = ap (λ (p : Entry × List (List ℕ)). entries_taken (left - 1) p.1) (sym pair) ∙ t.rest in
    let a = taken_ahead (left - 1) rest t.more f.after others in
    record {
      entries = t.all ∙ ap (λ (p : Entry × List (List ℕ)). p.0 ∷ t.more) pair ∙ ap (λ (es : List Entry). e ∷ es) (sym a.entries);
      in_front = a.in_front;
    }

pub no_next_fault : (left : ℕ) (bytes : List ℕ) (n : ℕ) → 0 < left → AreInFront left bytes → entry_at Two (whole_lines bytes) ≡ Err n → ⊥
no_next_fault left bytes n pos f read =
    let t = some_taken left bytes pos f in
    not_both (entry_at Two (whole_lines bytes)) (t.entry, t.mid) n t.first read

-- ---- what was counted

pub record AllAhead (left : ℕ) (bytes : List ℕ) (after : List (List ℕ)) : Type 0 where
  pub in_front : AreInFront left bytes
  pub read : all_entries_at (whole_lines bytes) ≡ Ok (entries_in left bytes, after)

pub all_ahead : (left : ℕ) (bytes : List ℕ) (after : List (List ℕ)) → entries_counted (whole_lines bytes) ≡ Ok (left, after) → AllAhead left bytes after
all_ahead left bytes after e =
    let s = bind_ok (all_entries_at (whole_lines bytes)) counted (left, after) e in
    let pair = ok_is (length s.0.0, s.0.1) (left, after) s.2 in
    let taken = taken_again 256 0 (whole_lines bytes) s.0.0 s.0.1 s.1 in
    let so_many : entries_taken left (whole_lines bytes) ≡ Ok (s.0.0, s.0.1) = ap (λ (p : ℕ × List (List ℕ)). entries_taken p.0 (whole_lines bytes)) (sym pair) ∙ taken in
    let a = taken_ahead left bytes s.0.0 s.0.1 so_many in
    record {
      in_front = a.in_front;
      read = s.1 ∙ ap (λ (es : List Entry). Ok (es, s.0.1)) (sym a.entries) ∙ ap (λ (p : ℕ × List (List ℕ)). Ok (entries_in left bytes, p.1)) pair;
    }

pub counted_fails : (s : Stop) (r : Reading (List ℕ) (List Entry)) → Fails s (r >>= counted) → Fails s r
counted_fails stops.Memory r f = tt
counted_fails (stops.Left n) (Ok x) f = absurd cc
counted_fails (stops.Left n) (Err m) f = let same : m ≡ n = cc in ap (λ (k : ℕ). Err k) same
