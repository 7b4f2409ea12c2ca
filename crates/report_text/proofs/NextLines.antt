-- The lines between the entries of a report are read exactly.
use Rattle.std.proofs.Common.{◌≡◌, ℕ, ◌≤◌, ◌+◌, List, [], ◌∷◌, Some, None, refl, sym, ap, ◌∙◌, arith, cond, inl, inr}
use Rattle.std.specs.Prelude.{decimal, codes}
use Rattle.std.specs.Str.{bytes_eq}
use Rattle.std.specs.List.{AllByRecursion}
use Rattle.std.proofs.lemmas.Slice.Eq.{bytes_eq-Decides}
use Rattle.texts.specs.Lines.{spaced, words_of}
use Rattle.texts.specs.Words.{◌>>=◌, word_by, this_number}
use Rattle.texts.proofs.Parsers.{Parses, parses_word, parses_behind, parses_none, parses_then, parses_as, parses_this, guard_some, some_is, IsWord, few_wide, words_spaced, ReadsLine, reads_line}
use Rattle.cert_text.proofs.OneWord.{Any, pick}
use Rattle.cert_text.specs.declared.forms.Form.{Form}
use Rattle.cert_text.specs.declared.forms.Form.TheVariants.{One, Two}
use Rattle.report_text.specs.Reports.{head_line}
use Rattle.report_text.specs.NextWords.{done_at, done_of, next_kind_of, next_number, next_at, next_of}
use Rattle.report_text.specs.ReportLines.{form_of}
use Rattle.report_text.specs.declared.nexts.Next.{Next}
use Rattle.report_text.specs.declared.nexts.Next.TheVariants.{Done, More}

-- ---- the number of entries

abbrev pub done_words : ℕ → List (List ℕ)
done_words n = codes "done" ∷ decimal n ∷ []

done_parses : (before : ℕ) → before ≤ 9999999999 → Parses done_words (λ n. n ≡ before) (done_at before)
unfolding done_at
done_parses before le = parses_behind (codes "done") (λ n. decimal n ∷ []) (λ n. n ≡ before) (word_by (this_number before)) (parses_this before le)

pub done_solid : (n : ℕ) → n ≤ 9999999999 → AllByRecursion IsWord (done_words n)
done_solid n le = (refl, (few_wide n le, tt))

pub done_reads : (before : ℕ) → before ≤ 9999999999 → ReadsLine (λ n. spaced (done_words n)) (λ n. n ≡ before) (done_of before)
unfolding done_of
done_reads before le = reads_line done_words (λ n. n ≡ before) (done_at before) (done_parses before le) (λ n f. words_spaced (codes "done") (decimal n ∷ []) (done_solid n (let e = f in omega arith)))

-- ---- the next entry, or the end

kind_text : Next → List ℕ
kind_text Done = codes "done"
kind_text More = codes "entry"

kind_parses : Parses (λ k. kind_text k ∷ []) Any (word_by next_kind_of)
unfolding kind_text
kind_parses = parses_word next_kind_of kind_text Any back only
  where
    back : (k : Next) → Any k → next_kind_of (kind_text k) ≡ Some k
    back Done h = refl
    back More h = refl

    only : (w : List ℕ) (k : Next) → next_kind_of w ≡ Some k → Any k × (w ≡ kind_text k)
    only w k e =
        elim (pick (bytes_eq w (codes "done")) (Some Done) (cond (bytes_eq w (codes "entry")) (Some More) None) (Some k) e) [
          | inl p ↦ (tt, (bytes_eq-Decides w (codes "done")).0 p.0 ∙ ap kind_text (some_is Done k p.1))
          | inr q ↦ let g = guard_some (bytes_eq w (codes "entry")) More k q.1 in (tt, (bytes_eq-Decides w (codes "entry")).0 g.0 ∙ ap kind_text g.1)
        ]

abbrev pub next_words : ℕ → Next → List (List ℕ)
next_words before Done = codes "done" ∷ decimal before ∷ []
next_words before More = codes "entry" ∷ decimal (before + 1) ∷ []

few_next : (before : ℕ) (k : Next) → before + 1 ≤ 9999999999 → next_number before k ≤ 9999999999
few_next before Done le = omega arith
few_next before More le = le

number_parses : (before : ℕ) (k : Next) → before + 1 ≤ 9999999999 → Parses (λ j. decimal (next_number before j) ∷ []) (λ j. Any j × (j ≡ k)) (λ ws. word_by (this_number (next_number before k)) ws >>= λ m. Some (k, m.1))
number_parses before k le =
    parses_as (λ j. decimal (next_number before j) ∷ []) (λ j. decimal (next_number before j) ∷ []) (λ j. Any j × (j ≡ k)) (λ j. Any j × (j ≡ k))
    (λ ws. word_by (this_number (next_number before k)) ws >>= λ m. Some (k, m.1)) (λ ws. word_by (this_number (next_number before k)) ws >>= λ m. Some (k, m.1))
    (parses_then (λ n. decimal n ∷ []) (λ n. n ≡ next_number before k) (word_by (this_number (next_number before k))) (next_number before) (λ j. []) (λ j. Any j × (j ≡ k)) (λ m ws. Some (k, ws))
    (parses_this (next_number before k) (few_next before k le))
    (λ m hm. parses_none (λ j. (Any j × (j ≡ k)) × (next_number before j ≡ m)) k ((tt, refl), sym hm) (λ j f. f.0.1))
    (λ j f. ap (next_number before) f.1))
    (λ j f. f) (λ j f. f) (λ j f. refl) (λ ws. refl)

next_parses : (before : ℕ) → before + 1 ≤ 9999999999 → Parses (next_words before) Any (next_at before)
unfolding next_at kind_text
next_parses before le =
    parses_as (λ k. kind_text k ∷ decimal (next_number before k) ∷ []) (next_words before) Any Any
    (λ ws. word_by next_kind_of ws >>= λ k. word_by (this_number (next_number before k.0)) k.1 >>= λ m. Some (k.0, m.1)) (next_at before)
    (parses_then (λ k. kind_text k ∷ []) Any (word_by next_kind_of) (λ k. k) (λ k. decimal (next_number before k) ∷ []) Any
    (λ k ws. word_by (this_number (next_number before k)) ws >>= λ m. Some (k, m.1))
    kind_parses (λ k h. number_parses before k le) (λ k f. tt))
    (λ k f. f) (λ k f. f) texts (λ ws. refl)
  where
    texts : (k : Next) → Any k → next_words before k ≡ kind_text k ∷ decimal (next_number before k) ∷ []
    texts Done f = refl
    texts More f = refl

next_back : (before : ℕ) (k : Next) → before + 1 ≤ 9999999999 → words_of (spaced (next_words before k)) ≡ next_words before k
next_back before Done le = words_spaced (codes "done") (decimal before ∷ []) (refl, (few_wide before (omega arith), tt))
next_back before More le = words_spaced (codes "entry") (decimal (before + 1) ∷ []) (refl, (few_wide (before + 1) le, tt))

pub next_reads : (before : ℕ) → before + 1 ≤ 9999999999 → ReadsLine (λ k. spaced (next_words before k)) Any (next_of before)
unfolding next_of
next_reads before le = reads_line (next_words before) Any (next_at before) (next_parses before le) (λ k f. next_back before k le)

-- ---- the form

pub form_reads : ReadsLine head_line Any form_of
form_reads = record { back = back; only = only }
  where
    back : (f : Form) → Any f → form_of (head_line f) ≡ Some f
    back One h = refl
    back Two h = refl

    only : (line : List ℕ) (f : Form) → form_of line ≡ Some f → Any f × (line ≡ head_line f)
    only line f e =
        elim (pick (bytes_eq line (codes "pallet-report 1")) (Some One) (cond (bytes_eq line (codes "pallet-report 2")) (Some Two) None) (Some f) e) [
          | inl p ↦ (tt, (bytes_eq-Decides line (codes "pallet-report 1")).0 p.0 ∙ ap head_line (some_is One f p.1))
          | inr q ↦ let g = guard_some (bytes_eq line (codes "pallet-report 2")) Two f q.1 in (tt, (bytes_eq-Decides line (codes "pallet-report 2")).0 g.0 ∙ ap head_line g.1)
        ]
