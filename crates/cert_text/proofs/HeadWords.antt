-- The first line of a certificate is read exactly.
use Rattle.std.proofs.Common.{◌≡◌, ℕ, ◌≤◌, List, [], ◌∷◌, Some, refl, ap, arith, true, leb}
use Rattle.std.specs.Prelude.{decimal, codes}
use Rattle.std.specs.List.{AllByRecursion}
use Rattle.std.proofs.lemmas.Bool.{leb-true, le-leb}
use Rattle.texts.specs.Lines.{spaced, words_of}
use Rattle.texts.specs.Words.{◌>>=◌, word_by, behind, number_up_to}
use Rattle.texts.proofs.Parsers.{Parses, parses_word, parses_behind, parses_none, parses_then, parses_as, parses_checked, number_then, IsWord, few_wide, words_spaced, ReadsLine, reads_line}
use Rattle.cert_text.specs.Forms.{most_cuts}
use Rattle.cert_text.specs.Words.{checked, head_kind_of, head_of_kind, head_at, head_of}
use Rattle.cert_text.specs.declared.forms.Form.{Form}
use Rattle.cert_text.specs.declared.forms.Form.TheVariants.{One, Two}
use Rattle.cert_text.specs.declared.words.HeadKind.{HeadKind}
use Rattle.cert_text.specs.declared.words.HeadKind.TheVariants as head_kinds
use Rattle.cert_text.specs.declared.words.Head.{Head}
use Rattle.cert_text.specs.declared.words.Head.TheVariants as heads
use Rattle.cert_text.proofs.OneWord.{Any, three_is}

-- no form has many cuts
pub few_cuts : (form : Form) → most_cuts form ≤ 1002
few_cuts One = omega arith
few_cuts Two = omega arith

pub some_cuts : (form : Form) → 2 ≤ most_cuts form
some_cuts One = omega arith
some_cuts Two = omega arith

head_kind_text : HeadKind → List ℕ
head_kind_text head_kinds.Weighted = codes "weighted"
head_kind_text head_kinds.Strip = codes "strip"
head_kind_text head_kinds.GivenArea = codes "given-area"

head_kind_parses : Parses (λ k. head_kind_text k ∷ []) Any (word_by head_kind_of)
unfolding head_kind_text
head_kind_parses = parses_word head_kind_of head_kind_text Any back (λ w k e. (tt, three_is head_kind_text head_kinds.Weighted head_kinds.Strip head_kinds.GivenArea w k e))
  where
    back : (k : HeadKind) → Any k → head_kind_of (head_kind_text k) ≡ Some k
    back head_kinds.Weighted h = refl
    back head_kinds.Strip h = refl
    back head_kinds.GivenArea h = refl

abbrev head_kind_key : Head → HeadKind
head_kind_key heads.Weighted = head_kinds.Weighted
head_kind_key (heads.Strip k) = head_kinds.Strip
head_kind_key heads.GivenArea = head_kinds.GivenArea

abbrev head_args : Head → List (List ℕ)
head_args heads.Weighted = []
head_args (heads.Strip k) = decimal k ∷ []
head_args heads.GivenArea = []

abbrev head_count : Head → ℕ
head_count heads.Weighted = 2
head_count (heads.Strip k) = k
head_count heads.GivenArea = 2

-- how many cuts there may be
pub record GoodHead (form : Form) (h : Head) : Type 0 where
  pub low : 2 ≤ head_count h
  pub high : head_count h ≤ most_cuts form

abbrev pub head_words : Head → List (List ℕ)
head_words heads.Weighted = codes "cert" ∷ codes "weighted" ∷ []
head_words (heads.Strip k) = codes "cert" ∷ codes "strip" ∷ decimal k ∷ []
head_words heads.GivenArea = codes "cert" ∷ codes "given-area" ∷ []

abbrev IsHeadOf : Form → HeadKind → Head → Type 0
IsHeadOf form k h = GoodHead form h × (head_kind_key h ≡ k)

weighted_is : (form : Form) (h : Head) → IsHeadOf form head_kinds.Weighted h → h ≡ heads.Weighted
weighted_is form heads.Weighted f = refl
weighted_is form (heads.Strip k) f = let e = f.1 in absurd cc
weighted_is form heads.GivenArea f = let e = f.1 in absurd cc

given_is : (form : Form) (h : Head) → IsHeadOf form head_kinds.GivenArea h → h ≡ heads.GivenArea
given_is form heads.Weighted f = let e = f.1 in absurd cc
given_is form (heads.Strip k) f = let e = f.1 in absurd cc
given_is form heads.GivenArea f = refl

strip_is : (form : Form) (k : ℕ) (h : Head) → IsHeadOf form head_kinds.Strip h × (head_count h ≡ k) → (h ≡ heads.Strip k) × (leb 2 k ≡ true)
strip_is form k heads.Weighted f = let e = f.0.1 in absurd cc
strip_is form k (heads.Strip n) f = let low = f.0.0.low in (ap (λ (x : ℕ). heads.Strip x) f.1, let e = f.1 in le-leb 2 k (omega arith))
strip_is form k heads.GivenArea f = let e = f.0.1 in absurd cc

head_args_parse : (form : Form) (k : HeadKind) → Any k → Parses head_args (IsHeadOf form k) (head_of_kind form k)
unfolding head_of_kind
head_args_parse form head_kinds.Weighted a =
    parses_as (λ h. []) head_args (IsHeadOf form head_kinds.Weighted) (IsHeadOf form head_kinds.Weighted) (λ xs. Some (heads.Weighted, xs)) (head_of_kind form head_kinds.Weighted)
    (parses_none (IsHeadOf form head_kinds.Weighted) heads.Weighted (record { low = omega arith; high = some_cuts form }, refl) (weighted_is form)) (λ c f. f) (λ c f. f) (λ c f. ap head_args (weighted_is form c f)) (λ xs. refl)
head_args_parse form head_kinds.GivenArea a =
    parses_as (λ h. []) head_args (IsHeadOf form head_kinds.GivenArea) (IsHeadOf form head_kinds.GivenArea) (λ xs. Some (heads.GivenArea, xs)) (head_of_kind form head_kinds.GivenArea)
    (parses_none (IsHeadOf form head_kinds.GivenArea) heads.GivenArea (record { low = omega arith; high = some_cuts form }, refl) (given_is form)) (λ c f. f) (λ c f. f) (λ c f. ap head_args (given_is form c f)) (λ xs. refl)
head_args_parse form head_kinds.Strip a =
    parses_as (λ h. decimal (head_count h) ∷ []) head_args (IsHeadOf form head_kinds.Strip) (IsHeadOf form head_kinds.Strip) (λ xs. word_by (number_up_to (most_cuts form)) xs >>= λ k. checked (heads.Strip k.0) (leb 2 k.0) k.1) (head_of_kind form head_kinds.Strip)
    (number_then (most_cuts form) (omega (arith, few_cuts form)) head_count (λ h. []) (IsHeadOf form head_kinds.Strip) (λ k xs. checked (heads.Strip k) (leb 2 k) xs)
    (λ k hk. parses_checked (λ h. IsHeadOf form head_kinds.Strip h × (head_count h ≡ k)) (heads.Strip k) (leb 2 k) (strip_is form k) (λ ok. ((record { low = leb-true 2 k ok; high = hk }, refl), refl)))
    (λ h f. f.0.high))
    (λ c f. f) (λ c f. f) texts (λ xs. refl)
  where
    texts : (h : Head) → IsHeadOf form head_kinds.Strip h → head_args h ≡ decimal (head_count h) ∷ []
    texts heads.Weighted f = let e = f.1 in absurd cc
    texts (heads.Strip k) f = refl
    texts heads.GivenArea f = let e = f.1 in absurd cc

head_parses : (form : Form) → Parses head_words (GoodHead form) (head_at form)
unfolding head_at head_kind_text
head_parses form =
    parses_as (λ h. codes "cert" ∷ head_kind_text (head_kind_key h) ∷ head_args h) head_words (GoodHead form) (GoodHead form)
    (λ ws. behind (codes "cert") ws >>= λ rest. word_by head_kind_of rest >>= λ kind. head_of_kind form kind.0 kind.1) (head_at form)
    (parses_behind (codes "cert") (λ h. head_kind_text (head_kind_key h) ∷ head_args h) (GoodHead form) (λ rest. word_by head_kind_of rest >>= λ kind. head_of_kind form kind.0 kind.1)
    (parses_then (λ k. head_kind_text k ∷ []) Any (word_by head_kind_of) head_kind_key head_args (GoodHead form) (head_of_kind form) head_kind_parses (head_args_parse form) (λ w f. tt)))
    (λ w f. f) (λ w f. f) texts (λ xs. refl)
  where
    texts : (h : Head) → GoodHead form h → head_words h ≡ codes "cert" ∷ head_kind_text (head_kind_key h) ∷ head_args h
    texts heads.Weighted f = refl
    texts (heads.Strip k) f = refl
    texts heads.GivenArea f = refl

pub head_solid : (form : Form) (h : Head) → GoodHead form h → AllByRecursion IsWord (head_words h)
head_solid form heads.Weighted f = (refl, (refl, tt))
head_solid form (heads.Strip k) f =
    let high = f.high in
    (refl, (refl, (few_wide k (omega (arith, few_cuts form)), tt)))
head_solid form heads.GivenArea f = (refl, (refl, tt))

head_back : (form : Form) (h : Head) → GoodHead form h → words_of (spaced (head_words h)) ≡ head_words h
head_back form heads.Weighted f = refl
head_back form (heads.Strip k) f = words_spaced (codes "cert") (codes "strip" ∷ decimal k ∷ []) (head_solid form (heads.Strip k) f)
head_back form heads.GivenArea f = refl

pub head_reads : (form : Form) → ReadsLine (λ h. spaced (head_words h)) (GoodHead form) (head_of form)
unfolding head_of
head_reads form = reads_line head_words (GoodHead form) (head_at form) (head_parses form) (head_back form)
