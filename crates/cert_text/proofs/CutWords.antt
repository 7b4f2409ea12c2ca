-- The line of a cut is read exactly.
use Rattle.std.proofs.Common.{◌≡◌, ℕ, ◌≤◌, List, [], ◌∷◌, Some, refl, sym, ap, arith, true, leb}
use Rattle.std.specs.Prelude.{decimal, codes, ◌&&◌}
use Rattle.std.specs.List.{AllByRecursion}
use Rattle.std.proofs.lemmas.Bool.{leb-true, le-leb}
use Rattle.texts.specs.Lines.{spaced}
use Rattle.texts.specs.Words.{◌>>=◌, word_by, behind, number_up_to, this_number}
use Rattle.texts.proofs.Parsers.{Parses, both_true, parses_word, parses_behind, parses_none, parses_then, parses_as, number_then, parses_this, IsWord, few_wide, words_spaced, ReadsLine, reads_line}
use Rattle.weightings.specs.declared.certs.StripCut.{StripCut}
use Rattle.weightings.specs.declared.certs.StripCut.TheVariants as cuts
use Rattle.cert_text.specs.Ranges.{is_cut}
use Rattle.cert_text.specs.Text.{cut_numbers, cut_words}
use Rattle.cert_text.specs.Words.{cut_kind_of, cut_of_kind, cut_at, cut_of}
use Rattle.cert_text.specs.declared.words.CutKind.{CutKind}
use Rattle.cert_text.specs.declared.words.CutKind.TheVariants as cut_kinds
use Rattle.cert_text.proofs.OneWord.{Any, three_is}

cut_kind_text : CutKind → List ℕ
cut_kind_text cut_kinds.Area = codes "area"
cut_kind_text cut_kinds.X = codes "x"
cut_kind_text cut_kinds.Y = codes "y"

cut_kind_parses : Parses (λ k. cut_kind_text k ∷ []) Any (word_by cut_kind_of)
unfolding cut_kind_text
cut_kind_parses = parses_word cut_kind_of cut_kind_text Any back (λ w k e. (tt, three_is cut_kind_text cut_kinds.Area cut_kinds.X cut_kinds.Y w k e))
  where
    back : (k : CutKind) → Any k → cut_kind_of (cut_kind_text k) ≡ Some k
    back cut_kinds.Area h = refl
    back cut_kinds.X h = refl
    back cut_kinds.Y h = refl

abbrev cut_key : StripCut → CutKind
cut_key cuts.Area = cut_kinds.Area
cut_key (cuts.X a b q) = cut_kinds.X
cut_key (cuts.Y a b q) = cut_kinds.Y

abbrev cut_args : StripCut → List (List ℕ)
cut_args cuts.Area = []
cut_args (cuts.X a b q) = decimal a ∷ decimal b ∷ decimal q ∷ []
cut_args (cuts.Y a b q) = decimal a ∷ decimal b ∷ decimal q ∷ []

abbrev cut_a : StripCut → ℕ
cut_a cuts.Area = 0
cut_a (cuts.X a b q) = a
cut_a (cuts.Y a b q) = a

abbrev cut_b : StripCut → ℕ
cut_b cuts.Area = 0
cut_b (cuts.X a b q) = b
cut_b (cuts.Y a b q) = b

abbrev cut_q : StripCut → ℕ
cut_q cuts.Area = 0
cut_q (cuts.X a b q) = q
cut_q (cuts.Y a b q) = q

abbrev IsCutOf : CutKind → StripCut → Type 0
IsCutOf k c = (is_cut c ≡ true) × (cut_key c ≡ k)

record SmallCut (a b q : ℕ) : Type 0 where
  pub a_le : a ≤ 4000
  pub b_le : b ≤ 4000
  pub q_le : q ≤ 9999999999

three_le : (a b q : ℕ) → (leb a 4000 && (leb b 4000 && leb q 9999999999)) ≡ true → SmallCut a b q
three_le a b q h =
    let p = both_true (leb a 4000) (leb b 4000 && leb q 9999999999) h in
    let r = both_true (leb b 4000) (leb q 9999999999) p.1 in
    record { a_le = leb-true a 4000 p.0; b_le = leb-true b 4000 r.0; q_le = leb-true q 9999999999 r.1 }

le_three : (a b q : ℕ) → a ≤ 4000 → b ≤ 4000 → q ≤ 9999999999 → (leb a 4000 && (leb b 4000 && leb q 9999999999)) ≡ true
le_three a b q x y z = rw (le-leb a 4000 x, le-leb b 4000 y, le-leb q 9999999999 z) refl

small_cut : (c : StripCut) → is_cut c ≡ true → SmallCut (cut_a c) (cut_b c) (cut_q c)
small_cut cuts.Area h = record { a_le = omega arith; b_le = omega arith; q_le = omega arith }
small_cut (cuts.X a b q) h = three_le a b q h
small_cut (cuts.Y a b q) h = three_le a b q h

cut_area_is : (c : StripCut) → IsCutOf cut_kinds.Area c → c ≡ cuts.Area
cut_area_is cuts.Area h = refl
cut_area_is (cuts.X a b q) h = let e = h.1 in absurd cc
cut_area_is (cuts.Y a b q) h = let e = h.1 in absurd cc

abbrev IsCutThus : CutKind → ℕ → ℕ → ℕ → StripCut → Type 0
IsCutThus k a b q c = ((IsCutOf k c × (cut_a c ≡ a)) × (cut_b c ≡ b)) × (cut_q c ≡ q)

cut_x_is : (a b q : ℕ) (c : StripCut) → IsCutThus cut_kinds.X a b q c → c ≡ cuts.X a b q
cut_x_is a b q cuts.Area h = let e = h.0.0.0.1 in absurd cc
cut_x_is a b q (cuts.X x y z) h = rw (← h.0.0.1, ← h.0.1, ← h.1) refl
cut_x_is a b q (cuts.Y x y z) h = let e = h.0.0.0.1 in absurd cc

cut_y_is : (a b q : ℕ) (c : StripCut) → IsCutThus cut_kinds.Y a b q c → c ≡ cuts.Y a b q
cut_y_is a b q cuts.Area h = let e = h.0.0.0.1 in absurd cc
cut_y_is a b q (cuts.X x y z) h = let e = h.0.0.0.1 in absurd cc
cut_y_is a b q (cuts.Y x y z) h = rw (← h.0.0.1, ← h.0.1, ← h.1) refl

-- three numbers, and the cut made of them
cut_numbers_parse : (k : CutKind) (make : ℕ → ℕ → ℕ → StripCut) → ((a b q : ℕ) → a ≤ 4000 → b ≤ 4000 → q ≤ 9999999999 → IsCutThus k a b q (make a b q)) → ((a b q : ℕ) (c : StripCut) → IsCutThus k a b q c → c ≡ make a b q)
    → Parses (λ c. decimal (cut_a c) ∷ decimal (cut_b c) ∷ decimal (cut_q c) ∷ []) (IsCutOf k) (λ xs. word_by (number_up_to 4000) xs >>= λ a. word_by (number_up_to 4000) a.1 >>= λ b. word_by (number_up_to 9999999999) b.1 >>= λ q. Some (make a.0 b.0 q.0, q.1))
cut_numbers_parse k make good one =
    number_then 4000 (omega arith) cut_a (λ c. decimal (cut_b c) ∷ decimal (cut_q c) ∷ []) (IsCutOf k) (λ a xs. word_by (number_up_to 4000) xs >>= λ b. word_by (number_up_to 9999999999) b.1 >>= λ q. Some (make a b.0 q.0, q.1))
    (λ a ha. number_then 4000 (omega arith) cut_b (λ c. decimal (cut_q c) ∷ []) (λ c. IsCutOf k c × (cut_a c ≡ a)) (λ b xs. word_by (number_up_to 9999999999) xs >>= λ q. Some (make a b q.0, q.1))
    (λ b hb. number_then 9999999999 (omega arith) cut_q (λ c. []) (λ c. (IsCutOf k c × (cut_a c ≡ a)) × (cut_b c ≡ b)) (λ q xs. Some (make a b q, xs))
    (λ q hq. parses_none (IsCutThus k a b q) (make a b q) (good a b q ha hb hq) (one a b q))
    (λ c f. (small_cut c f.0.0.0).q_le))
    (λ c f. (small_cut c f.0.0).b_le))
    (λ c f. (small_cut c f.0).a_le)

cut_args_parse : (k : CutKind) → Any k → Parses cut_args (IsCutOf k) (cut_of_kind k)
unfolding cut_of_kind
cut_args_parse cut_kinds.Area h =
    parses_as (λ c. []) cut_args (IsCutOf cut_kinds.Area) (IsCutOf cut_kinds.Area) (λ xs. Some (cuts.Area, xs)) (cut_of_kind cut_kinds.Area)
    (parses_none (IsCutOf cut_kinds.Area) cuts.Area (refl, refl) cut_area_is) (λ c f. f) (λ c f. f) (λ c f. ap cut_args (cut_area_is c f)) (λ xs. refl)
cut_args_parse cut_kinds.X h =
    parses_as (λ c. decimal (cut_a c) ∷ decimal (cut_b c) ∷ decimal (cut_q c) ∷ []) cut_args (IsCutOf cut_kinds.X) (IsCutOf cut_kinds.X)
    (λ xs. word_by (number_up_to 4000) xs >>= λ a. word_by (number_up_to 4000) a.1 >>= λ b. word_by (number_up_to 9999999999) b.1 >>= λ q. Some (cuts.X a.0 b.0 q.0, q.1)) (cut_of_kind cut_kinds.X)
    (cut_numbers_parse cut_kinds.X (λ a b q. cuts.X a b q) (λ a b q x y z. ((((le_three a b q x y z, refl), refl), refl), refl)) cut_x_is) (λ c f. f) (λ c f. f) texts (λ xs. refl)
  where
    texts : (c : StripCut) → IsCutOf cut_kinds.X c → cut_args c ≡ decimal (cut_a c) ∷ decimal (cut_b c) ∷ decimal (cut_q c) ∷ []
    texts cuts.Area f = let e = f.1 in absurd cc
    texts (cuts.X a b q) f = refl
    texts (cuts.Y a b q) f = refl
cut_args_parse cut_kinds.Y h =
    parses_as (λ c. decimal (cut_a c) ∷ decimal (cut_b c) ∷ decimal (cut_q c) ∷ []) cut_args (IsCutOf cut_kinds.Y) (IsCutOf cut_kinds.Y)
    (λ xs. word_by (number_up_to 4000) xs >>= λ a. word_by (number_up_to 4000) a.1 >>= λ b. word_by (number_up_to 9999999999) b.1 >>= λ q. Some (cuts.Y a.0 b.0 q.0, q.1)) (cut_of_kind cut_kinds.Y)
    (cut_numbers_parse cut_kinds.Y (λ a b q. cuts.Y a b q) (λ a b q x y z. ((((le_three a b q x y z, refl), refl), refl), refl)) cut_y_is) (λ c f. f) (λ c f. f) texts2 (λ xs. refl)
  where
    texts2 : (c : StripCut) → IsCutOf cut_kinds.Y c → cut_args c ≡ decimal (cut_a c) ∷ decimal (cut_b c) ∷ decimal (cut_q c) ∷ []
    texts2 cuts.Area f = let e = f.1 in absurd cc
    texts2 (cuts.X a b q) f = refl
    texts2 (cuts.Y a b q) f = refl

abbrev pub GoodCut : StripCut → Type 0
GoodCut c = is_cut c ≡ true

cut_parses : (h : ℕ) → h ≤ 9999999999 → Parses (cut_words h) GoodCut (cut_at h)
unfolding cut_at cut_kind_text
cut_parses h le =
    parses_as (λ c. codes "cut" ∷ decimal h ∷ cut_kind_text (cut_key c) ∷ cut_args c) (cut_words h) GoodCut GoodCut
    (λ ws. behind (codes "cut") ws >>= λ rest. word_by (this_number h) rest >>= λ place. word_by cut_kind_of place.1 >>= λ kind. cut_of_kind kind.0 kind.1) (cut_at h)
    (parses_behind (codes "cut") (λ c. decimal h ∷ cut_kind_text (cut_key c) ∷ cut_args c) GoodCut (λ rest. word_by (this_number h) rest >>= λ place. word_by cut_kind_of place.1 >>= λ kind. cut_of_kind kind.0 kind.1)
    (parses_then (λ n. decimal n ∷ []) (λ n. n ≡ h) (word_by (this_number h)) (λ c. h) (λ c. cut_kind_text (cut_key c) ∷ cut_args c) GoodCut (λ n xs. word_by cut_kind_of xs >>= λ kind. cut_of_kind kind.0 kind.1)
    (parses_this h le)
    (λ n hn. parses_as (λ c. cut_kind_text (cut_key c) ∷ cut_args c) (λ c. cut_kind_text (cut_key c) ∷ cut_args c) GoodCut (λ c. GoodCut c × (h ≡ n)) (λ xs. word_by cut_kind_of xs >>= λ kind. cut_of_kind kind.0 kind.1) (λ xs. word_by cut_kind_of xs >>= λ kind. cut_of_kind kind.0 kind.1)
    (parses_then (λ k. cut_kind_text k ∷ []) Any (word_by cut_kind_of) cut_key cut_args GoodCut cut_of_kind cut_kind_parses cut_args_parse (λ c f. tt))
    (λ c f. f.0) (λ c f. (f, sym hn)) (λ c f. refl) (λ xs. refl))
    (λ c f. refl)))
    (λ c f. f) (λ c f. f) texts (λ xs. refl)
  where
    texts : (c : StripCut) → GoodCut c → cut_words h c ≡ codes "cut" ∷ decimal h ∷ cut_kind_text (cut_key c) ∷ cut_args c
    texts cuts.Area f = refl
    texts (cuts.X a b q) f = refl
    texts (cuts.Y a b q) f = refl

pub cut_solid : (h : ℕ) (c : StripCut) → h ≤ 9999999999 → GoodCut c → AllByRecursion IsWord (cut_words h c)
cut_solid h cuts.Area le f = (refl, (few_wide h le, (refl, tt)))
cut_solid h (cuts.X a b q) le f =
    let s = small_cut (cuts.X a b q) f in
    let s1 = s.a_le in
    let s2 = s.b_le in
    (refl, (few_wide h le, (refl, (few_wide a (omega arith), (few_wide b (omega arith), (few_wide q s.q_le, tt))))))
cut_solid h (cuts.Y a b q) le f =
    let s = small_cut (cuts.Y a b q) f in
    let s1 = s.a_le in
    let s2 = s.b_le in
    (refl, (few_wide h le, (refl, (few_wide a (omega arith), (few_wide b (omega arith), (few_wide q s.q_le, tt))))))

pub cut_reads : (h : ℕ) → h ≤ 9999999999 → ReadsLine (λ c. spaced (cut_words h c)) GoodCut (cut_of h)
unfolding cut_of
cut_reads h le = reads_line (cut_words h) GoodCut (cut_at h) (cut_parses h le) (λ c f. words_spaced (codes "cut") (decimal h ∷ cut_numbers c) (cut_solid h c le f))
