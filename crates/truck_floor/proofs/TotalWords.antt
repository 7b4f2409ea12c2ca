-- The words of a total are read exactly.
use Rattle.std.proofs.Common.{◌≡◌, ℕ, ◌≤◌, List, [], ◌∷◌, ◌++◌, Some, None, refl, ap, subst, ◌∙◌, arith, Bool, true, false, cond, leb, ◌⊎◌, inl, inr}
use Rattle.std.specs.Prelude.{decimal, codes, ◌&&◌}
use Rattle.std.specs.Int.{IsInRange}
use Rattle.std.specs.Str.{bytes_eq}
use Rattle.std.specs.List.{AllByRecursion}
use Rattle.std.proofs.lemmas.Bool.{leb-true, le-leb}
use Rattle.std.proofs.lemmas.Slice.Eq.{bytes_eq-Decides}
use Rattle.plan_io.specs.Numbers.{number_of}
use Rattle.texts.specs.Lines.{spaced}
use Rattle.texts.specs.Words.{◌>>=◌, word_by, behind, number_up_to}
use Rattle.texts.proofs.Parsers.{Parses, both_true, bind_some, some_is, guard_some, number_back, number_is, parses_word, parses_behind, parses_none, parses_then, number_then, IsWord, few_wide, words_spaced, plain_spaced, ReadsLine, reads_line}
use Rattle.texts.proofs.LineEnds.{IsPlain}
use Rattle.truck_floor.specs.declared.totals.Total.{Total}
use Rattle.truck_floor.specs.Totals.{IsWithin}
use Rattle.truck_floor.specs.Text.{optimal_word, numbers_words}
use Rattle.truck_floor.specs.Words.{some_pallets, pallets_of, product_at, optimal_of, total_with, numbers_at, numbers_of}

-- ---- a number of pallets

pallets_back : (n : ℕ) → IsInRange 1 1000 n → pallets_of (decimal n) ≡ Some n
pallets_back n f =
    let low = f.0 in
    let high = f.1 in
    rw (number_back n (omega arith)) (rw (le-leb 1 n low, le-leb n 1000 high) refl)

pallets_only : (w : List ℕ) (n : ℕ) → pallets_of w ≡ Some n → IsInRange 1 1000 n × (w ≡ decimal n)
pallets_only w n e =
    let b = bind_some (number_of w) some_pallets n e in
    let g = guard_some (leb 1 b.0 && leb b.0 1000) b.0 n b.2 in
    let p = both_true (leb 1 b.0) (leb b.0 1000) g.0 in
    let s = number_is w b.0 b.1 in
    (subst (IsInRange 1 1000) g.1 (leb-true 1 b.0 p.0, leb-true b.0 1000 p.1), s.1 ∙ ap decimal g.1)

pallets_parses : Parses (λ n. decimal n ∷ []) (IsInRange 1 1000) (word_by pallets_of)
pallets_parses = parses_word pallets_of decimal (IsInRange 1 1000) pallets_back pallets_only

-- ---- a number of pallets and a number of cases

abbrev IsProduct : ℕ × ℕ → Type 0
IsProduct e = IsInRange 1 1000 e.0 × (e.1 ≤ 10000000)

abbrev product_words : ℕ × ℕ → List (List ℕ)
product_words e = decimal e.0 ∷ codes "x" ∷ decimal e.1 ∷ []

product_parses : Parses product_words IsProduct product_at
unfolding product_at
product_parses =
    parses_then (λ n. decimal n ∷ []) (IsInRange 1 1000) (word_by pallets_of) (λ e. e.0) (λ e. codes "x" ∷ decimal e.1 ∷ []) IsProduct (λ n ws. behind (codes "x") ws >>= λ rest. word_by (number_up_to 10000000) rest >>= λ cases. Some ((n, cases.0), cases.1))
    pallets_parses
    (λ n hn. parses_behind (codes "x") (λ e. decimal e.1 ∷ []) (λ e. IsProduct e × (e.0 ≡ n)) (λ rest. word_by (number_up_to 10000000) rest >>= λ cases. Some ((n, cases.0), cases.1))
    (number_then 10000000 (omega arith) (λ e. e.1) (λ e. []) (λ e. IsProduct e × (e.0 ≡ n)) (λ m ws. Some ((n, m), ws))
    (λ m hm. parses_none (λ e. (IsProduct e × (e.0 ≡ n)) × (e.1 ≡ m)) (n, m) (((hn, hm), refl), refl) (one n m))
    (λ e f. f.0.1)))
    (λ e f. f.0)
  where
    one : (n m : ℕ) (e : ℕ × ℕ) → (IsProduct e × (e.0 ≡ n)) × (e.1 ≡ m) → e ≡ (n, m)
    one n m e f = ap (λ (k : ℕ). (k, e.1)) f.0.1 ∙ ap (λ (k : ℕ). (n, k)) f.1

-- ---- the last word

pub pick : {X : Type 0} (b : Bool) (x y z : X) → cond b x y ≡ z → ((b ≡ true) × (x ≡ z)) ⊎ ((b ≡ false) × (y ≡ z))
pick true x y z e = inl (refl, e)
pick false x y z e = inr (refl, e)

optimal_back : (b : Bool) → Unit {0} → optimal_of (optimal_word b) ≡ Some b
unfolding optimal_of
optimal_back true f = refl
optimal_back false f = refl

optimal_only : (w : List ℕ) (b : Bool) → optimal_of w ≡ Some b → Unit {0} × (w ≡ optimal_word b)
unfolding optimal_of
optimal_only w b e = elim (pick (bytes_eq w (codes "optimal")) (Some true) (cond (bytes_eq w (codes "open")) (Some false) None) (Some b) e) [
  | inl p ↦ (tt, (bytes_eq-Decides w (codes "optimal")).0 p.0 ∙ ap optimal_word (some_is true b p.1))
  | inr q ↦
      let g = guard_some (bytes_eq w (codes "open")) false b q.1 in
      (tt, (bytes_eq-Decides w (codes "open")).0 g.0 ∙ ap optimal_word g.1)
]

optimal_parses : Parses (λ b. optimal_word b ∷ []) (λ b. Unit {0}) (word_by optimal_of)
optimal_parses = parses_word optimal_of optimal_word (λ b. Unit {0}) optimal_back optimal_only

-- ---- a total's numbers

abbrev reached_by : Total → ℕ × ℕ
reached_by t = (t.pallets, t.cases)

abbrev most_by : Total → ℕ × ℕ
most_by t = (t.pallet_bound, t.case_bound)

within : (r m : ℕ × ℕ) (b : Bool) → IsProduct r → IsProduct m → IsWithin (total_with r m b)
within r m b f g = record { pallets = f.0; cases = f.1; pallet_bound = g.0; case_bound = g.1 }

abbrev IsWith : ℕ × ℕ → Total → Type 0
IsWith r t = IsWithin t × (reached_by t ≡ r)

abbrev IsWithBoth : ℕ × ℕ → ℕ × ℕ → Total → Type 0
IsWithBoth r m t = IsWith r t × (most_by t ≡ m)

only_total : (r m : ℕ × ℕ) (b : Bool) (t : Total) → IsWithBoth r m t × (t.optimal ≡ b) → t ≡ total_with r m b
only_total r m b t f =
    ap (λ (e : ℕ × ℕ). total_with e (most_by t) t.optimal) f.0.0.1 ∙ ap (λ (e : ℕ × ℕ). total_with r e t.optimal) f.0.1 ∙ ap (λ (c : Bool). total_with r m c) f.1

last_parses : (r m : ℕ × ℕ) → IsProduct r → IsProduct m → Parses (λ t. optimal_word t.optimal ∷ []) (IsWithBoth r m) (λ ws. word_by optimal_of ws >>= λ optimal. Some (total_with r m optimal.0, optimal.1))
last_parses r m f g =
    parses_then (λ b. optimal_word b ∷ []) (λ b. Unit {0}) (word_by optimal_of) (λ t. t.optimal) (λ t. []) (IsWithBoth r m) (λ b ws. Some (total_with r m b, ws))
    optimal_parses
    (λ b _. parses_none (λ t. IsWithBoth r m t × (t.optimal ≡ b)) (total_with r m b) (((within r m b f g, refl), refl), refl) (only_total r m b))
    (λ t h. tt)

bounds_parses : (r : ℕ × ℕ) → IsProduct r → Parses (λ t. codes "of" ∷ (product_words (most_by t) ++ optimal_word t.optimal ∷ [])) (IsWith r)
    (λ ws. behind (codes "of") ws >>= λ rest. product_at rest >>= λ most. word_by optimal_of most.1 >>= λ optimal. Some (total_with r most.0 optimal.0, optimal.1))
bounds_parses r f =
    parses_behind (codes "of") (λ t. product_words (most_by t) ++ optimal_word t.optimal ∷ []) (IsWith r) (λ rest. product_at rest >>= λ most. word_by optimal_of most.1 >>= λ optimal. Some (total_with r most.0 optimal.0, optimal.1))
    (parses_then product_words IsProduct product_at most_by (λ t. optimal_word t.optimal ∷ []) (IsWith r) (λ m ws. word_by optimal_of ws >>= λ optimal. Some (total_with r m optimal.0, optimal.1))
    product_parses
    (λ m g. last_parses r m f g)
    (λ t h. (h.0.pallet_bound, h.0.case_bound)))

numbers_parses : Parses numbers_words IsWithin numbers_at
unfolding numbers_at
numbers_parses =
    parses_behind (codes "total") (λ t. product_words (reached_by t) ++ codes "of" ∷ (product_words (most_by t) ++ optimal_word t.optimal ∷ [])) IsWithin
    (λ ws. product_at ws >>= λ reached. behind (codes "of") reached.1 >>= λ rest. product_at rest >>= λ most. word_by optimal_of most.1 >>= λ optimal. Some (total_with reached.0 most.0 optimal.0, optimal.1))
    (parses_then product_words IsProduct product_at reached_by (λ t. codes "of" ∷ (product_words (most_by t) ++ optimal_word t.optimal ∷ [])) IsWithin
    (λ r ws. behind (codes "of") ws >>= λ rest. product_at rest >>= λ most. word_by optimal_of most.1 >>= λ optimal. Some (total_with r most.0 optimal.0, optimal.1))
    product_parses bounds_parses
    (λ t h. (h.pallets, h.cases)))

optimal_is_word : (b : Bool) → IsWord (optimal_word b)
optimal_is_word true = refl
optimal_is_word false = refl

numbers_solid : (t : Total) → IsWithin t → AllByRecursion IsWord (numbers_words t)
numbers_solid t f =
    let pallets = f.pallets.1 in
    let cases = f.cases in
    let pallet_bound = f.pallet_bound.1 in
    let case_bound = f.case_bound in
    (refl, (few_wide t.pallets (omega arith), (refl, (few_wide t.cases (omega arith), (refl, (few_wide t.pallet_bound (omega arith), (refl, (few_wide t.case_bound (omega arith), (optimal_is_word t.optimal, tt)))))))))

pub numbers_reads : ReadsLine (λ t. spaced (numbers_words t)) IsWithin numbers_of
unfolding numbers_of
numbers_reads = reads_line numbers_words IsWithin numbers_at numbers_parses (λ t f. words_spaced (codes "total") _ (numbers_solid t f))

pub numbers_plain : (t : Total) → IsWithin t → IsPlain (spaced (numbers_words t))
numbers_plain t f = plain_spaced (numbers_words t) (numbers_solid t f)
