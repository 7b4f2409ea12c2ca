-- The first line of a weighting is read exactly.
use Rattle.std.proofs.Common.{◌≡◌, ℕ, ◌≤◌, ◌*◌, List, [], ◌∷◌, Some, refl, ap, arith, true, leb, ltb}
use Rattle.std.specs.Prelude.{decimal, codes, ◌&&◌}
use Rattle.std.specs.List.{AllByRecursion}
use Rattle.std.proofs.lemmas.Bool.{leb-true, ltb-true}
use Rattle.texts.specs.Lines.{spaced}
use Rattle.texts.specs.Words.{◌>>=◌, word_by, behind, number_up_to}
use Rattle.texts.proofs.Parsers.{Parses, both_true, parses_word, parses_behind, parses_none, parses_then, parses_as, parses_checked, number_then, IsWord, few_wide, words_spaced, ReadsLine, reads_line}
use Rattle.line_tables.specs.Lines.{half}
use Rattle.cert_text.specs.Forms.{has_tables}
use Rattle.cert_text.specs.Ranges.{are_sides, are_counts}
use Rattle.cert_text.specs.Words.{checked, kind_of, is_weight_line, weight_line_of_kind, weight_line_at, weight_line_of}
use Rattle.cert_text.specs.declared.forms.Form.{Form}
use Rattle.cert_text.specs.declared.words.Kind.{Kind}
use Rattle.cert_text.specs.declared.words.Kind.TheVariants as kinds
use Rattle.cert_text.specs.declared.words.WeightLine.{WeightLine}
use Rattle.cert_text.specs.declared.words.WeightLine.TheVariants as weight_lines
use Rattle.cert_text.proofs.OneWord.{Any, five_is}

-- the words behind the first
abbrev args_words : WeightLine → List (List ℕ)
args_words weight_lines.Area = codes "area" ∷ []
args_words (weight_lines.Colour k c) = codes "colour" ∷ decimal k ∷ decimal c ∷ []
args_words (weight_lines.Comb p a r b) = codes "comb" ∷ decimal p ∷ decimal a ∷ decimal r ∷ decimal b ∷ []
args_words (weight_lines.Table x y) = codes "table" ∷ decimal x ∷ decimal y ∷ []
args_words (weight_lines.Lines x y) = codes "lines" ∷ decimal x ∷ decimal y ∷ []

-- the words of a weighting's first line
abbrev pub line_words : WeightLine → List (List ℕ)
line_words w = codes "weighting" ∷ args_words w

kind_text : Kind → List ℕ
kind_text kinds.Area = codes "area"
kind_text kinds.Colour = codes "colour"
kind_text kinds.Comb = codes "comb"
kind_text kinds.Table = codes "table"
kind_text kinds.Lines = codes "lines"

kind_parses : Parses (λ k. kind_text k ∷ []) Any (word_by kind_of)
unfolding kind_text
kind_parses = parses_word kind_of kind_text Any back (λ w k e. (tt, five_is kind_text kinds.Area kinds.Colour kinds.Comb kinds.Table kinds.Lines w k e))
  where
    back : (k : Kind) → Any k → kind_of (kind_text k) ≡ Some k
    back kinds.Area h = refl
    back kinds.Colour h = refl
    back kinds.Comb h = refl
    back kinds.Table h = refl
    back kinds.Lines h = refl

abbrev kind_key : WeightLine → Kind
kind_key weight_lines.Area = kinds.Area
kind_key (weight_lines.Colour k c) = kinds.Colour
kind_key (weight_lines.Comb p a r b) = kinds.Comb
kind_key (weight_lines.Table x y) = kinds.Table
kind_key (weight_lines.Lines x y) = kinds.Lines

abbrev args_of : WeightLine → List (List ℕ)
args_of weight_lines.Area = []
args_of (weight_lines.Colour k c) = decimal k ∷ decimal c ∷ []
args_of (weight_lines.Comb p a r b) = decimal p ∷ decimal a ∷ decimal r ∷ decimal b ∷ []
args_of (weight_lines.Table x y) = decimal x ∷ decimal y ∷ []
args_of (weight_lines.Lines x y) = decimal x ∷ decimal y ∷ []

abbrev arg1 : WeightLine → ℕ
arg1 weight_lines.Area = 0
arg1 (weight_lines.Colour k c) = k
arg1 (weight_lines.Comb p a r b) = p
arg1 (weight_lines.Table x y) = x
arg1 (weight_lines.Lines x y) = x

abbrev arg2 : WeightLine → ℕ
arg2 weight_lines.Area = 0
arg2 (weight_lines.Colour k c) = c
arg2 (weight_lines.Comb p a r b) = a
arg2 (weight_lines.Table x y) = y
arg2 (weight_lines.Lines x y) = y

abbrev arg3 : WeightLine → ℕ
arg3 weight_lines.Area = 0
arg3 (weight_lines.Colour k c) = 0
arg3 (weight_lines.Comb p a r b) = r
arg3 (weight_lines.Table x y) = 0
arg3 (weight_lines.Lines x y) = 0

abbrev arg4 : WeightLine → ℕ
arg4 weight_lines.Area = 0
arg4 (weight_lines.Colour k c) = 0
arg4 (weight_lines.Comb p a r b) = b
arg4 (weight_lines.Table x y) = 0
arg4 (weight_lines.Lines x y) = 0

abbrev IsOf : Form → Kind → WeightLine → Type 0
IsOf form k w = (is_weight_line form w ≡ true) × (kind_key w ≡ k)

record Small (w : WeightLine) : Type 0 where
  pub a1 : arg1 w ≤ 4000
  pub a2 : arg2 w ≤ 4000
  pub a3 : arg3 w ≤ 4000
  pub a4 : arg4 w ≤ 4000

small : (form : Form) → (w : WeightLine) → is_weight_line form w ≡ true → Small w
small form weight_lines.Area h = record { a1 = omega arith; a2 = omega arith; a3 = omega arith; a4 = omega arith }
small form (weight_lines.Colour k c) h =
    let p = both_true (leb 1 k) (leb k 4000 && ltb c k) h in
    let q = both_true (leb k 4000) (ltb c k) p.1 in
    let x = leb-true k 4000 q.0 in
    let y = ltb-true c k q.1 in
    record { a1 = omega arith; a2 = omega arith; a3 = omega arith; a4 = omega arith }
small form (weight_lines.Comb p a r b) h =
    let h1 = both_true (leb 1 p) (leb p 4000 && (ltb a p && (leb 1 r && (leb r 4000 && ltb b r)))) h in
    let h2 = both_true (leb p 4000) (ltb a p && (leb 1 r && (leb r 4000 && ltb b r))) h1.1 in
    let h3 = both_true (ltb a p) (leb 1 r && (leb r 4000 && ltb b r)) h2.1 in
    let h4 = both_true (leb 1 r) (leb r 4000 && ltb b r) h3.1 in
    let h5 = both_true (leb r 4000) (ltb b r) h4.1 in
    let x = leb-true p 4000 h2.0 in
    let y = ltb-true a p h3.0 in
    let z = leb-true r 4000 h5.0 in
    let u = ltb-true b r h5.1 in
    record { a1 = omega arith; a2 = omega arith; a3 = omega arith; a4 = omega arith }
small form (weight_lines.Table x y) h =
    let h0 = both_true (has_tables form) (are_sides x y) h in
    let h1 = both_true (leb 1 x) (leb x 4000 && (leb 1 y && (leb y 4000 && leb (x * y) 40000))) h0.1 in
    let h2 = both_true (leb x 4000) (leb 1 y && (leb y 4000 && leb (x * y) 40000)) h1.1 in
    let h3 = both_true (leb 1 y) (leb y 4000 && leb (x * y) 40000) h2.1 in
    let h4 = both_true (leb y 4000) (leb (x * y) 40000) h3.1 in
    record { a1 = leb-true x 4000 h2.0; a2 = leb-true y 4000 h4.0; a3 = omega arith; a4 = omega arith }
small form (weight_lines.Lines x y) h =
    let h0 = both_true (has_tables form) (are_counts x y) h in
    let h1 = both_true (leb 1 x) (leb x 4000 && (leb 1 y && (leb y 4000 && leb (half x * half y) 40000))) h0.1 in
    let h2 = both_true (leb x 4000) (leb 1 y && (leb y 4000 && leb (half x * half y) 40000)) h1.1 in
    let h3 = both_true (leb 1 y) (leb y 4000 && leb (half x * half y) 40000) h2.1 in
    let h4 = both_true (leb y 4000) (leb (half x * half y) 40000) h3.1 in
    record { a1 = leb-true x 4000 h2.0; a2 = leb-true y 4000 h4.0; a3 = omega arith; a4 = omega arith }

colour_is : (form : Form) → (w : WeightLine) (k c : ℕ) → ((IsOf form kinds.Colour w × (arg1 w ≡ k)) × (arg2 w ≡ c)) → (w ≡ weight_lines.Colour k c) × (is_weight_line form (weight_lines.Colour k c) ≡ true)
colour_is form weight_lines.Area k c h = let e = h.0.0.1 in absurd cc
colour_is form (weight_lines.Colour x y) k c h = rw (← h.0.1, ← h.1) (refl, h.0.0.0)
colour_is form (weight_lines.Comb p a r b) k c h = let e = h.0.0.1 in absurd cc
colour_is form (weight_lines.Table x y) k c h = let e = h.0.0.1 in absurd cc
colour_is form (weight_lines.Lines x y) k c h = let e = h.0.0.1 in absurd cc

table_is : (form : Form) → (w : WeightLine) (k c : ℕ) → ((IsOf form kinds.Table w × (arg1 w ≡ k)) × (arg2 w ≡ c)) → (w ≡ weight_lines.Table k c) × (is_weight_line form (weight_lines.Table k c) ≡ true)
table_is form weight_lines.Area k c h = let e = h.0.0.1 in absurd cc
table_is form (weight_lines.Colour x y) k c h = let e = h.0.0.1 in absurd cc
table_is form (weight_lines.Comb p a r b) k c h = let e = h.0.0.1 in absurd cc
table_is form (weight_lines.Table x y) k c h = rw (← h.0.1, ← h.1) (refl, h.0.0.0)
table_is form (weight_lines.Lines k m) x y h = let e = h.0.0.1 in absurd cc

lines_is : (form : Form) → (w : WeightLine) (k c : ℕ) → ((IsOf form kinds.Lines w × (arg1 w ≡ k)) × (arg2 w ≡ c)) → (w ≡ weight_lines.Lines k c) × (is_weight_line form (weight_lines.Lines k c) ≡ true)
lines_is form weight_lines.Area k c h = let e = h.0.0.1 in absurd cc
lines_is form (weight_lines.Colour x y) k c h = let e = h.0.0.1 in absurd cc
lines_is form (weight_lines.Comb p a r b) k c h = let e = h.0.0.1 in absurd cc
lines_is form (weight_lines.Table x y) k c h = let e = h.0.0.1 in absurd cc
lines_is form (weight_lines.Lines x y) k c h = rw (← h.0.1, ← h.1) (refl, h.0.0.0)

comb_is : (form : Form) → (w : WeightLine) (p a r b : ℕ) → ((((IsOf form kinds.Comb w × (arg1 w ≡ p)) × (arg2 w ≡ a)) × (arg3 w ≡ r)) × (arg4 w ≡ b)) → (w ≡ weight_lines.Comb p a r b) × (is_weight_line form (weight_lines.Comb p a r b) ≡ true)
comb_is form weight_lines.Area p a r b h = let e = h.0.0.0.0.1 in absurd cc
comb_is form (weight_lines.Colour x y) p a r b h = let e = h.0.0.0.0.1 in absurd cc
comb_is form (weight_lines.Comb x y z u) p a r b h = rw (← h.0.0.0.1, ← h.0.0.1, ← h.0.1, ← h.1) (refl, h.0.0.0.0.0)
comb_is form (weight_lines.Table x y) p a r b h = let e = h.0.0.0.0.1 in absurd cc
comb_is form (weight_lines.Lines x y) p a r b h = let e = h.0.0.0.0.1 in absurd cc

area_is : (form : Form) → (w : WeightLine) → IsOf form kinds.Area w → w ≡ weight_lines.Area
area_is form weight_lines.Area h = refl
area_is form (weight_lines.Colour x y) h = let e = h.1 in absurd cc
area_is form (weight_lines.Comb p a r b) h = let e = h.1 in absurd cc
area_is form (weight_lines.Table x y) h = let e = h.1 in absurd cc
area_is form (weight_lines.Lines x y) h = let e = h.1 in absurd cc

area_parses : (form : Form) → Parses args_of (IsOf form kinds.Area) (weight_line_of_kind form kinds.Area)
unfolding weight_line_of_kind
area_parses form =
    parses_as (λ w. []) args_of (IsOf form kinds.Area) (IsOf form kinds.Area) (λ xs. Some (weight_lines.Area, xs)) (weight_line_of_kind form kinds.Area)
    (parses_none (IsOf form kinds.Area) weight_lines.Area (refl, refl) (area_is form)) (λ w f. f) (λ w f. f) (λ w f. ap args_of (area_is form w f)) (λ xs. refl)

colour_parses : (form : Form) → Parses args_of (IsOf form kinds.Colour) (weight_line_of_kind form kinds.Colour)
unfolding weight_line_of_kind
colour_parses form =
    parses_as (λ w. decimal (arg1 w) ∷ decimal (arg2 w) ∷ []) args_of (IsOf form kinds.Colour) (IsOf form kinds.Colour)
    (λ xs. word_by (number_up_to 4000) xs >>= λ k. word_by (number_up_to 4000) k.1 >>= λ c. checked (weight_lines.Colour k.0 c.0) (is_weight_line form (weight_lines.Colour k.0 c.0)) c.1) (weight_line_of_kind form kinds.Colour)
    (number_then 4000 (omega arith) arg1 (λ w. decimal (arg2 w) ∷ []) (IsOf form kinds.Colour) (λ k xs. word_by (number_up_to 4000) xs >>= λ c. checked (weight_lines.Colour k c.0) (is_weight_line form (weight_lines.Colour k c.0)) c.1)
    (λ k hk. number_then 4000 (omega arith) arg2 (λ w. []) (λ w. IsOf form kinds.Colour w × (arg1 w ≡ k)) (λ c xs. checked (weight_lines.Colour k c) (is_weight_line form (weight_lines.Colour k c)) xs)
    (λ c hc. parses_checked (λ w. (IsOf form kinds.Colour w × (arg1 w ≡ k)) × (arg2 w ≡ c)) (weight_lines.Colour k c) (is_weight_line form (weight_lines.Colour k c)) (λ w f. colour_is form w k c f) (λ ok. (((ok, refl), refl), refl)))
    (λ w f. (small form w f.0.0).a2))
    (λ w f. (small form w f.0).a1))
    (λ w f. f) (λ w f. f) texts (λ xs. refl)
  where
    texts : (w : WeightLine) → IsOf form kinds.Colour w → args_of w ≡ decimal (arg1 w) ∷ decimal (arg2 w) ∷ []
    texts weight_lines.Area f = let e = f.1 in absurd cc
    texts (weight_lines.Colour x y) f = refl
    texts (weight_lines.Comb p a r b) f = let e = f.1 in absurd cc
    texts (weight_lines.Table x y) f = let e = f.1 in absurd cc
    texts (weight_lines.Lines x y) f = let e = f.1 in absurd cc

comb_parses : (form : Form) → Parses args_of (IsOf form kinds.Comb) (weight_line_of_kind form kinds.Comb)
unfolding weight_line_of_kind
comb_parses form =
    parses_as (λ w. decimal (arg1 w) ∷ decimal (arg2 w) ∷ decimal (arg3 w) ∷ decimal (arg4 w) ∷ []) args_of (IsOf form kinds.Comb) (IsOf form kinds.Comb)
    (λ xs. word_by (number_up_to 4000) xs >>= λ p. word_by (number_up_to 4000) p.1 >>= λ a. word_by (number_up_to 4000) a.1 >>= λ r. word_by (number_up_to 4000) r.1 >>= λ b. checked (weight_lines.Comb p.0 a.0 r.0 b.0) (is_weight_line form (weight_lines.Comb p.0 a.0 r.0 b.0)) b.1) (weight_line_of_kind form kinds.Comb)
    (number_then 4000 (omega arith) arg1 (λ w. decimal (arg2 w) ∷ decimal (arg3 w) ∷ decimal (arg4 w) ∷ []) (IsOf form kinds.Comb) (λ p xs. word_by (number_up_to 4000) xs >>= λ a. word_by (number_up_to 4000) a.1 >>= λ r. word_by (number_up_to 4000) r.1 >>= λ b. checked (weight_lines.Comb p a.0 r.0 b.0) (is_weight_line form (weight_lines.Comb p a.0 r.0 b.0)) b.1)
    (λ p hp. number_then 4000 (omega arith) arg2 (λ w. decimal (arg3 w) ∷ decimal (arg4 w) ∷ []) (λ w. IsOf form kinds.Comb w × (arg1 w ≡ p)) (λ a xs. word_by (number_up_to 4000) xs >>= λ r. word_by (number_up_to 4000) r.1 >>= λ b. checked (weight_lines.Comb p a r.0 b.0) (is_weight_line form (weight_lines.Comb p a r.0 b.0)) b.1)
    (λ a ha. number_then 4000 (omega arith) arg3 (λ w. decimal (arg4 w) ∷ []) (λ w. (IsOf form kinds.Comb w × (arg1 w ≡ p)) × (arg2 w ≡ a)) (λ r xs. word_by (number_up_to 4000) xs >>= λ b. checked (weight_lines.Comb p a r b.0) (is_weight_line form (weight_lines.Comb p a r b.0)) b.1)
    (λ r hr. number_then 4000 (omega arith) arg4 (λ w. []) (λ w. ((IsOf form kinds.Comb w × (arg1 w ≡ p)) × (arg2 w ≡ a)) × (arg3 w ≡ r)) (λ b xs. checked (weight_lines.Comb p a r b) (is_weight_line form (weight_lines.Comb p a r b)) xs)
    (λ b hb. parses_checked (λ w. (((IsOf form kinds.Comb w × (arg1 w ≡ p)) × (arg2 w ≡ a)) × (arg3 w ≡ r)) × (arg4 w ≡ b)) (weight_lines.Comb p a r b) (is_weight_line form (weight_lines.Comb p a r b)) (λ w f. comb_is form w p a r b f) (λ ok. (((((ok, refl), refl), refl), refl), refl)))
    (λ w f. (small form w f.0.0.0.0).a4))
    (λ w f. (small form w f.0.0.0).a3))
    (λ w f. (small form w f.0.0).a2))
    (λ w f. (small form w f.0).a1))
    (λ w f. f) (λ w f. f) texts4 (λ xs. refl)
  where
    texts4 : (w : WeightLine) → IsOf form kinds.Comb w → args_of w ≡ decimal (arg1 w) ∷ decimal (arg2 w) ∷ decimal (arg3 w) ∷ decimal (arg4 w) ∷ []
    texts4 weight_lines.Area f = let e = f.1 in absurd cc
    texts4 (weight_lines.Colour x y) f = let e = f.1 in absurd cc
    texts4 (weight_lines.Comb p a r b) f = refl
    texts4 (weight_lines.Table x y) f = let e = f.1 in absurd cc
    texts4 (weight_lines.Lines x y) f = let e = f.1 in absurd cc

table_parses : (form : Form) → Parses args_of (IsOf form kinds.Table) (weight_line_of_kind form kinds.Table)
unfolding weight_line_of_kind
table_parses form =
    parses_as (λ w. decimal (arg1 w) ∷ decimal (arg2 w) ∷ []) args_of (IsOf form kinds.Table) (IsOf form kinds.Table)
    (λ xs. word_by (number_up_to 4000) xs >>= λ k. word_by (number_up_to 4000) k.1 >>= λ c. checked (weight_lines.Table k.0 c.0) (is_weight_line form (weight_lines.Table k.0 c.0)) c.1) (weight_line_of_kind form kinds.Table)
    (number_then 4000 (omega arith) arg1 (λ w. decimal (arg2 w) ∷ []) (IsOf form kinds.Table) (λ k xs. word_by (number_up_to 4000) xs >>= λ c. checked (weight_lines.Table k c.0) (is_weight_line form (weight_lines.Table k c.0)) c.1)
    (λ k hk. number_then 4000 (omega arith) arg2 (λ w. []) (λ w. IsOf form kinds.Table w × (arg1 w ≡ k)) (λ c xs. checked (weight_lines.Table k c) (is_weight_line form (weight_lines.Table k c)) xs)
    (λ c hc. parses_checked (λ w. (IsOf form kinds.Table w × (arg1 w ≡ k)) × (arg2 w ≡ c)) (weight_lines.Table k c) (is_weight_line form (weight_lines.Table k c)) (λ w f. table_is form w k c f) (λ ok. (((ok, refl), refl), refl)))
    (λ w f. (small form w f.0.0).a2))
    (λ w f. (small form w f.0).a1))
    (λ w f. f) (λ w f. f) texts (λ xs. refl)
  where
    texts : (w : WeightLine) → IsOf form kinds.Table w → args_of w ≡ decimal (arg1 w) ∷ decimal (arg2 w) ∷ []
    texts weight_lines.Area f = let e = f.1 in absurd cc
    texts (weight_lines.Colour x y) f = let e = f.1 in absurd cc
    texts (weight_lines.Comb p a r b) f = let e = f.1 in absurd cc
    texts (weight_lines.Table x y) f = refl
    texts (weight_lines.Lines x y) f = let e = f.1 in absurd cc

lines_parses : (form : Form) → Parses args_of (IsOf form kinds.Lines) (weight_line_of_kind form kinds.Lines)
unfolding weight_line_of_kind
lines_parses form =
    parses_as (λ w. decimal (arg1 w) ∷ decimal (arg2 w) ∷ []) args_of (IsOf form kinds.Lines) (IsOf form kinds.Lines)
    (λ xs. word_by (number_up_to 4000) xs >>= λ k. word_by (number_up_to 4000) k.1 >>= λ c. checked (weight_lines.Lines k.0 c.0) (is_weight_line form (weight_lines.Lines k.0 c.0)) c.1) (weight_line_of_kind form kinds.Lines)
    (number_then 4000 (omega arith) arg1 (λ w. decimal (arg2 w) ∷ []) (IsOf form kinds.Lines) (λ k xs. word_by (number_up_to 4000) xs >>= λ c. checked (weight_lines.Lines k c.0) (is_weight_line form (weight_lines.Lines k c.0)) c.1)
    (λ k hk. number_then 4000 (omega arith) arg2 (λ w. []) (λ w. IsOf form kinds.Lines w × (arg1 w ≡ k)) (λ c xs. checked (weight_lines.Lines k c) (is_weight_line form (weight_lines.Lines k c)) xs)
    (λ c hc. parses_checked (λ w. (IsOf form kinds.Lines w × (arg1 w ≡ k)) × (arg2 w ≡ c)) (weight_lines.Lines k c) (is_weight_line form (weight_lines.Lines k c)) (λ w f. lines_is form w k c f) (λ ok. (((ok, refl), refl), refl)))
    (λ w f. (small form w f.0.0).a2))
    (λ w f. (small form w f.0).a1))
    (λ w f. f) (λ w f. f) texts (λ xs. refl)
  where
    texts : (w : WeightLine) → IsOf form kinds.Lines w → args_of w ≡ decimal (arg1 w) ∷ decimal (arg2 w) ∷ []
    texts weight_lines.Area f = let e = f.1 in absurd cc
    texts (weight_lines.Colour x y) f = let e = f.1 in absurd cc
    texts (weight_lines.Comb p a r b) f = let e = f.1 in absurd cc
    texts (weight_lines.Table x y) f = let e = f.1 in absurd cc
    texts (weight_lines.Lines x y) f = refl

args_parse : (form : Form) (k : Kind) → Any k → Parses args_of (IsOf form k) (weight_line_of_kind form k)
args_parse form kinds.Area h = area_parses form
args_parse form kinds.Colour h = colour_parses form
args_parse form kinds.Comb h = comb_parses form
args_parse form kinds.Table h = table_parses form
args_parse form kinds.Lines h = lines_parses form

abbrev pub GoodLine : Form → WeightLine → Type 0
GoodLine form w = is_weight_line form w ≡ true

weight_line_parses : (form : Form) → Parses line_words (GoodLine form) (weight_line_at form)
unfolding weight_line_at kind_text
weight_line_parses form =
    parses_as (λ w. codes "weighting" ∷ kind_text (kind_key w) ∷ args_of w) line_words (GoodLine form) (GoodLine form)
    (λ ws. behind (codes "weighting") ws >>= λ rest. word_by kind_of rest >>= λ kind. weight_line_of_kind form kind.0 kind.1) (weight_line_at form)
    (parses_behind (codes "weighting") (λ w. kind_text (kind_key w) ∷ args_of w) (GoodLine form) (λ rest. word_by kind_of rest >>= λ kind. weight_line_of_kind form kind.0 kind.1)
    (parses_then (λ k. kind_text k ∷ []) Any (word_by kind_of) kind_key args_of (GoodLine form) (weight_line_of_kind form) kind_parses (args_parse form) (λ w f. tt)))
    (λ w f. f) (λ w f. f) texts (λ xs. refl)
  where
    texts : (w : WeightLine) → GoodLine form w → line_words w ≡ codes "weighting" ∷ kind_text (kind_key w) ∷ args_of w
    texts weight_lines.Area f = refl
    texts (weight_lines.Colour x y) f = refl
    texts (weight_lines.Comb p a r b) f = refl
    texts (weight_lines.Table x y) f = refl
    texts (weight_lines.Lines x y) f = refl

pub weight_line_solid : (form : Form) (w : WeightLine) → GoodLine form w → AllByRecursion IsWord (line_words w)
weight_line_solid form weight_lines.Area f = (refl, (refl, tt))
weight_line_solid form (weight_lines.Colour x y) f =
    let s = small form (weight_lines.Colour x y) f in
    let s1 = s.a1 in
    let s2 = s.a2 in
    (refl, (refl, (few_wide x (omega arith), (few_wide y (omega arith), tt))))
weight_line_solid form (weight_lines.Table x y) f =
    let s = small form (weight_lines.Table x y) f in
    let s1 = s.a1 in
    let s2 = s.a2 in
    (refl, (refl, (few_wide x (omega arith), (few_wide y (omega arith), tt))))
weight_line_solid form (weight_lines.Lines x y) f =
    let s = small form (weight_lines.Lines x y) f in
    let s1 = s.a1 in
    let s2 = s.a2 in
    (refl, (refl, (few_wide x (omega arith), (few_wide y (omega arith), tt))))
weight_line_solid form (weight_lines.Comb p a r b) f =
    let s = small form (weight_lines.Comb p a r b) f in
    let s1 = s.a1 in
    let s2 = s.a2 in
    let s3 = s.a3 in
    let s4 = s.a4 in
    (refl, (refl, (few_wide p (omega arith), (few_wide a (omega arith), (few_wide r (omega arith), (few_wide b (omega arith), tt))))))

pub weight_line_reads : (form : Form) → ReadsLine (λ w. spaced (line_words w)) (GoodLine form) (weight_line_of form)
unfolding weight_line_of
weight_line_reads form = reads_line line_words (GoodLine form) (weight_line_at form) (weight_line_parses form) (λ w f. words_spaced (codes "weighting") (args_words w) (weight_line_solid form w f))
