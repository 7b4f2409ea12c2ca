-- A certificate is read exactly, line by line.
use Rattle.std.proofs.Common.{◌≡◌, ℕ, zero, suc, ◌≤◌, ◌+◌, List, [], ◌∷◌, ◌++◌, length, Ok, refl, sym, ap, ◌∙◌, arith, true, leb}
use Rattle.std.specs.Prelude.{◌&&◌}
use Rattle.std.specs.List.{list_all, AllByRecursion}
use Rattle.std.proofs.lemmas.Bool.{leb-true, le-leb}
use Rattle.std.proofs.lemmas.List.{length-append, append-nil}
use Rattle.texts.specs.Lines.{spaced}
use Rattle.texts.specs.Grammar.{Reads, ◌>>=◌, first_by}
use Rattle.texts.proofs.LineEnds.{IsPlain}
use Rattle.texts.proofs.Readers.{reads_none, reads_then, reads_as}
use Rattle.texts.proofs.Parsers.{both_true, plain_spaced}
use Rattle.weightings.specs.declared.kinds.Weighting.{Weighting}
use Rattle.weightings.specs.declared.kinds.Weighting.TheVariants as weightings
use Rattle.weightings.specs.declared.certs.Mark.{Mark}
use Rattle.weightings.specs.declared.certs.Mark.TheVariants.{Leaf}
use Rattle.weightings.specs.declared.certs.StripCut.{StripCut}
use Rattle.weightings.specs.declared.certs.StripCut.TheVariants as cuts
use Rattle.weightings.specs.declared.certs.Cert.{Cert}
use Rattle.weightings.specs.declared.certs.Cert.TheVariants as certs
use Rattle.cert_text.specs.Forms.{most_cuts}
use Rattle.cert_text.specs.Ranges.{is_weighting, is_tree, is_cut, are_cuts, InRange}
use Rattle.cert_text.specs.Text.{rows_of, weighting_lines, cut_words, cut_lines, tree_line, cert_lines}
use Rattle.cert_text.specs.Words.{tree_of, cut_of, head_of}
use Rattle.cert_text.specs.Lines.{weighting_from, cuts_from, body_of, cert_at}
use Rattle.cert_text.specs.declared.forms.Form.{Form}
use Rattle.cert_text.specs.declared.words.Head.{Head}
use Rattle.cert_text.specs.declared.words.Head.TheVariants as heads
use Rattle.cert_text.proofs.CutWords.{GoodCut, cut_reads, cut_solid}
use Rattle.cert_text.proofs.HeadWords.{GoodHead, head_words, head_reads, head_solid, few_cuts, some_cuts}
use Rattle.cert_text.proofs.RowWords.{tree_reads, tree_plain}
use Rattle.cert_text.proofs.RowReaders.{by_line}
use Rattle.cert_text.proofs.WeightingReaders.{GoodWeighting, weighting_reads, weighting_plain, few_rows}

-- ---- cuts

abbrev first_cut : List StripCut → StripCut
first_cut [] = cuts.Area
first_cut (c ∷ cs) = c

abbrev other_cuts : List StripCut → List StripCut
other_cuts [] = []
other_cuts (c ∷ cs) = cs

abbrev AreCuts : ℕ → List StripCut → Type 0
AreCuts n cs = (length cs ≡ n) × (list_all is_cut cs ≡ true)

-- the other cuts, where the first is known
cuts_behind : (n h : ℕ) (c : StripCut) → GoodCut c → Reads (λ cs. cut_lines (h + 1) cs) (AreCuts n) (cuts_from n (h + 1))
    → Reads (λ cs. cut_lines (h + 1) (other_cuts cs)) (λ cs. AreCuts (suc n) cs × (first_cut cs ≡ c)) (λ ls. cuts_from n (h + 1) ls >>= λ x. Ok (c ∷ x.0, x.1))
cuts_behind n h c good P =
    reads_as (λ cs. cut_lines (h + 1) (other_cuts cs) ++ []) (λ cs. cut_lines (h + 1) (other_cuts cs)) Fits Fits
    (λ ls. cuts_from n (h + 1) ls >>= λ x. Ok (c ∷ x.0, x.1)) (λ ls. cuts_from n (h + 1) ls >>= λ x. Ok (c ∷ x.0, x.1))
    (reads_then (λ cs. cut_lines (h + 1) cs) (AreCuts n) (cuts_from n (h + 1)) other_cuts (λ cs. []) Fits (λ cs ls. Ok (c ∷ cs, ls)) P
    (λ cs f. reads_none (λ all. Fits all × (other_cuts all ≡ cs)) (c ∷ cs) ((made cs f, refl), refl) (one cs))
    keyed)
    (λ cs f. f) (λ cs f. f) (λ cs f. sym (append-nil (cut_lines (h + 1) (other_cuts cs)))) (λ ls. refl)
  where
    Fits : List StripCut → Type 0
    Fits cs = AreCuts (suc n) cs × (first_cut cs ≡ c)

    made : (cs : List StripCut) → AreCuts n cs → AreCuts (suc n) (c ∷ cs)
    made cs f = (ap suc f.0, rw good f.1)

    one : (cs all : List StripCut) → Fits all × (other_cuts all ≡ cs) → all ≡ c ∷ cs
    one cs [] f = let e = f.0.0.0 in absurd (omega arith)
    one cs (d ∷ ds) f = ap (λ (x : StripCut). x ∷ ds) f.0.1 ∙ ap (λ (xs : List StripCut). c ∷ xs) f.1

    keyed : (all : List StripCut) → Fits all → AreCuts n (other_cuts all)
    keyed [] f = let e = f.0.0 in absurd (omega arith)
    keyed (d ∷ ds) f = let e = f.0.0 in (omega arith, (both_true (is_cut d) (list_all is_cut ds) f.0.1).1)

cuts_read : (n h : ℕ) → h + n ≤ 9999999999 → Reads (λ cs. cut_lines h cs) (AreCuts n) (cuts_from n h)
unfolding cuts_from
cuts_read zero h le =
    reads_as (λ cs. []) (λ cs. cut_lines h cs) (AreCuts 0) (AreCuts 0) (λ ls. Ok ([], ls)) (cuts_from 0 h)
    (reads_none (AreCuts 0) [] (refl, refl) none) (λ cs f. f) (λ cs f. f) (λ cs f. ap (cut_lines h) (none cs f)) (λ ls. refl)
  where
    none : (cs : List StripCut) → AreCuts 0 cs → cs ≡ []
    none [] f = refl
    none (c ∷ cs) f = let e = f.0 in absurd (omega arith)
cuts_read (suc n) h le =
    reads_as (λ cs. spaced (cut_words h (first_cut cs)) ∷ cut_lines (h + 1) (other_cuts cs)) (λ cs. cut_lines h cs) (AreCuts (suc n)) (AreCuts (suc n))
    (λ ls. first_by (cut_of h) ls >>= λ c. cuts_from n (h + 1) c.1 >>= λ x. Ok (c.0 ∷ x.0, x.1)) (cuts_from (suc n) h)
    (reads_then (λ c. spaced (cut_words h c) ∷ []) GoodCut (first_by (cut_of h)) first_cut (λ cs. cut_lines (h + 1) (other_cuts cs)) (AreCuts (suc n)) (λ c ls. cuts_from n (h + 1) ls >>= λ x. Ok (c ∷ x.0, x.1))
    (by_line (λ c. spaced (cut_words h c)) GoodCut (cut_of h) (cut_reads h (omega arith)) cuts.Area refl)
    (λ c good. cuts_behind n h c good (cuts_read n (h + 1) (omega arith)))
    keyed)
    (λ cs f. f) (λ cs f. f) texts (λ ls. refl)
  where
    keyed : (cs : List StripCut) → AreCuts (suc n) cs → GoodCut (first_cut cs)
    keyed [] f = refl
    keyed (c ∷ cs) f = (both_true (is_cut c) (list_all is_cut cs) f.1).0

    texts : (cs : List StripCut) → AreCuts (suc n) cs → cut_lines h cs ≡ spaced (cut_words h (first_cut cs)) ∷ cut_lines (h + 1) (other_cuts cs)
    texts [] f = let e = f.0 in absurd (omega arith)
    texts (c ∷ cs) f = refl

-- ---- the whole certificate

abbrev head_key : Cert → Head
head_key (certs.Weighted w t) = heads.Weighted
head_key (certs.Strip cs) = heads.Strip (length cs)
head_key certs.GivenArea = heads.GivenArea

abbrev body_lines : Cert → List (List ℕ)
body_lines (certs.Weighted w t) = weighting_lines w ++ tree_line t ∷ []
body_lines (certs.Strip cs) = cut_lines 0 cs
body_lines certs.GivenArea = []

abbrev weighting_key : Cert → Weighting
weighting_key (certs.Weighted w t) = w
weighting_key (certs.Strip cs) = weightings.Area
weighting_key certs.GivenArea = weightings.Area

abbrev tree_key : Cert → List Mark
tree_key (certs.Weighted w t) = t
tree_key (certs.Strip cs) = Leaf ∷ []
tree_key certs.GivenArea = Leaf ∷ []

abbrev cuts_key : Cert → List StripCut
cuts_key (certs.Weighted w t) = []
cuts_key (certs.Strip cs) = cs
cuts_key certs.GivenArea = []

abbrev IsCertOf : Form → Head → Cert → Type 0
IsCertOf form h c = InRange form c × (head_key c ≡ h)

good_weighting : (form : Form) (c : Cert) → InRange form c → GoodWeighting form (weighting_key c)
good_weighting form (certs.Weighted w t) f = (both_true (is_weighting form w) (is_tree t) f).0
good_weighting form (certs.Strip cs) f = refl
good_weighting form certs.GivenArea f = refl

good_tree : (form : Form) (c : Cert) → InRange form c → is_tree (tree_key c) ≡ true
good_tree form (certs.Weighted w t) f = (both_true (is_weighting form w) (is_tree t) f).1
good_tree form (certs.Strip cs) f = refl
good_tree form certs.GivenArea f = refl

weighted_is : (form : Form) (w : Weighting) (t : List Mark) (c : Cert) → (IsCertOf form heads.Weighted c × (weighting_key c ≡ w)) × (tree_key c ≡ t) → c ≡ certs.Weighted w t
weighted_is form w t (certs.Weighted x y) f = ap (λ (v : Weighting). certs.Weighted v y) f.0.1 ∙ ap (λ (m : List Mark). certs.Weighted w m) f.1
weighted_is form w t (certs.Strip cs) f = let e = f.0.0.1 in absurd cc
weighted_is form w t certs.GivenArea f = let e = f.0.0.1 in absurd cc

body_weighted : (form : Form) → Reads body_lines (IsCertOf form heads.Weighted) (body_of form heads.Weighted)
unfolding body_of
body_weighted form =
    reads_as (λ c. weighting_lines (weighting_key c) ++ tree_line (tree_key c) ∷ []) body_lines (IsCertOf form heads.Weighted) (IsCertOf form heads.Weighted)
    (λ ls. weighting_from form ls >>= λ w. first_by tree_of w.1 >>= λ t. Ok (certs.Weighted w.0 t.0, t.1)) (body_of form heads.Weighted)
    (reads_then weighting_lines (GoodWeighting form) (weighting_from form) weighting_key (λ c. tree_line (tree_key c) ∷ []) (IsCertOf form heads.Weighted) (λ w ls. first_by tree_of ls >>= λ t. Ok (certs.Weighted w t.0, t.1))
    (weighting_reads form)
    (λ w hw. reads_then (λ t. tree_line t ∷ []) (λ t. is_tree t ≡ true) (first_by tree_of) tree_key (λ c. []) (λ c. IsCertOf form heads.Weighted c × (weighting_key c ≡ w)) (λ t ls. Ok (certs.Weighted w t, ls))
    (by_line tree_line (λ t. is_tree t ≡ true) tree_of tree_reads (Leaf ∷ []) refl)
    (λ t ht. reads_none (λ c. (IsCertOf form heads.Weighted c × (weighting_key c ≡ w)) × (tree_key c ≡ t)) (certs.Weighted w t) (((rw (hw, ht) refl, refl), refl), refl) (weighted_is form w t))
    (λ c f. good_tree form c f.0.0))
    (λ c f. good_weighting form c f.0))
    (λ c f. f) (λ c f. f) texts (λ ls. refl)
  where
    texts : (c : Cert) → IsCertOf form heads.Weighted c → body_lines c ≡ weighting_lines (weighting_key c) ++ tree_line (tree_key c) ∷ []
    texts (certs.Weighted w t) f = refl
    texts (certs.Strip cs) f = let e = f.1 in absurd cc
    texts certs.GivenArea f = let e = f.1 in absurd cc

record InStrip (form : Form) (cs : List StripCut) : Type 0 where
  pub low : 2 ≤ length cs
  pub high : length cs ≤ most_cuts form
  pub all : list_all is_cut cs ≡ true

in_strip : (form : Form) (cs : List StripCut) → are_cuts form cs ≡ true → InStrip form cs
in_strip form cs f =
    let p = both_true (leb 2 (length cs)) (leb (length cs) (most_cuts form) && list_all is_cut cs) f in
    let q = both_true (leb (length cs) (most_cuts form)) (list_all is_cut cs) p.1 in
    record { low = leb-true 2 (length cs) p.0; high = leb-true (length cs) (most_cuts form) q.0; all = q.1 }

body_strip : (form : Form) (k : ℕ) → 2 ≤ k → k ≤ most_cuts form → Reads body_lines (IsCertOf form (heads.Strip k)) (body_of form (heads.Strip k))
unfolding body_of
body_strip form k low high =
    reads_as (λ c. cut_lines 0 (cuts_key c) ++ []) body_lines (IsCertOf form (heads.Strip k)) (IsCertOf form (heads.Strip k))
    (λ ls. cuts_from k 0 ls >>= λ cs. Ok (certs.Strip cs.0, cs.1)) (body_of form (heads.Strip k))
    (reads_then (λ cs. cut_lines 0 cs) (AreCuts k) (cuts_from k 0) cuts_key (λ c. []) (IsCertOf form (heads.Strip k)) (λ cs ls. Ok (certs.Strip cs, ls))
    (cuts_read k 0 (omega (arith, few_cuts form)))
    (λ cs f. reads_none (λ c. IsCertOf form (heads.Strip k) c × (cuts_key c ≡ cs)) (certs.Strip cs) ((made cs f, ap (λ (n : ℕ). heads.Strip n) f.0), refl) (one cs))
    keyed)
    (λ c f. f) (λ c f. f) texts (λ ls. refl)
  where
    made : (cs : List StripCut) → AreCuts k cs → are_cuts form cs ≡ true
    made cs f =
        let e = f.0 in
        rw (le-leb 2 (length cs) (omega arith), le-leb (length cs) (most_cuts form) (omega arith), f.1) refl

    one : (cs : List StripCut) (c : Cert) → IsCertOf form (heads.Strip k) c × (cuts_key c ≡ cs) → c ≡ certs.Strip cs
    one cs (certs.Weighted w t) f = let e = f.0.1 in absurd cc
    one cs (certs.Strip ds) f = ap (λ (xs : List StripCut). certs.Strip xs) f.1
    one cs certs.GivenArea f = let e = f.0.1 in absurd cc

    keyed : (c : Cert) → IsCertOf form (heads.Strip k) c → AreCuts k (cuts_key c)
    keyed (certs.Weighted w t) f = let e = f.1 in absurd cc
    keyed (certs.Strip ds) f = let e = f.1 in (cc, (in_strip form ds f.0).all)
    keyed certs.GivenArea f = let e = f.1 in absurd cc

    texts : (c : Cert) → IsCertOf form (heads.Strip k) c → body_lines c ≡ cut_lines 0 (cuts_key c) ++ []
    texts (certs.Weighted w t) f = let e = f.1 in absurd cc
    texts (certs.Strip ds) f = sym (append-nil (cut_lines 0 ds))
    texts certs.GivenArea f = refl

given_is : (form : Form) (c : Cert) → IsCertOf form heads.GivenArea c → c ≡ certs.GivenArea
given_is form (certs.Weighted w t) f = let e = f.1 in absurd cc
given_is form (certs.Strip cs) f = let e = f.1 in absurd cc
given_is form certs.GivenArea f = refl

body_given : (form : Form) → Reads body_lines (IsCertOf form heads.GivenArea) (body_of form heads.GivenArea)
unfolding body_of
body_given form =
    reads_as (λ c. []) body_lines (IsCertOf form heads.GivenArea) (IsCertOf form heads.GivenArea) (λ ls. Ok (certs.GivenArea, ls)) (body_of form heads.GivenArea)
    (reads_none (IsCertOf form heads.GivenArea) certs.GivenArea (refl, refl) (given_is form)) (λ c f. f) (λ c f. f) (λ c f. ap body_lines (given_is form c f)) (λ ls. refl)

body_reads : (form : Form) (h : Head) → GoodHead form h → Reads body_lines (IsCertOf form h) (body_of form h)
body_reads form heads.Weighted f = body_weighted form
body_reads form (heads.Strip k) f = body_strip form k f.low f.high
body_reads form heads.GivenArea f = body_given form

weighted_head : (form : Form) → GoodHead form heads.Weighted
weighted_head form = record { low = omega arith; high = some_cuts form }

given_head : (form : Form) → GoodHead form heads.GivenArea
given_head form = record { low = omega arith; high = some_cuts form }

good_head : (form : Form) (c : Cert) → InRange form c → GoodHead form (head_key c)
good_head form (certs.Weighted w t) f = weighted_head form
good_head form (certs.Strip cs) f = let s = in_strip form cs f in record { low = s.low; high = s.high }
good_head form certs.GivenArea f = given_head form

-- a certificate is read exactly
pub cert_reads : (form : Form) → Reads cert_lines (InRange form) (cert_at form)
unfolding cert_at cert_lines
cert_reads form =
    reads_as (λ c. spaced (head_words (head_key c)) ∷ body_lines c) cert_lines (InRange form) (InRange form)
    (λ ls. first_by (head_of form) ls >>= λ h. body_of form h.0 h.1) (cert_at form)
    (reads_then (λ h. spaced (head_words h) ∷ []) (GoodHead form) (first_by (head_of form)) head_key body_lines (InRange form) (body_of form)
    (by_line (λ h. spaced (head_words h)) (GoodHead form) (head_of form) (head_reads form) heads.GivenArea (given_head form))
    (body_reads form) (good_head form))
    (λ c f. f) (λ c f. f) texts (λ ls. refl)
  where
    texts : (c : Cert) → InRange form c → cert_lines c ≡ spaced (head_words (head_key c)) ∷ body_lines c
    texts (certs.Weighted w t) f = refl
    texts (certs.Strip cs) f = refl
    texts certs.GivenArea f = refl

-- ---- no line of a text has an end inside, and there are few

all_both : (P : List ℕ → Type 0) (xs ys : List (List ℕ)) → AllByRecursion P xs → AllByRecursion P ys → AllByRecursion P (xs ++ ys)
all_both P [] ys f g = g
all_both P (x ∷ xs) ys f g = (f.0, all_both P xs ys f.1 g)

cut_lines_plain : (h : ℕ) (cs : List StripCut) → h + length cs ≤ 9999999999 → list_all is_cut cs ≡ true → AllByRecursion IsPlain (cut_lines h cs)
cut_lines_plain h [] le f = tt
cut_lines_plain h (c ∷ cs) le f =
    let p = both_true (is_cut c) (list_all is_cut cs) f in
    (plain_spaced (cut_words h c) (cut_solid h c (omega arith) p.0), cut_lines_plain (h + 1) cs (omega arith) p.1)

pub cert_plain : (form : Form) (c : Cert) → InRange form c → AllByRecursion IsPlain (cert_lines c)
unfolding cert_lines
cert_plain form (certs.Weighted w t) f =
    let p = both_true (is_weighting form w) (is_tree t) f in
    (plain_spaced (head_words heads.Weighted) (head_solid form heads.Weighted (weighted_head form)), all_both IsPlain (weighting_lines w) (tree_line t ∷ []) (weighting_plain form w p.0) (tree_plain t, tt))
cert_plain form (certs.Strip cs) f =
    let s = in_strip form cs f in
    let high = s.high in
    (plain_spaced (head_words (heads.Strip (length cs))) (head_solid form (heads.Strip (length cs)) (record { low = s.low; high = s.high })), cut_lines_plain 0 cs (omega (arith, few_cuts form)) s.all)
cert_plain form certs.GivenArea f = (plain_spaced (head_words heads.GivenArea) (head_solid form heads.GivenArea (given_head form)), tt)

length-cut_lines : (h : ℕ) (cs : List StripCut) → length (cut_lines h cs) ≡ length cs
length-cut_lines h [] = refl
length-cut_lines h (c ∷ cs) = ap suc (length-cut_lines (h + 1) cs)

pub few_lines : (form : Form) (c : Cert) → InRange form c → length (cert_lines c) ≤ 4003
unfolding cert_lines
few_lines form (certs.Weighted w t) f =
    let p = both_true (is_weighting form w) (is_tree t) f in
    let rows = few_rows form w p.0 in
    omega (arith, length-append (rows_of w) (tree_line t ∷ []))
few_lines form (certs.Strip cs) f =
    let s = in_strip form cs f in
    let high = s.high in
    omega (arith, length-cut_lines 0 cs, few_cuts form)
few_lines form certs.GivenArea f = omega arith
