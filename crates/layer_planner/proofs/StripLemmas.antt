-- The strip bound of an instance is one number, which bounds its layouts; and each of its cuts has a text.
use Rattle.std.proofs.Common.{◌≡◌, ℕ, suc, Bool, true, false, ◌+◌, ◌*◌, ◌<◌, ◌≤◌, List, [], ◌∷◌, ◌++◌, length, get_or, ap, sym, subst, refl, ◌∙◌, arith, inl, inr}
use Rattle.std.specs.Prelude.{◌&&◌}
use Rattle.std.specs.List.{list_all}
use Rattle.std.proofs.lemmas.Bool.{cases_lt, le-leb}
use Rattle.std.proofs.lemmas.Grind.{same_number_lists}
use Rattle.std.proofs.lemmas.List.Folds.{list_all-append}
use Rattle.std.proofs.lemmas.List.Sums.{AllPass-from_list_all, list_all-from_AllPass}
use Rattle.std.proofs.lemmas.List.Elements.{All-from_get_or}
use Rattle.std.proofs.Math.Nat.{mul-le-mul}
use Rattle.plan_geometry.specs.declared.spots.Axis.{Axis}
use Rattle.plan_geometry.specs.declared.spots.Axis.TheVariants.{X, Y}
use Rattle.plan_geometry.specs.declared.spots.Way.TheVariants.{Lying, Standing}
use Rattle.plan_geometry.specs.declared.instances.Inst.{Inst}
use Rattle.plan_geometry.specs.Layout.{IsBounded}
use Rattle.weightings.specs.declared.certs.StripCut.{StripCut}
use Rattle.weightings.specs.declared.certs.StripCut.TheVariants.{Area}
use Rattle.strip_cuts.specs.Cuts.{IsGreatest, cases_of}
use Rattle.strip_cuts.proofs.Bounds.{lie_or_stand, meet_cuts}
use Rattle.strip_cuts.proofs.BestValues.{greatest-one, partition-small}
use Rattle.strip_bound.specs.Firsts.{MeetsAll}
use Rattle.strip_bound.specs.CutLists.{AreShorts, Counts, beside, each_two, counts_of, line_cut, IsLineCut, AreLineCuts, AreAxisCuts, AreCuts, IsStripBoundOf, IsStripOf}
use Rattle.strip_bound.proofs.ListSteps.{cuts-true}
use Rattle.cert_text.specs.declared.forms.Form.TheVariants.{Two}
use Rattle.cert_text.specs.Ranges.{is_cut, are_cuts}

-- ---- one list of cuts

shorts-within : (axis : Axis) (I : Inst) (s t : List ℕ) → AreShorts axis I s → AreShorts axis I t → (k : ℕ) → k < length s → (k < length t) × (get_or t k 0 ≡ get_or s k 0)
shorts-within axis I s t a b k lt = b.all k (get_or s k 0) (a.each k lt)

shorts-length : (axis : Axis) (I : Inst) (s t : List ℕ) → AreShorts axis I s → AreShorts axis I t → length s ≤ length t
shorts-length axis I s t a b =
    elim (cases_lt (length t) (length s)) [
      | inl lt ↦ (let x = shorts-within axis I s t a b (length t) lt in absurd (omega (arith, x.0)))
      | inr ge ↦ ge
    ]

shorts-same : (axis : Axis) (I : Inst) (s t : List ℕ) → AreShorts axis I s → AreShorts axis I t → s ≡ t
shorts-same axis I s t a b =
    same_number_lists s t (omega (arith, shorts-length axis I s t a b, shorts-length axis I t s b a)) (λ k lt. sym (shorts-within axis I s t a b k lt).1)

line-same : (axis : Axis) (I : Inst) (n : Counts) (c d : StripCut) → IsLineCut axis I n c → IsLineCut axis I n d → c ≡ d
line-same axis I n c d a b = a.is ∙ (ap (line_cut axis n) (greatest-one axis I n.a n.b a.q b.q a.greatest b.greatest) ∙ sym b.is)

lines-same : (axis : Axis) (I : Inst) (ns : List Counts) (cs ds : List StripCut) → AreLineCuts axis I ns cs → AreLineCuts axis I ns ds → cs ≡ ds
lines-same axis I [] [] [] a b = refl
lines-same axis I [] [] (d ∷ ds) a b = absurd b
lines-same axis I [] (c ∷ cs) ds a b = absurd a
lines-same axis I (n ∷ ns) [] ds a b = absurd a
lines-same axis I (n ∷ ns) (c ∷ cs) [] a b = absurd b
lines-same axis I (n ∷ ns) (c ∷ cs) (d ∷ ds) a b =
    ap (λ x. x ∷ cs) (line-same axis I n c d a.0 b.0) ∙ ap (λ l. d ∷ l) (lines-same axis I ns cs ds a.1 b.1)

axis-same : (axis : Axis) (I : Inst) (cs ds : List StripCut) → AreAxisCuts axis I cs → AreAxisCuts axis I ds → cs ≡ ds
axis-same axis I cs ds a b =
    let e : a.shorts ≡ b.shorts = shorts-same axis I a.shorts b.shorts a.are_shorts b.are_shorts in
    lines-same axis I (counts_of b.shorts) cs ds (subst (λ s. AreLineCuts axis I (counts_of s) cs) e a.are_cuts) b.are_cuts

cuts-same : (I : Inst) (cs ds : List StripCut) → AreCuts I cs → AreCuts I ds → cs ≡ ds
cuts-same I cs ds a b =
    let x : a.along_x ≡ b.along_x = axis-same X I a.along_x b.along_x a.in_x b.in_x in
    let y : a.along_y ≡ b.along_y = axis-same Y I a.along_y b.along_y a.in_y b.in_y in
    a.all ∙ (ap (λ l. Area ∷ (l ++ a.along_y)) x ∙ (ap (λ l. Area ∷ (b.along_x ++ l)) y ∙ sym b.all))

-- ---- one strip bound

pub strip-one : (I : Inst) (m n : ℕ) → IsStripBoundOf I m → IsStripBoundOf I n → m ≤ n
strip-one I m n a b =
    let r = a.is_bound.reached in
    let e : a.cuts ≡ b.cuts = cuts-same I a.cuts b.cuts a.are_cuts b.are_cuts in
    let l = b.is_bound.most r.h r.v (subst (λ cs. MeetsAll I cs r.h r.v) e r.admitted) in
    omega (arith, l, r.reached)

pub strip-bounds : (I : Inst) (n : ℕ) → IsStripBoundOf I n → IsBounded I n
strip-bounds I n b = λ spots layout.
    let meets : MeetsAll I b.cuts (cases_of Lying spots) (cases_of Standing spots) =
    λ k lt. meet_cuts I (get_or b.cuts k Area) spots (cuts-true I b.cuts b.are_cuts k lt) layout in
    let l = b.is_bound.most (cases_of Lying spots) (cases_of Standing spots) meets in
    omega (arith, l, lie_or_stand spots)

-- ---- each cut has a text

both : (a b : Bool) → a ≡ true → b ≡ true → (a && b) ≡ true
both true true p q = refl
both true false p q = q
both false b p q = p

value-small : (a b i j : ℕ) → a ≤ 4000 → b ≤ 4000 → i ≤ 4000 → j ≤ 4000 → a * i + b * j ≤ 32000000
value-small a b i j p q r s = let x = mul-le-mul p r in let y = mul-le-mul q s in omega (arith, x, y)

greatest-few : (axis : Axis) (I : Inst) (a b q : ℕ) → a ≤ 4000 → b ≤ 4000 → IsGreatest axis I a b q → q ≤ 9999999999
greatest-few axis I a b q x y g =
    let f = partition-small axis I g.i g.j g.feasible in
    let v = value-small a b g.i g.j x y f.0 f.1 in
    omega (arith, v, g.reached)

line-text : (axis : Axis) (n : Counts) (q : ℕ) → n.a ≤ 4000 → n.b ≤ 4000 → q ≤ 9999999999 → is_cut (line_cut axis n q) ≡ true
line-text X n q x y z = both _ _ (le-leb n.a 4000 x) (both _ _ (le-leb n.b 4000 y) (le-leb q 9999999999 z))
line-text Y n q x y z = both _ _ (le-leb n.a 4000 x) (both _ _ (le-leb n.b 4000 y) (le-leb q 9999999999 z))

abbrev AreFewCounts : List Counts → Type 0
AreFewCounts [] = Unit {0}
AreFewCounts (n ∷ ns) = (n.a ≤ 4000) × (n.b ≤ 4000) × AreFewCounts ns

lines-text : (axis : Axis) (I : Inst) (ns : List Counts) (cs : List StripCut) → AreFewCounts ns → AreLineCuts axis I ns cs → list_all is_cut cs ≡ true
lines-text axis I [] [] f a = refl
lines-text axis I [] (c ∷ cs) f a = absurd a
lines-text axis I (n ∷ ns) [] f a = absurd a
lines-text axis I (n ∷ ns) (c ∷ cs) f a =
    let l = a.0 in
    let here : is_cut c ≡ true = ap is_cut l.is ∙ line-text axis n l.q f.0 f.1 (greatest-few axis I n.a n.b l.q f.0 f.1 l.greatest) in
    both _ _ here (lines-text axis I ns cs f.2 a.1)

abbrev AreFew : List ℕ → Type 0
AreFew [] = Unit {0}
AreFew (x ∷ xs) = (x ≤ 4000) × AreFew xs

few-each : (xs : List ℕ) → ((k : ℕ) → k < length xs → get_or xs k 0 ≤ 4000) → AreFew xs
few-each [] h = tt
few-each (x ∷ xs) h = (h 0 (omega arith), few-each xs (λ k lt. h (suc k) (omega arith)))

few-join : (ns ms : List Counts) → AreFewCounts ns → AreFewCounts ms → AreFewCounts (ns ++ ms)
few-join [] ms f g = g
few-join (n ∷ ns) ms f g = (f.0, f.1, few-join ns ms f.2 g)

few-beside : (j d : ℕ) (later : List ℕ) → j ≤ 4000 → d + length later ≤ 4001 → AreFewCounts (beside j d later)
few-beside j d [] p q = tt
few-beside j d (k ∷ later) p q = (omega arith, omega arith, few-beside j (d + 1) later p (omega arith))

few-each_two : (xs : List ℕ) → AreFew xs → length xs ≤ 4001 → AreFewCounts (each_two xs)
few-each_two [] f l = tt
few-each_two (j ∷ later) f l = few-join (beside j 1 later) (each_two later) (few-beside j 1 later f.0 (omega arith)) (few-each_two later f.1 (omega arith))

few-shorts : (axis : Axis) (I : Inst) (s : List ℕ) → AreShorts axis I s → AreFewCounts (counts_of s)
few-shorts axis I s a =
    let small : (k : ℕ) → k < length s → (k ≤ 4000) × (get_or s k 0 ≤ 4000) = λ k lt. partition-small axis I k (get_or s k 0) (a.each k lt).feasible in
    let short : length s ≤ 4001 =
    elim (cases_lt 4001 (length s)) [
      | inl lt ↦ (let x = small 4001 lt in absurd (omega (arith, x.0)))
      | inr ge ↦ ge
    ] in
    (omega arith, omega arith, (omega arith, omega arith, few-each_two s (few-each s (λ k lt. (small k lt).1)) short))

axis-text : (axis : Axis) (I : Inst) (cs : List StripCut) → AreAxisCuts axis I cs → list_all is_cut cs ≡ true
axis-text axis I cs a = lines-text axis I (counts_of a.shorts) cs (few-shorts axis I a.shorts a.are_shorts) a.are_cuts

cuts-text : (I : Inst) (cs : List StripCut) → AreCuts I cs → list_all is_cut cs ≡ true
cuts-text I cs a =
    subst (λ l. list_all is_cut l ≡ true) (sym a.all)
    (list_all-append is_cut a.along_x a.along_y ∙ both _ _ (axis-text X I a.along_x a.in_x) (axis-text Y I a.along_y a.in_y))

-- the certificate of the strip bound has a text
pub strip-text : (I : Inst) (table : List StripCut) → IsStripOf I table → 2 ≤ length table → length table ≤ 1002 → are_cuts Two table ≡ true
strip-text I table s some few =
    let t = s.is_strip.is_table in
    let all = AllPass-from_list_all is_cut s.cuts (cuts-text I s.cuts s.are_cuts) in
    let each : (k : ℕ) → k < length table → is_cut (get_or table k Area) ≡ true =
    λ k lt. (let f = t.each k (omega (arith, lt, t.count)) in subst (λ c. is_cut c ≡ true) f.here (all f.place Area f.within)) in
    both _ _ (le-leb 2 (length table) some) (both _ _ (le-leb (length table) 1002 few)
    (list_all-from_AllPass is_cut table (All-from_get_or (λ c. is_cut c ≡ true) table Area each)))
