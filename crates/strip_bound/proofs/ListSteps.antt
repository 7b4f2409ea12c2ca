-- Cuts put behind others, in order.
use Rattle.std.proofs.Common.{◌≡◌, ℕ, zero, suc, ◌+◌, ◌-◌, ◌/◌, ◌<◌, ◌≤◌, inl, inr, List, [], ◌∷◌, ◌++◌, length, get_or, drop, arith, subst, sym, refl, ap, ◌∙◌, append_assoc}
use Rattle.std.proofs.lemmas.Bool.{cases_lt}
use Rattle.std.proofs.lemmas.List.{drop_more, drop_all}
use Rattle.std.proofs.lemmas.Nat.{mul-le}
use Rattle.plan_geometry.specs.declared.instances.Inst.{Inst}
use Rattle.plan_geometry.specs.declared.spots.Axis.{Axis}
use Rattle.plan_geometry.specs.declared.spots.Axis.TheVariants.{X, Y}
use Rattle.plan_geometry.specs.Layout.{side}
use Rattle.partitions.specs.Partitions.{IsPartition, IsMaximal}
use Rattle.partitions.proofs.Pairs.{row_below}
use Rattle.weightings.specs.declared.certs.StripCut.{StripCut}
use Rattle.weightings.specs.declared.certs.StripCut.TheVariants.{Area}
use Rattle.strip_cuts.specs.Cuts.{IsTrueCut}
use Rattle.strip_bound.specs.Firsts.{AreTrue}
use Rattle.strip_bound.specs.CutLists.{AreShorts, Counts, beside, each_two, counts_of, IsLineCut, AreLineCuts, AreCuts}
use Rattle.strip_bound.specs.Kept.{StandsFor, Adds, AddsAxis, IsKept}
use Rattle.strip_bound.proofs.Keeping.{stands-none, stands-push, stands-skip}

append-none : {T : Type 0} (xs : List T) → xs ++ [] ≡ xs
append-none [] = refl
append-none (x ∷ xs) = ap (λ ys. x ∷ ys) (append-none xs)

lines-join : (axis : Axis) (I : Inst) (ns ms : List Counts) (cs ds : List StripCut) → AreLineCuts axis I ns cs → AreLineCuts axis I ms ds → AreLineCuts axis I (ns ++ ms) (cs ++ ds)
lines-join axis I [] ms [] ds a b = b
lines-join axis I [] ms (c ∷ cs) ds a b = absurd a
lines-join axis I (n ∷ ns) ms [] ds a b = absurd a
lines-join axis I (n ∷ ns) ms (c ∷ cs) ds a b = (a.0, lines-join axis I ns ms cs ds a.1 b)

line-true : (axis : Axis) (I : Inst) (n : Counts) (c : StripCut) → IsLineCut axis I n c → IsTrueCut I c
line-true X I n c x = subst (λ d. IsTrueCut I d) (sym x.is) x.greatest
line-true Y I n c x = subst (λ d. IsTrueCut I d) (sym x.is) x.greatest

pub adds-join : (axis : Axis) (I : Inst) (ns ms : List Counts) (a b c : List StripCut) → Adds axis I ns a b → Adds axis I ms b c → Adds axis I (ns ++ ms) a c
adds-join axis I ns ms a b c x y = record {
  more = x.more ++ y.more;
  are_cuts = lines-join axis I ns ms x.more y.more x.are_cuts y.are_cuts;
  stands = λ all s. subst (λ zs. StandsFor I zs c) (append_assoc all x.more y.more) (y.stands (all ++ x.more) (x.stands all s));
}

pub adds-none : (axis : Axis) (I : Inst) (a : List StripCut) → Adds axis I [] a a
adds-none axis I a = record {
  more = [];
  are_cuts = tt;
  stands = λ all s. subst (λ zs. StandsFor I zs a) (sym (append-none all)) s;
}

pub adds-one : (axis : Axis) (I : Inst) (n : Counts) (c : StripCut) (a b : List StripCut) → IsLineCut axis I n c → b ≡ a ++ c ∷ [] → Adds axis I (n ∷ []) a b
adds-one axis I n c a b x e = record {
  more = c ∷ [];
  are_cuts = (x, tt);
  stands = λ all s. subst (λ zs. StandsFor I (all ++ c ∷ []) zs) (sym e) (stands-push I all a c (line-true axis I n c x) s);
}

pub adds-kept : (axis : Axis) (I : Inst) (n : Counts) (a : List StripCut) → IsKept axis I n a → Adds axis I (n ∷ []) a a
adds-kept axis I n a x = record {
  more = get_or a x.place Area ∷ [];
  are_cuts = (x.is_cut, tt);
  stands = λ all s. stands-skip I all a x.place x.within s;
}

-- the cuts of some of all counts are put behind; these are left
pub record Left (axis : Axis) (I : Inst) (all left : List Counts) (old cur : List StripCut) : Type 0 where
  pub done : List Counts
  pub split : all ≡ done ++ left
  pub adds : Adds axis I done old cur

pub left-start : (axis : Axis) (I : Inst) (all : List Counts) (old : List StripCut) → Left axis I all all old old
left-start axis I all old = record { done = []; split = refl; adds = adds-none axis I old }

pub left-more :
    (axis : Axis) (I : Inst) (all left some rest : List Counts) (old cur new : List StripCut)
    → Left axis I all left old cur
    → left ≡ some ++ rest
    → Adds axis I some cur new
    → Left axis I all rest old new
left-more axis I all left some rest old cur new l e a = record {
  done = l.done ++ some;
  split = l.split ∙ (ap (λ xs. l.done ++ xs) e ∙ sym (append_assoc l.done some rest));
  adds = adds-join axis I l.done some old cur new l.adds a;
}

pub left-end : (axis : Axis) (I : Inst) (all left : List Counts) (old cur : List StripCut) → Left axis I all left old cur → left ≡ [] → Adds axis I all old cur
left-end axis I all left old cur l e =
    let same : all ≡ l.done = l.split ∙ (ap (λ xs. l.done ++ xs) e ∙ append-none l.done) in
    subst (λ xs. Adds axis I xs old cur) (sym same) l.adds

-- the counts beside a partition, from place k of the list on
pub beside-next : (j d k : ℕ) (xs : List ℕ) → k < length xs → beside j d (drop k xs) ≡ (record { a = j - get_or xs k 0; b = d }) ∷ beside j (d + 1) (drop (k + 1) xs)
beside-next j d k xs lt = ap (λ ys. beside j d ys) (drop_more xs k 0 lt)

pub beside-end : (j d k : ℕ) (xs : List ℕ) → length xs ≤ k → beside j d (drop k xs) ≡ []
beside-end j d k xs le = ap (λ ys. beside j d ys) (drop_all k xs le)

pub two-next : (k : ℕ) (xs : List ℕ) → k < length xs → each_two (drop k xs) ≡ beside (get_or xs k 0) 1 (drop (k + 1) xs) ++ each_two (drop (k + 1) xs)
two-next k xs lt = ap (λ ys. each_two ys) (drop_more xs k 0 lt)

pub two-end : (k : ℕ) (xs : List ℕ) → length xs ≤ k → each_two (drop k xs) ≡ []
two-end k xs le = ap (λ ys. each_two ys) (drop_all k xs le)

-- the most short case sides beside k long ones
pub record IsMost (axis : Axis) (I : Inst) (k j : ℕ) : Type 0 where
  pub feasible : IsPartition axis I k j
  pub most : (m : ℕ) → IsPartition axis I k m → m ≤ j

pub shorts-are :
    (axis : Axis) (I : Inst) (xs : List ℕ)
    → side axis I / I.long + 1 ≤ length xs
    → ((k : ℕ) → k < length xs → IsMost axis I k (get_or xs k 0))
    → AreShorts axis I xs
shorts-are axis I xs long_enough each = record {
  each = λ i lt. maximal i (get_or xs i 0) (each i lt);
  all = λ i j m.
      let few : i ≤ side axis I / I.long =
      row_below (side axis I) I.long I.short i j (omega (arith, I.sides.short_min, I.sides.ordered)) m.feasible in
      let lt : i < length xs = omega arith in
      (lt, one i j (get_or xs i 0) m (each i lt));
}
  where
    maximal : (i j : ℕ) → IsMost axis I i j → IsMaximal (side axis I) I.long I.short i j
    maximal i j m = record {
      feasible = m.feasible;
      i_full = λ f. let le = m.most (j + 1) (omega (arith, f, I.sides.ordered)) in omega (arith, le);
      j_full = λ f. let le = m.most (j + 1) f in omega (arith, le);
    }

    one : (i j most : ℕ) → IsMaximal (side axis I) I.long I.short i j → IsMost axis I i most → most ≡ j
    one i j most m h =
        let le : j ≤ most = h.most j m.feasible in
        elim (cases_lt j most) [
          | inl lt ↦
              let p = mul-le (j + 1) I.short most I.short (omega arith) (omega arith) in
              absurd (m.j_full (omega (arith, p, h.feasible)))
          | inr ge ↦ omega arith
        ]

lines-true : (axis : Axis) (I : Inst) (ns : List Counts) (cs : List StripCut) → AreLineCuts axis I ns cs → AreTrue I cs
lines-true axis I [] [] a k lt = absurd (omega arith)
lines-true axis I [] (c ∷ cs) a k lt = absurd a
lines-true axis I (n ∷ ns) [] a k lt = absurd a
lines-true axis I (n ∷ ns) (c ∷ cs) a zero lt = line-true axis I n c a.0
lines-true axis I (n ∷ ns) (c ∷ cs) a (suc k) lt = lines-true axis I ns cs a.1 k (omega arith)

true-join : (I : Inst) (cs ds : List StripCut) → AreTrue I cs → AreTrue I ds → AreTrue I (cs ++ ds)
true-join I [] ds a b k lt = b k lt
true-join I (c ∷ cs) ds a b zero lt = a 0 (omega arith)
true-join I (c ∷ cs) ds a b (suc k) lt = true-join I cs ds (λ j l. a (suc j) (omega arith)) b k (omega arith)

pub cuts-true : (I : Inst) (cs : List StripCut) → AreCuts I cs → AreTrue I cs
cuts-true I cs a =
    subst (λ xs. AreTrue I xs) (sym a.all)
    (true-join I (Area ∷ []) (a.along_x ++ a.along_y) (λ k lt. area k)
    (true-join I a.along_x a.along_y (lines-true X I (counts_of a.in_x.shorts) a.along_x a.in_x.are_cuts) (lines-true Y I (counts_of a.in_y.shorts) a.along_y a.in_y.are_cuts)))
  where
    area : (k : ℕ) → IsTrueCut I (get_or (Area ∷ []) k Area)
    area zero = tt
    area (suc k) = tt

pub cuts-some : (I : Inst) (cs : List StripCut) → AreCuts I cs → 0 < length cs
cuts-some I cs a = subst (λ xs. 0 < length xs) (sym a.all) (omega arith)

pub cuts-first : (I : Inst) (cs : List StripCut) → AreCuts I cs → get_or cs 0 Area ≡ Area
cuts-first I cs a = ap (λ xs. get_or xs 0 Area) a.all

-- the cuts of an axis are those of its two single counts and of each two partitions
pub adds-axis :
    (axis : Axis) (I : Inst) (xs : List ℕ) (a b : List StripCut)
    → AreShorts axis I xs
    → Adds axis I (counts_of xs) a b
    → AddsAxis axis I a b
adds-axis axis I xs a b shorts x = record {
  more = x.more;
  are_cuts = record { shorts = xs; are_shorts = shorts; are_cuts = x.are_cuts };
  stands = x.stands;
}

pub cuts-all :
    (I : Inst) (xs ys zs : List StripCut)
    → xs ≡ Area ∷ []
    → AddsAxis X I xs ys
    → AddsAxis Y I ys zs
    → (all : List StripCut) × AreCuts I all × StandsFor I all zs
cuts-all I xs ys zs e x y =
    let area : StandsFor I ([] ++ Area ∷ []) ([] ++ Area ∷ []) = stands-push I [] [] Area tt (stands-none I) in
    let first : StandsFor I (Area ∷ []) xs = subst (λ cs. StandsFor I (Area ∷ []) cs) (sym e) area in (
      ((Area ∷ []) ++ x.more) ++ y.more,
      record {
        along_x = x.more;
        along_y = y.more;
        in_x = x.are_cuts;
        in_y = y.are_cuts;
        all = append_assoc (Area ∷ []) x.more y.more;
      },
      y.stands ((Area ∷ []) ++ x.more) (x.stands (Area ∷ []) first),
    )
