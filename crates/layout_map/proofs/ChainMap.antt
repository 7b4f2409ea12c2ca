use Rattle.std.proofs.Common.{◌≡◌, ℕ, ◌+◌, ◌*◌, ◌≤◌, ◌<◌, inl, inr, Bool, true, false, cond, eqb, ◌≢◌, List, length, get_or, refl, sym, ap, subst, arith}
use Rattle.std.proofs.lemmas.Bool.{eqb-true, eq-eqb}
use Rattle.std.specs.Prelude.{Contains}
use Rattle.std.proofs.lemmas.List.Elements.{Contains-get_or}
use Rattle.plan_geometry.specs.declared.spots.Way.{Way}
use Rattle.plan_geometry.specs.declared.spots.Way.TheVariants.{Lying, Standing}
use Rattle.plan_geometry.specs.declared.spots.Axis.{Axis}
use Rattle.plan_geometry.specs.declared.spots.Axis.TheVariants.{X, Y}
use Rattle.plan_geometry.specs.declared.spots.Spot.{Spot}
use Rattle.plan_geometry.specs.declared.instances.Inst.{Inst}
use Rattle.plan_geometry.specs.Layout.{side, extent, start, finish, IsLawfulWay, AreApart}
use Rattle.partitions.specs.Partitions.{SameSides, IsPartition, IsNormal}
use Rattle.partitions.proofs.SameSides.{same_along}
use Rattle.layout_map.specs.Chains.{Chain, IsGreatestChain, IsMoved, way_on, empty, link}
use Rattle.layout_map.specs.Laws.{ChainMapKeepsLayouts, ChainMapIsNormal}

-- a pair of numbers of case sides: within the edge in one instance, and the total in the other
pub record Pair (from to : Inst) (edge total : ℕ) : Type 0 where
  pub i : ℕ
  pub j : ℕ
  pub within : i * from.long + j * from.short ≤ edge
  pub sum : total ≡ i * to.long + j * to.short

-- one more case
pub pair_more : (a : Axis) (from to : Inst) (w : Way) (begin total edge : ℕ) → Pair from to begin total
    → begin + extent a from w ≤ edge → Pair from to edge (total + extent a to w)
pair_more X from to Lying begin total edge p h =
    let q = p.within in let s = p.sum in
    record { i = p.i + 1; j = p.j; within = omega arith; sum = omega arith }
pair_more X from to Standing begin total edge p h =
    let q = p.within in let s = p.sum in
    record { i = p.i; j = p.j + 1; within = omega arith; sum = omega arith }
pair_more Y from to Lying begin total edge p h =
    let q = p.within in let s = p.sum in
    record { i = p.i; j = p.j + 1; within = omega arith; sum = omega arith }
pair_more Y from to Standing begin total edge p h =
    let q = p.within in let s = p.sum in
    record { i = p.i + 1; j = p.j; within = omega arith; sum = omega arith }

-- the total of a chain is a pair that is within the edge
pub chain_pair : (a : Axis) (from to : Inst) (spots : List Spot) (edge total : ℕ)
    → Chain a from to spots edge total → Pair from to edge total
chain_pair a from to spots edge total (empty e) =
    record { i = 0; j = 0; within = omega arith; sum = omega arith }
chain_pair a from to spots edge total (link e t last m c h) =
    pair_more a from to last.way (start a last) t e (chain_pair a from to spots (start a last) t c) h

-- with equal sides both ways reach as far
pub extent_equal : (a : Axis) (to : Inst) → to.long ≡ to.short → extent a to Lying ≡ extent a to Standing
extent_equal X to e = e
extent_equal Y to e = sym e

pub extent_chosen : (a : Axis) (to : Inst) (b : Bool) → (b ≡ true → to.long ≡ to.short)
    → extent a to (cond b Lying Standing) ≡ extent a to Standing
extent_chosen a to true h = extent_equal a to (h refl)
extent_chosen a to false h = refl

-- the target's rule of writing does not change an extent
pub extent-way_on : (a : Axis) (to : Inst) (w : Way) → extent a to (way_on to w) ≡ extent a to w
extent-way_on a to Lying = refl
extent-way_on a to Standing =
    extent_chosen a to (eqb to.long to.short) (λ e. eqb-true to.long to.short e)

pub along : (a : Axis) (from to : Inst) (spots : List Spot) (s t : Spot) → IsMoved from to spots s t
    → IsGreatestChain a from to spots (start a s) (start a t)
along X from to spots s t m = m.to_x
along Y from to spots s t m = m.to_y

-- the new end of a case is at most the new side
pub end_within : (a : Axis) (from to : Inst) (spots : List Spot) (s t : Spot) → SameSides from to
    → IsMoved from to spots s t → finish a from s ≤ side a from → finish a to t ≤ side a to
end_within a from to spots s t same m h =
    let g = along a from to spots s t m in
    let p = pair_more a from to s.way (start a s) (start a t) (side a from) (chain_pair a from to spots (start a s) (start a t) g.reached) h in
    let f : IsPartition a to p.i p.j = (same_along a from to same p.i p.j).0 p.within in
    let e = extent-way_on a to s.way in
    let v : extent a to t.way ≡ extent a to (way_on to s.way) = ap (extent a to) m.way in
    let q = p.sum in
    omega (arith, e, v, q, f)

-- what is apart along an axis stays so
pub before_stays : (a : Axis) (from to : Inst) (spots : List Spot) (s t s' t' : Spot)
    → IsMoved from to spots s s' → IsMoved from to spots t t' → Contains spots s
    → finish a from s ≤ start a t → finish a to s' ≤ start a t'
before_stays a from to spots s t s' t' ms mt in' h =
    let gs = along a from to spots s s' ms in
    let gt = along a from to spots t t' mt in
    let c : Chain a from to spots (start a t) (start a s' + extent a to s.way) = link (start a t) (start a s') s in' gs.reached h in
    let bound = gt.greatest (start a s' + extent a to s.way) c in
    let e = extent-way_on a to s.way in
    let v : extent a to s'.way ≡ extent a to (way_on to s.way) = ap (extent a to) ms.way in
    omega (arith, e, v, bound)

pub apart_new : (from to : Inst) (spots : List Spot) (s t s' t' : Spot)
    → IsMoved from to spots s s' → IsMoved from to spots t t' → Contains spots s → Contains spots t
    → AreApart from s t → AreApart to s' t'
apart_new from to spots s t s' t' ms mt cs ct (inl h) = inl (before_stays X from to spots s t s' t' ms mt cs h)
apart_new from to spots s t s' t' ms mt cs ct (inr (inl h)) = inr (inl (before_stays X from to spots t s t' s' mt ms ct h))
apart_new from to spots s t s' t' ms mt cs ct (inr (inr (inl h))) = inr (inr (inl (before_stays Y from to spots s t s' t' ms mt cs h)))
apart_new from to spots s t s' t' ms mt cs ct (inr (inr (inr h))) = inr (inr (inr (before_stays Y from to spots t s t' s' mt ms ct h)))

-- a case that stands on the target has unequal sides there
lawful_chosen : (to : Inst) (b : Bool) → (b ≡ false → to.long ≢ to.short) → IsLawfulWay to (cond b Lying Standing)
lawful_chosen to true h e = cc
lawful_chosen to false h e = let ne = h refl in omega (arith, ne, to.sides.ordered)

pub lawful_new : (to : Inst) (w : Way) → IsLawfulWay to (way_on to w)
lawful_new to Lying e = cc
lawful_new to Standing e = lawful_chosen to (eqb to.long to.short) (λ f same. let t = eq-eqb to.long to.short same in cc) e

pub chain_map_law : ChainMapKeepsLayouts
chain_map_law from to spots new same layout m = record {
  inside = λ k d h.
      let at : k < length spots = omega (arith, m.count) in
      let moved = m.each k d d at in
      let was = layout.inside k d at in
      record {
        in_x = end_within X from to spots (get_or spots k d) (get_or new k d) same moved was.in_x;
        in_y = end_within Y from to spots (get_or spots k d) (get_or new k d) same moved was.in_y;
      };
  apart = λ i j d h k.
      let at_j : j < length spots = omega (arith, m.count) in
      let at_i : i < length spots = omega (arith, m.count) in
      apart_new from to spots (get_or spots i d) (get_or spots j d) (get_or new i d) (get_or new j d)
      (m.each i d d at_i) (m.each j d d at_j) (Contains-get_or spots i d at_i) (Contains-get_or spots j d at_j)
      (layout.apart i j d h at_j);
  lawful = λ k d h.
      let at : k < length spots = omega (arith, m.count) in
      subst (IsLawfulWay to) (sym (m.each k d d at).way) (lawful_new to (get_or spots k d).way);
}

-- the place of a case after the map onto its own instance
pub normal_along : (a : Axis) (inst : Inst) (spots : List Spot) (s t : Spot) → IsMoved inst inst spots s t
    → finish a inst s ≤ side a inst → IsNormal (side a inst) inst.long inst.short (start a t)
normal_along a inst spots s t m h =
    let p = chain_pair a inst inst spots (start a s) (start a t) (along a inst inst spots s t m).reached in
    let q = p.sum in let w = p.within in
    record { i = p.i; j = p.j; sum = q; within = omega (arith, q, w, h) }

pub normal_law : ChainMapIsNormal
normal_law inst spots new layout m = λ k d h.
    let at : k < length spots = omega (arith, m.count) in
    let moved = m.each k d d at in
    let was = layout.inside k d at in
    record {
      in_x = normal_along X inst spots (get_or spots k d) (get_or new k d) moved was.in_x;
      in_y = normal_along Y inst spots (get_or spots k d) (get_or new k d) moved was.in_y;
    }
