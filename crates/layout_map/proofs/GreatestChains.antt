use Rattle.std.proofs.Common.{◌≡◌, ℕ, suc, zero, ◌+◌, ◌*◌, ◌≤◌, ◌<◌, ◌⊎◌, inl, inr, List, length, get_or, map, refl, sym, ap, add-one, ◌∙◌, subst, arith}
use Rattle.std.proofs.lemmas.Bool.{cases_lt}
use Rattle.std.proofs.lemmas.List.{get_or_default, get_or-map, length-map, same_lists}
use Rattle.std.proofs.lemmas.List.Elements.{Contains-get_or}
use Rattle.plan_geometry.specs.declared.spots.Way.{Way}
use Rattle.plan_geometry.specs.declared.spots.Way.TheVariants.{Lying, Standing}
use Rattle.plan_geometry.specs.declared.spots.Axis.{Axis}
use Rattle.plan_geometry.specs.declared.spots.Axis.TheVariants.{X, Y}
use Rattle.plan_geometry.specs.declared.spots.Spot.{Spot}
use Rattle.plan_geometry.specs.declared.instances.Inst.{Inst}
use Rattle.plan_geometry.specs.Layout.{extent, start, finish}
use Rattle.layout_map.specs.Chains.{Chain, IsGreatestChain, IsMoved, way_on, empty, link}
use Rattle.layout_map.specs.Laws.{ChainMapExists, ChainMapIsOne}

-- a case reaches at least one unit along each axis
pub extent_positive : (a : Axis) (inst : Inst) (w : Way) → 1 ≤ extent a inst w
extent_positive X inst Lying = let p = inst.sides.short_min in let q = inst.sides.ordered in omega arith
extent_positive X inst Standing = inst.sides.short_min
extent_positive Y inst Lying = inst.sides.short_min
extent_positive Y inst Standing = let p = inst.sides.short_min in let q = inst.sides.ordered in omega arith

pub extent_limited : (a : Axis) (inst : Inst) (w : Way) → extent a inst w ≤ 4000
extent_limited X inst Lying = inst.sides.long_max
extent_limited X inst Standing = let p = inst.sides.long_max in let q = inst.sides.ordered in omega arith
extent_limited Y inst Lying = let p = inst.sides.long_max in let q = inst.sides.ordered in omega arith
extent_limited Y inst Standing = inst.sides.long_max

-- a chain has at most one case for each unit before its edge
pub chain_bound : (a : Axis) (from to : Inst) (spots : List Spot) (edge total : ℕ)
    → Chain a from to spots edge total → total ≤ edge * 4000
chain_bound a from to spots edge total (empty e) = omega arith
chain_bound a from to spots edge total (link e t last m c h) =
    let before = chain_bound a from to spots (start a last) t c in
    let one = extent_positive a from last.way in
    let most = extent_limited a to last.way in
    omega (arith, before, one, most, h)

-- the greatest total of a chain before an edge whose last case is among the first `count`
pub record BestAmong (a : Axis) (from to : Inst) (spots : List Spot) (edge count total : ℕ) : Type 0 where
  pub reached : Chain a from to spots edge total
  pub greatest : (k t : ℕ) (d : Spot) → k < count → k < length spots
      → Chain a from to spots (start a (get_or spots k d)) t
      → finish a from (get_or spots k d) ≤ edge
      → t + extent a to (get_or spots k d).way ≤ total

pub best_none : (a : Axis) (from to : Inst) (spots : List Spot) (edge : ℕ) → BestAmong a from to spots edge 0 0
best_none a from to spots edge = record {
  reached = empty edge;
  greatest = λ k t d below in' c h. absurd (omega arith);
}

-- the next case ends after the edge
pub best_beyond : (a : Axis) (from to : Inst) (spots : List Spot) (edge count total : ℕ) (d : Spot)
    → count < length spots → BestAmong a from to spots edge count total
    → edge < finish a from (get_or spots count d) → BestAmong a from to spots edge (count + 1) total
best_beyond a from to spots edge count total d at best h = record {
  reached = best.reached;
  greatest = λ k t e below in' c f. elim (cases_lt k count) [
    | inl lt ↦ best.greatest k t e lt in' c f
    | inr ge ↦
        let same : k ≡ count = omega arith in
        let g : get_or spots k e ≡ get_or spots count d = ap (λ n. get_or spots n e) same ∙ get_or_default spots count e d at in
        let v : finish a from (get_or spots k e) ≡ finish a from (get_or spots count d) = ap (finish a from) g in
        absurd (omega (arith, v, f, h))
  ];
}

-- the next case ends a chain of `before + extent`, and `total` is the greater of the two
pub best_within : (a : Axis) (from to : Inst) (spots : List Spot) (edge count total before larger : ℕ) (d : Spot)
    → count < length spots → BestAmong a from to spots edge count total
    → IsGreatestChain a from to spots (start a (get_or spots count d)) before
    → finish a from (get_or spots count d) ≤ edge
    → total ≤ larger → before + extent a to (get_or spots count d).way ≤ larger
    → ((larger ≡ total) ⊎ (larger ≡ before + extent a to (get_or spots count d).way))
    → BestAmong a from to spots edge (count + 1) larger
best_within a from to spots edge count total before larger d at best g within above reach which = record {
  reached = elim which [
    | inl e ↦ subst (Chain a from to spots edge) (sym e) best.reached
    | inr e ↦ subst (Chain a from to spots edge) (sym e)
        (link edge before (get_or spots count d) (Contains-get_or spots count d at) g.reached within)
  ];
  greatest = λ k t e below in' c f. elim (cases_lt k count) [
    | inl lt ↦ let b = best.greatest k t e lt in' c f in omega (arith, b, above)
    | inr ge ↦
        let same : k ≡ count = omega arith in
        let r : get_or spots k e ≡ get_or spots count d = ap (λ n. get_or spots n e) same ∙ get_or_default spots count e d at in
        let c' : Chain a from to spots (start a (get_or spots count d)) t = subst (λ (s : Spot). Chain a from to spots (start a s) t) r c in
        let u = g.greatest t c' in
        let v : extent a to (get_or spots k e).way ≡ extent a to (get_or spots count d).way = ap (λ (s : Spot). extent a to s.way) r in
        omega (arith, u, v, reach)
  ];
}

-- the best over all cases is the best of all
pub best_all : (a : Axis) (from to : Inst) (spots : List Spot) (edge total : ℕ)
    → BestAmong a from to spots edge (length spots) total → IsGreatestChain a from to spots edge total
best_all a from to spots edge total best = record {
  reached = best.reached;
  greatest = λ other c. below other c;
} where
  below : (other : ℕ) → Chain a from to spots edge other → other ≤ total
  below other (empty e) = omega arith
  below other (link e t last (k, in', is) c h) =
      let c' : Chain a from to spots (start a (get_or spots k last)) t = subst (λ (s : Spot). Chain a from to spots (start a s) t) (sym is) c in
      let v : finish a from (get_or spots k last) ≡ finish a from last = ap (finish a from) is in
      let w : extent a to (get_or spots k last).way ≡ extent a to last.way = ap (λ (s : Spot). extent a to s.way) is in
      let b = best.greatest k t last in' in' c' (omega (arith, v, h)) in
      omega (arith, b, w)

abbrev pub corner : Spot
corner = record { x = 0; y = 0; way = Lying }

-- a table of the greatest totals for the smaller edges gives the next one
module _ (a : Axis) (from to : Inst) (spots : List Spot) (edge : ℕ)
    (smaller : (e : ℕ) → e < edge → (total : ℕ) × IsGreatestChain a from to spots e total) where
  pub best_upto : (count : ℕ) → count ≤ length spots → (total : ℕ) × BestAmong a from to spots edge count total
  best_upto zero h = (0, best_none a from to spots edge)
  best_upto (suc count) h =
      let at : count < length spots = omega arith in
      let so_far = best_upto count (omega arith) in
      next count at so_far.0 so_far.1
    where
      next : (count : ℕ) → count < length spots → (total : ℕ) → BestAmong a from to spots edge count total
          → (larger : ℕ) × BestAmong a from to spots edge (suc count) larger
      next count at total best =
          let s : Spot = get_or spots count corner in
          elim (cases_lt edge (finish a from s)) [
            | inl beyond ↦ (total, rw add-one at (best_beyond a from to spots edge count total corner at best beyond))
            | inr within ↦
                let long_enough = extent_positive a from s.way in
                let b = smaller (start a s) (omega (arith, within, long_enough)) in
                elim (cases_lt (b.0 + extent a to s.way) total) [
                  | inl less ↦ (total, rw add-one at (best_within a from to spots edge count total b.0 total corner at best b.1 within (omega arith) (omega arith) (inl refl)))
                  | inr more ↦ (b.0 + extent a to s.way, rw add-one at (best_within a from to spots edge count total b.0 (b.0 + extent a to s.way) corner at best b.1 within (omega arith) (omega arith) (inr refl)))
                ]
          ]

pub best_exists : (a : Axis) (from to : Inst) (spots : List Spot) (n edge : ℕ) → edge < n
    → (total : ℕ) × IsGreatestChain a from to spots edge total
best_exists a from to spots zero edge h = absurd (omega arith)
best_exists a from to spots (suc n) edge h =
    let all = best_upto a from to spots edge (λ e l. best_exists a from to spots n e (omega arith)) (length spots) (omega arith) in
    (all.0, best_all a from to spots edge all.0 all.1)

pub moved_spot : (from to : Inst) (spots : List Spot) → Spot → Spot
unfolding best_exists
moved_spot from to spots s = record {
  x = (best_exists X from to spots (suc s.x) s.x (omega arith)).0;
  y = (best_exists Y from to spots (suc s.y) s.y (omega arith)).0;
  way = way_on to s.way;
}

pub moved_spot_is : (from to : Inst) (spots : List Spot) (s : Spot) → IsMoved from to spots s (moved_spot from to spots s)
unfolding moved_spot
moved_spot_is from to spots s = record {
  to_x = (best_exists X from to spots (suc s.x) s.x (omega arith)).1;
  to_y = (best_exists Y from to spots (suc s.y) s.y (omega arith)).1;
  way = refl;
}

pub chain_map_exists : ChainMapExists
chain_map_exists from to spots = (
  map (moved_spot from to spots) spots,
  record {
    count = length-map spots (moved_spot from to spots);
    each = λ k d e h. subst (IsMoved from to spots (get_or spots k d)) (sym (get_or-map (moved_spot from to spots) spots k d e h))
        (moved_spot_is from to spots (get_or spots k d));
  },
)

greatest_same : (a : Axis) (from to : Inst) (spots : List Spot) (edge total other : ℕ)
    → IsGreatestChain a from to spots edge total → IsGreatestChain a from to spots edge other → total ≡ other
greatest_same a from to spots edge total other g h = omega (arith, g.greatest other h.reached, h.greatest total g.reached)

spot_same : (s t : Spot) → s.x ≡ t.x → s.y ≡ t.y → s.way ≡ t.way → s ≡ t
spot_same s t e f g =
    ap (λ (n : ℕ). record { x = n; y = s.y; way = s.way }) e
    ∙ (ap (λ (n : ℕ). record { x = t.x; y = n; way = s.way }) f ∙ ap (λ (w : Way). record { x = t.x; y = t.y; way = w }) g)

pub chain_map_is_one : ChainMapIsOne
chain_map_is_one from to spots new other m n =
    same_lists new other (omega (arith, m.count, n.count)) (λ k d h.
    let at : k < length spots = omega (arith, m.count) in
    let s = get_or spots k d in
    let a = m.each k d d at in
    let b = n.each k d d at in
    spot_same (get_or new k d) (get_or other k d)
    (greatest_same X from to spots s.x (get_or new k d).x (get_or other k d).x a.to_x b.to_x)
    (greatest_same Y from to spots s.y (get_or new k d).y (get_or other k d).y a.to_y b.to_y)
    (a.way ∙ sym b.way))
