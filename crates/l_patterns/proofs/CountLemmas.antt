-- There are no more regions of a search than there are choices of four normal places.
use Rattle.std.proofs.Common.{◌≡◌, ◌≢◌, ℕ, Bool, ◌+◌, ◌*◌, ◌/◌, ◌%◌, ◌≤◌, ◌<◌, ◌==◌, true, false, refl, ap, sym, ◌∙◌, subst, arith, All, AllPairs, List, [], ◌∷◌, length, map, slice_index, slice_index_or}
use Rattle.std.proofs.Math.Nat.{le_refl}
use Rattle.std.proofs.lemmas.Nat.{div-mul-add, mod-mul-add}
use Rattle.std.proofs.lemmas.Bool.{eqb-true}
use Rattle.std.proofs.lemmas.Bool.Decides.{Decides-eqb}
use Rattle.std.proofs.lemmas.List.{length-map}
use Rattle.std.proofs.lemmas.List.Elements.{All-map, All-tail}
use Rattle.std.proofs.lemmas.List.Folds.{Any-from_list_any}
use Rattle.std.proofs.lemmas.List.Kept.{AllPairs-cons}
use Rattle.std.proofs.lemmas.Map.Made.{IsDistinct-from_AllPairs}
use Rattle.std.proofs.lemmas.Map.Steps.{length-le_from_distinct_below}
use Rattle.plan_geometry.proofs.LayoutSteps.{AllPairs-nil, AllPairs-head, AllPairs-tail}
use Rattle.block_tree.specs.declared.regions.Region.{Region}
use Rattle.block_tables.specs.Numbers.{IsSum}
use Rattle.l_patterns.specs.declared.sides.Sides.{Sides}
use Rattle.l_patterns.specs.Ells.{Reach, root, first_part, second_part, HasMore, AreFewChoices}
use Rattle.l_patterns.specs.Cuts.{AreSidesOf, Fits}
use Rattle.l_patterns.proofs.EllLemmas.{sum-of, region-is}
use Rattle.l_patterns.proofs.PartLemmas.{fits-written, fits-first, fits-second}
use Rattle.l_patterns.proofs.NumberLemmas.{place, pair-lt}

abbrev Differ : Region → Region → Type 0
Differ r t = r ≡ t → ⊥

pub reach-fits : (q : Sides) {r : Region} → Reach q.inst r → Fits q r
reach-fits q (root dx dy) = record {
  region = record { ordered = (le_refl _, le_refl _); big_x = sum-of q.inst _ _ dx; big_y = sum-of q.inst _ _ dy; small_x = sum-of q.inst _ _ dx; small_y = sum-of q.inst _ _ dy };
  wide = dx.normal.within;
  tall = dy.normal.within;
}
reach-fits q (first_part {r = r} {p = p} {s = s} {cut = cut} w h a b e) = subst (Fits q) (sym e) (fits-written q p (fits-first q r (reach-fits q w) cut p s h))
reach-fits q (second_part {r = r} {p = p} {s = s} {cut = cut} w h a b e) = subst (Fits q) (sym e) (fits-written q s (fits-second q r (reach-fits q w) cut p s h))

-- two places in one number say which they are
unpair : (a b c d n : ℕ) → b < n → d < n → a * n + b ≡ c * n + d → (a ≡ c) × (b ≡ d)
unpair a b c d n h k e =
    (sym (div-mul-add a n b h) ∙ (ap (λ z. z / n) e ∙ div-mul-add c n d k), sym (mod-mul-add a n b h) ∙ (ap (λ z. z % n) e ∙ mod-mul-add c n d k))

module _ (q : Sides) (g : AreSidesOf q) where
  abbrev columns : ℕ
  columns = length q.x.points.now

  abbrev rows : ℕ
  rows = length q.y.points.now

  abbrev place_x : ℕ → ℕ
  place_x v = slice_index q.x.places.now v

  abbrev place_y : ℕ → ℕ
  place_y v = slice_index q.y.places.now v

  -- the places of the four numbers of a region, in one number
  abbrev code : Region → ℕ
  code r = ((place_x r.big_x * rows + place_y r.big_y) * columns + place_x r.small_x) * rows + place_y r.small_y

  below_x : (v : ℕ) → v ≤ q.inst.l_side → place_x v < columns
  below_x v h = g.on_x.placed.places v (omega (arith, g.on_x.long, h))

  below_y : (v : ℕ) → v ≤ q.inst.w_side → place_y v < rows
  below_y v h = g.on_y.placed.places v (omega (arith, g.on_y.long, h))

  small_x : (r : Region) → Fits q r → r.small_x ≤ q.inst.l_side
  small_x r f = omega (arith, f.region.ordered.0, f.wide)

  small_y : (r : Region) → Fits q r → r.small_y ≤ q.inst.w_side
  small_y r f = omega (arith, f.region.ordered.1, f.tall)

  code-below : (r : Region) → Fits q r → code r < columns * rows * columns * rows
  code-below r f =
      let a = pair-lt (place_x r.big_x) (place_y r.big_y) rows columns (below_x _ f.wide) (below_y _ f.tall) in
      let b = pair-lt (place_x r.big_x * rows + place_y r.big_y) (place_x r.small_x) columns (columns * rows) a (below_x _ (small_x r f)) in
      pair-lt ((place_x r.big_x * rows + place_y r.big_y) * columns + place_x r.small_x) (place_y r.small_y) rows (columns * rows * columns) b (below_y _ (small_y r f))

  same_x : (u v : ℕ) → u ≤ q.inst.l_side → v ≤ q.inst.l_side → slice_index q.x.points.now (place_x u) ≡ u → slice_index q.x.points.now (place_x v) ≡ v → place_x u ≡ place_x v → u ≡ v
  same_x u v h k a b e = sym a ∙ (ap (λ z. slice_index q.x.points.now z) e ∙ b)

  same_y : (u v : ℕ) → u ≤ q.inst.w_side → v ≤ q.inst.w_side → slice_index q.y.points.now (place_y u) ≡ u → slice_index q.y.points.now (place_y v) ≡ v → place_y u ≡ place_y v → u ≡ v
  same_y u v h k a b e = sym a ∙ (ap (λ z. slice_index q.y.points.now z) e ∙ b)

  code-same : (r t : Region) → Fits q r → Fits q t → code r ≡ code t → r ≡ t
  code-same r t f k e =
      let a = unpair ((place_x r.big_x * rows + place_y r.big_y) * columns + place_x r.small_x) (place_y r.small_y)
      ((place_x t.big_x * rows + place_y t.big_y) * columns + place_x t.small_x) (place_y t.small_y) rows (below_y _ (small_y r f)) (below_y _ (small_y t k)) e in
      let b = unpair (place_x r.big_x * rows + place_y r.big_y) (place_x r.small_x) (place_x t.big_x * rows + place_y t.big_y) (place_x t.small_x) columns
      (below_x _ (small_x r f)) (below_x _ (small_x t k)) a.0 in
      let c = unpair (place_x r.big_x) (place_y r.big_y) (place_x t.big_x) (place_y t.big_y) rows (below_y _ f.tall) (below_y _ k.tall) b.0 in
      let fr = f.region in
      let kr = k.region in
      region-is r t
      (same_x _ _ f.wide k.wide (at_x r.big_x fr.big_x f.wide) (at_x t.big_x kr.big_x k.wide) c.0)
      (same_y _ _ f.tall k.tall (at_y r.big_y fr.big_y f.tall) (at_y t.big_y kr.big_y k.tall) c.1)
      (same_x _ _ (small_x r f) (small_x t k) (at_x r.small_x fr.small_x (small_x r f)) (at_x t.small_x kr.small_x (small_x t k)) b.1)
      (same_y _ _ (small_y r f) (small_y t k) (at_y r.small_y fr.small_y (small_y r f)) (at_y t.small_y kr.small_y (small_y t k)) a.1) where
        at_x : (v : ℕ) → IsSum q.inst v → v ≤ q.inst.l_side → slice_index q.x.points.now (place_x v) ≡ v
        at_x v u h = (place q.inst q.x.points.now q.x.places.now v v g.on_x.placed u (le_refl v) (omega (arith, g.on_x.long, h))).1

        at_y : (v : ℕ) → IsSum q.inst v → v ≤ q.inst.w_side → slice_index q.y.points.now (place_y v) ≡ v
        at_y v u h = (place q.inst q.y.points.now q.y.places.now v v g.on_y.placed u (le_refl v) (omega (arith, g.on_y.long, h))).1

  codes-apart : (rs : List Region) → All (Fits q) rs → AllPairs Differ rs → AllPairs (λ (a b : ℕ). a ≢ b) (map code rs)
  codes-apart [] f d = AllPairs-nil (λ (a b : ℕ). a ≢ b)
  codes-apart (r ∷ rs) f d =
      AllPairs-cons (λ (a b : ℕ). a ≢ b) (code r) (map code rs)
      (All-map (λ c. code r ≢ c) code rs (λ i z w e. AllPairs-head Differ r rs d i z w (code-same r (slice_index_or rs i z) (f 0 r (omega arith)) (All-tail (Fits q) r rs f i z w) e)))
      (codes-apart rs (All-tail (Fits q) r rs f) (AllPairs-tail Differ r rs d))

  pub few : (n : ℕ) → HasMore q.inst n → n < columns * rows * columns * rows
  few n h =
      let f : All (Fits q) h.members = λ i z w. reach-fits q (h.each i z w) in
      let codes = map code h.members in
      let below : All (λ (c : ℕ). c < columns * rows * columns * rows) codes = All-map (λ (c : ℕ). c < columns * rows * columns * rows) code h.members (λ i z w. code-below (slice_index_or h.members i z) (f i z w)) in
      let long = length-le_from_distinct_below codes (columns * rows * columns * rows) (IsDistinct-from_AllPairs Decides-eqb codes (codes-apart h.members f h.different))
      (λ v y. let a = Any-from_list_any (λ x. v == x) codes y in omega (arith, below a.0 a.1 a.2, a.3, eqb-true v a.1 a.4)) in
      omega (arith, long, length-map h.members code, h.count)

-- ---- where there are few enough choices the search ends

pub by-cases : (A : Type 0) (b : Bool) → (b ≡ false → A) → (A → ⊥) → b ≡ true
by-cases A true h never = refl
by-cases A false h never = absurd (never (h refl))

pub never-more : (q : Sides) → AreSidesOf q → (n : ℕ) → AreFewChoices q.x.points.now q.y.points.now n → HasMore q.inst n → ⊥
never-more q g n w h = let f = few q g n h in let e = regroup (length q.x.points.now) (length q.y.points.now) in absurd (omega (arith, f, w, e)) where
  regroup : (a b : ℕ) → a * b * a * b ≡ a * b * (a * b)
  regroup a b = omega arith
