-- What the memo has, and what was built.
use Rattle.std.proofs.Common.{◌≡◌, ℕ, Bool, zero, suc, ◌+◌, ◌-◌, ◌≤◌, ◌<◌, ◌==◌, ◌&&◌, true, false, refl, ap, sym, ◌∙◌, subst, arith, inl, inr, List, [], ◌∷◌, ◌++◌, Option, Some, None, length, slice_index, min}
use Rattle.std.proofs.lemmas.Bool.{cases_lt, eq-eqb, eqb-true}
use Rattle.std.proofs.Math.Nat.{le_refl}
use Rattle.plan_geometry.specs.declared.instances.Inst.{Inst}
use Rattle.block_tree.specs.declared.regions.Region.{Region}
use Rattle.block_tree.specs.declared.regions.Cut.{Cut}
use Rattle.block_tree.specs.declared.regions.Cut.TheVariants.{K4}
use Rattle.block_tree.specs.Regions.{is_rectangle, region, side_x, side_y}
use Rattle.block_tree.specs.Trees.{uniform}
use Rattle.l_patterns.specs.declared.sides.Sides.{Sides}
use Rattle.l_patterns.specs.declared.knowledge.Key.{Key}
use Rattle.l_patterns.specs.declared.knowledge.Known.{Known}
use Rattle.l_patterns.specs.declared.knowledge.Held.{Held}
use Rattle.l_patterns.specs.declared.knowledge.Built.{Built}
use Rattle.l_patterns.specs.declared.knowledge.Search.{Search}
use Rattle.l_patterns.specs.declared.trying.Frame.{Frame}
use Rattle.l_patterns.specs.Ells.{EllAll, by_grid, by_cut, IsSplit, written}
use Rattle.l_patterns.specs.Cuts.{AreSidesOf, Fits, point}
use Rattle.l_patterns.specs.Keys.{same_key, key_of, region_of}
use Rattle.l_patterns.specs.States.{Reaches, AreBounds, nth_built, Stands, AreParts, IsBuilt, AreBuilt, IsRemembered, IsSearch, IsFrame}
use Rattle.l_patterns.proofs.EllLemmas.{or3, written-number}
use Rattle.l_patterns.proofs.PartLemmas.{base-is, base-not, fits-first, fits-second, fits-written}

-- ---- keys

and-true : (a b : Bool) → (a && b) ≡ true → (a ≡ true) × (b ≡ true)
and-true true b h = (refl, h)
and-true false b h = cc

pub region-at : (r : Region) (x : Key) → r.big_x ≡ x.big_x → r.big_y ≡ x.big_y → r.small_x ≡ x.small_x → r.small_y ≡ x.small_y → r ≡ region_of x
region-at r x a b c d =
    ap (λ z. region z r.big_y r.small_x r.small_y) a ∙ (ap (λ z. region x.big_x z r.small_x r.small_y) b
    ∙ (ap (λ z. region x.big_x x.big_y z r.small_y) c ∙ ap (λ z. region x.big_x x.big_y x.small_x z) d))

pub same-key : (r : Region) (x : Key) → same_key (key_of r) x ≡ true → r ≡ region_of x
same-key r x h =
    let a = and-true _ _ h in
    let b = and-true _ _ a.1 in
    let c = and-true _ _ b.1 in
    region-at r x (eqb-true _ _ a.0) (eqb-true _ _ b.0) (eqb-true _ _ c.0) (eqb-true _ _ c.1)

pub noted : (q : Sides) (bs : List Built) (r : Region) (k : Known) → IsRemembered q bs r k → (e : Key × Known) → e.1 ≡ k → region_of e.0 ≡ r → IsRemembered q bs (region_of e.0) e.1
noted q bs r k h e a b = subst (λ z. IsRemembered q bs z e.1) (sym b) (subst (λ z. IsRemembered q bs r z) (sym a) h)

-- ---- one more built

abbrev pub more : List Built → Built → List Built
more bs b = bs ++ b ∷ []

nth-more : (bs : List Built) (b : Built) (j : ℕ) → j < length bs → nth_built (more bs b) j ≡ nth_built bs j
nth-more [] b j h = absurd (omega arith)
nth-more (x ∷ bs) b zero h = refl
nth-more (x ∷ bs) b (suc j) h = nth-more bs b j (omega arith)

nth-last : (bs : List Built) (b : Built) → nth_built (more bs b) (length bs) ≡ b
nth-last [] b = refl
nth-last (x ∷ bs) b = nth-last bs b

stands-more : (i : Inst) (bs : List Built) (b : Built) (upto next : ℕ) (r : Region) (o : Option ℕ) (n : ℕ) → upto ≤ next → upto ≤ length bs
    → Stands i bs upto r o n → Stands i (more bs b) next r o n
stands-more i bs b upto next r None n u w h = h
stands-more i bs b upto next r (Some j) n u w h =
    let e = nth-more bs b j (omega (arith, h.0, w)) in
    (omega (arith, h.0, u), ap (λ z. z.region) e ∙ h.1, ap (λ z. z.count) e ∙ h.2)

parts-more : (i : Inst) (bs : List Built) (b : Built) (upto : ℕ) (r : Region) (cut : Cut) (x y : Held) → upto ≤ length bs
    → AreParts i bs upto r cut x y → AreParts i (more bs b) upto r cut x y
parts-more i bs b upto r cut x y w h = record {
  split = h.split;
  first = stands-more i bs b upto upto (written x.region) x.built x.count (le_refl _) w h.first;
  second = stands-more i bs b upto upto (written y.region) y.built y.count (le_refl _) w h.second;
}

built-more : (q : Sides) (bs : List Built) (b x : Built) (j : ℕ) → j ≤ length bs → IsBuilt q bs j x → IsBuilt q (more bs b) j x
built-more q bs b x j w h = record { fits = h.fits; parts = parts-more q.inst bs b j x.region x.cut x.first x.second w h.parts; sum = h.sum; reached = h.reached }

length-more : (bs : List Built) (b : Built) → length (more bs b) ≡ length bs + 1
length-more [] b = refl
length-more (x ∷ bs) b = omega (arith, length-more bs b)

pub extended : (q : Sides) (s t : Search) (b : Built) → IsSearch q s → IsBuilt q s.built.items (length s.built.items) b → t.memo ≡ s.memo
    → t.built.items ≡ more s.built.items b → IsSearch q t
extended q s t b h g em eb =
    let bs = s.built.items in
    record {
      built = rw eb (λ j w. elim (cases_lt j (length bs)) [
        | inl v ↦ subst (λ z. IsBuilt q (more bs b) j z) (sym (nth-more bs b j v)) (built-more q bs b (nth_built bs j) j (omega arith) (h.built j v))
        | inr v ↦ let e : length bs ≡ j = omega (arith, w, length-more bs b) in
            subst (λ z. IsBuilt q (more bs b) z (nth_built (more bs b) z)) e
            (subst (λ z. IsBuilt q (more bs b) (length bs) z) (sym (nth-last bs b)) (built-more q bs b b (length bs) (le_refl _) g))
      ]);
      memo = rw (em, eb) (λ e c. let m = h.memo e c in record {
        fits = m.fits;
        reach = m.reach;
        bounds = m.bounds;
        lower = stands-more q.inst bs b (length bs) (length (more bs b)) (region_of e.0) e.1.built e.1.low (omega (arith, length-more bs b)) (le_refl _) m.lower;
      });
    }

-- ---- what stands is reached

-- each region has a number
some-number : (q : Sides) → AreSidesOf q → (r : Region) → Fits q r → (n : ℕ) × EllAll q.inst r n
some-number q g r f = go (is_rectangle r) refl where
  go : (b : Bool) → is_rectangle r ≡ b → (n : ℕ) × EllAll q.inst r n
  go true e = (uniform q.inst (side_x r) (side_y r), by_grid e refl)
  go false e =
      let o = f.region.ordered in
      let w = f.wide in
      let v = f.tall in
      let gw = g.on_x.long in
      let gt = g.on_y.long in
      let dx = g.on_x.placed.downs in
      let dy = g.on_y.placed.downs in
      let X : ℕ → ℕ = λ k. point q.x (slice_index q.x.places.now k) in
      let Y : ℕ → ℕ = λ k. point q.y (slice_index q.y.places.now k) in
      let p : Region = region (X (r.big_x - r.small_x)) (Y r.small_y) (X (r.small_x - r.small_x)) (Y r.small_y) in
      let s : Region = region (X r.small_x) (Y r.big_y) (X r.small_x) (Y (r.big_y - r.small_y)) in
      let split : IsSplit q.inst r (K4 r.small_x r.small_y) p s = record {
        lawful = (e, le_refl _, le_refl _, o.1);
        normal = (f.region.small_x, f.region.small_y);
        first = record { big_x = dx _ (omega arith); big_y = dy _ (omega arith); small_x = dx _ (omega arith); small_y = dy _ (omega arith) };
        second = record { big_x = dx _ (omega arith); big_y = dy _ (omega arith); small_x = dx _ (omega arith); small_y = dy _ (omega arith) };
      } in (
        uniform q.inst (side_x p) (side_y p) + uniform q.inst (side_x s) (side_y s),
        by_cut split (by_grid (or3 (p.small_x == p.big_x) _ _ _ (inl (eq-eqb (Y r.small_y) (Y r.small_y) refl))) refl)
            (by_grid (rw (eq-eqb (X r.small_x) (X r.small_x) refl) refl) refl) refl,
      )

-- what stands is not above some number
pub stands-reaches : (q : Sides) → AreSidesOf q → (bs : List Built) → AreBuilt q bs → (r : Region) → Fits q r → (o : Option ℕ) (n : ℕ)
    → Stands q.inst bs (length bs) r o n → Reaches q.inst r n
stands-reaches q g bs h r f None n t = go (is_rectangle r) refl where
  go : (b : Bool) → is_rectangle r ≡ b → Reaches q.inst r n
  go true e = (uniform q.inst (side_x r) (side_y r), by_grid e refl, omega (arith, t, base-is q.inst r e))
  go false e = let k = some-number q g r f in (k.0, k.1, omega (arith, t, base-not q.inst r e))
stands-reaches q g bs h r f (Some j) n t =
    let b = h j t.0 in
    (b.reached.0, subst (λ z. EllAll q.inst z b.reached.0) t.1 b.reached.1, omega (arith, b.reached.2, t.2))

-- the sum of two parts that stand is not above some number of the whole
take-reaches : (q : Sides) → AreSidesOf q → (bs : List Built) → AreBuilt q bs → (r : Region) → Fits q r → (cut : Cut) (x y : Held)
    → AreParts q.inst bs (length bs) r cut x y → Reaches q.inst r (x.count + y.count)
take-reaches q g bs h r f cut x y t =
    let fx = fits-written q x.region (fits-first q r f cut x.region y.region t.split) in
    let fy = fits-written q y.region (fits-second q r f cut x.region y.region t.split) in
    let a = stands-reaches q g bs h (written x.region) fx x.built x.count t.first in
    let b = stands-reaches q g bs h (written y.region) fy y.built y.count t.second in (
      a.0 + b.0,
      by_cut t.split (written-number q.inst x.region a.0 a.1) (written-number q.inst y.region b.0 b.1) refl,
      omega (arith, a.2, b.2),
    )

abbrev pub built_of : Frame → Cut → Held → Held → Built
built_of f cut x y = record { region = f.region; cut = cut; first = x; second = y; count = x.count + y.count }

pub built-by : (q : Sides) → AreSidesOf q → (bs : List Built) → AreBuilt q bs → (f : Frame) → IsFrame q f → (cut : Cut) (x y : Held)
    → AreParts q.inst bs (length bs) f.region cut x y → IsBuilt q bs (length bs) (built_of f cut x y)
built-by q g bs h f k cut x y t = record { fits = k.fits; parts = t; sum = refl; reached = take-reaches q g bs h f.region k.fits cut x y t }

-- ---- the bounds that are written

-- what stands is not above every number
stands-below : (q : Sides) → AreSidesOf q → (bs : List Built) → AreBuilt q bs → (r : Region) → Fits q r → (o : Option ℕ) (n m : ℕ)
    → Stands q.inst bs (length bs) r o n → ((k : ℕ) → EllAll q.inst r k → k < m) → n < m
stands-below q g bs h r f o n m t w = let a = stands-reaches q g bs h r f o n t in omega (arith, a.2, w a.0 a.1)

pub lowered : (q : Sides) → AreSidesOf q → (bs : List Built) → AreBuilt q bs → (f : Frame) (k : Known) → IsFrame q f → ((n : ℕ) → EllAll q.inst f.region n → n < f.need)
    → AreBounds q.inst f.region k → Stands q.inst bs (length bs) f.region k.built k.low → (high : ℕ) → high ≡ min k.high (f.need - 1)
    → IsRemembered q bs f.region (record { low = k.low; high = high; built = k.built })
lowered q g bs h f k w v b l high e =
    let above = w.above in
    let low = stands-below q g bs h f.region w.fits k.built k.low f.need l v in
    record {
      fits = w.fits;
      reach = w.reach;
      bounds = record {
        upper = λ n a. omega (arith, v n a, b.upper n a, e);
        order = omega (arith, low, b.order, e);
        from = b.from;
        cells = omega (arith, b.cells, e);
        small = omega (arith, b.small, e);
      };
      lower = l;
    }

pub raised : (q : Sides) → AreSidesOf q → (bs : List Built) → AreBuilt q bs → (f : Frame) → IsFrame q f → (cut : Cut) (x y : Held)
    → AreParts q.inst bs (length bs) f.region cut x y → (k : Known) → AreBounds q.inst f.region k → k.low < x.count + y.count
    → (place : ℕ) → place ≡ length bs → (items : List Built) → items ≡ more bs (built_of f cut x y)
    → IsRemembered q items f.region (record { low = x.count + y.count; high = k.high; built = Some place })
raised q g bs h f w cut x y t k b lt place pe items ie =
    let a = take-reaches q g bs h f.region w.fits cut x y t in
    let e = nth-last bs (built_of f cut x y) in
    rw (ie, pe) (record {
      fits = w.fits;
      reach = w.reach;
      bounds = record { upper = b.upper; order = omega (arith, a.2, b.upper a.0 a.1); from = omega (arith, b.from, lt); cells = b.cells; small = b.small };
      lower = (omega (arith, length-more bs (built_of f cut x y)), ap (λ z. z.region) e, ap (λ z. z.count) e);
    })
