-- The tree of what was built.
use Rattle.std.proofs.Common.{◌≡◌, ℕ, true, false, ◌+◌, ◌≤◌, ◌<◌, List, [], ◌∷◌, Option, Some, None, length, slice_index_or, refl, ap, ap₂, sym, ◌∙◌, subst, arith, inl, inr}
use Rattle.std.specs.Option.{option_map_or}
use Rattle.std.proofs.lemmas.Bool.{eq-eqb}
use Rattle.std.proofs.lemmas.List.{get_or_default}
use Rattle.plan_geometry.specs.declared.instances.Inst.{Inst}
use Rattle.plan_geometry.specs.declared.spots.Way.{Way}
use Rattle.plan_geometry.specs.Layout.{IsLawfulWay}
use Rattle.block_tree.specs.declared.regions.Region.{Region}
use Rattle.block_tree.specs.declared.regions.Cut.{Cut}
use Rattle.block_tree.specs.declared.regions.Cut.TheVariants.{K1, K2, K3, K4}
use Rattle.block_tree.specs.declared.nodes.Node.{Node}
use Rattle.block_tree.specs.declared.nodes.Block.TheVariants as block
use Rattle.block_tree.specs.Regions.{region as region', IsOrdered, is_rectangle, side_x, side_y, rectangle}
use Rattle.block_tree.specs.Parts.{ell_parts}
use Rattle.block_tree.specs.Trees.{uniform, grid_cases, IsLawful, AreLawful, IsTree}
use Rattle.block_tree.proofs.RowLemmas.{held-ell, ell-lawful}
use Rattle.l_patterns.specs.declared.sides.Sides.{Sides}
use Rattle.l_patterns.specs.declared.knowledge.Built.{Built}
use Rattle.l_patterns.specs.Ells.{IsSplit, written}
use Rattle.l_patterns.specs.Cuts.{Fits}
use Rattle.l_patterns.specs.Keys.{base}
use Rattle.l_patterns.specs.States.{none, nth_built, Stands, AreParts, IsBuilt, AreBuilt, Makes}
use Rattle.l_patterns.proofs.EllLemmas.{written-cases, written-same, flipped, split-same, rounded-within}
use Rattle.l_patterns.proofs.PartLemmas.{base-is, base-not, fits-first, fits-second}

-- ---- a region that needs no cut

base-written : (i : Inst) (r : Region) → base i (written r) ≡ base i r
base-written i r = elim (written-cases r) [
  | inl e ↦ ap (λ (z : Region). base i z) e
  | inr e ↦
      let s = written-same r e.0 in
      let u : uniform i (side_x (rectangle (side_x r) (side_y r))) (side_y (rectangle (side_x r) (side_y r))) ≡ uniform i (side_x r) (side_y r) = sym (ap₂ (uniform i) s.x s.y) in
      ap (λ (z : Region). base i z) e.1 ∙ (base-is i (rectangle (side_x r) (side_y r)) s.of_p ∙ (u ∙ sym (base-is i r e.0)))
]

pub grid-makes : (i : Inst) (r : Region) (way : Way) → IsOrdered r → is_rectangle r ≡ true → IsLawfulWay i way → grid_cases i way (side_x r) (side_y r) ≡ uniform i (side_x r) (side_y r)
    → Makes i r (base i (written r)) (record { region = r; block = block.Grid way })
grid-makes i r way o h l e = record { region = refl; lawful = (o, h, l); count = e ∙ (sym (base-is i r h) ∙ sym (base-written i r)) }

pub empty-makes : (i : Inst) (r : Region) → IsOrdered r → is_rectangle r ≡ false → Makes i r (base i (written r)) (record { region = r; block = block.Empty })
empty-makes i r o h = record { region = refl; lawful = o; count = sym (base-written i r ∙ base-not i r h) }

-- ---- a region that was built

split-back : (i : Inst) (r : Region) (cut : Cut) (p s : Region) → IsSplit i (written r) cut p s → IsSplit i r cut p s
split-back i r cut p s h = elim (written-cases r) [
  | inl e ↦ subst (λ (z : Region). IsSplit i z cut p s) e h
  | inr e ↦ split-same i (rectangle (side_x r) (side_y r)) r cut p s (flipped _ _ (written-same r e.0)) (subst (λ (z : Region). IsSplit i z cut p s) e.1 h)
]

pub are-lawful : (i : Inst) (r : Region) (cut : Cut) (p s : Region) → IsSplit i r cut p s → (a b : Node) → a.region ≡ p → b.region ≡ s
    → IsLawful i a.region a.block → IsLawful i b.region b.block → AreLawful i (ell_parts r cut) (a ∷ b ∷ [])
are-lawful i r (K1 x1 x2 y1) p s h a b e k u v = (rw e (rounded-within i _ p h.first), u, (rw k (rounded-within i _ s h.second), v, tt))
are-lawful i r (K2 c d) p s h a b e k u v = (rw e (rounded-within i _ p h.first), u, (rw k (rounded-within i _ s h.second), v, tt))
are-lawful i r (K3 d c) p s h a b e k u v = (rw e (rounded-within i _ p h.first), u, (rw k (rounded-within i _ s h.second), v, tt))
are-lawful i r (K4 c d) p s h a b e k u v = (rw e (rounded-within i _ p h.first), u, (rw k (rounded-within i _ s h.second), v, tt))

-- what is read at a place within the list
abbrev pub blank : Built
blank = record {
  region = region' 0 0 0 0;
  cut = K1 0 0 0;
  count = 0;
  first = record { region = region' 0 0 0 0; built = None; count = 0 };
  second = record { region = region' 0 0 0 0; built = None; count = 0 };
}

pub read-built : (bs : List Built) (j : ℕ) → j < length bs → nth_built bs j ≡ slice_index_or bs j blank
read-built bs j h = get_or_default bs j none blank h

-- what stands for a region in the list of what was built
module _ (q : Sides) (bs : List Built) (h : AreBuilt q bs) (r : Region) (f : Fits q r) (j n : ℕ) (t : Stands q.inst bs (length bs) (written r) (Some j) n) (b : Built) (e : nth_built bs j ≡ b) where
  at : IsBuilt q bs j b
  at = subst (λ (z : Built). IsBuilt q bs j z) e (h j t.0)

  region : b.region ≡ written r
  region = sym (ap (λ (z : Built). z.region) e) ∙ t.1

  parts : AreParts q.inst bs j (written r) b.cut b.first b.second
  parts = subst (λ (z : Region). AreParts q.inst bs j z b.cut b.first b.second) region at.parts

  split : IsSplit q.inst r b.cut b.first.region b.second.region
  split = split-back q.inst r b.cut b.first.region b.second.region parts.split

  pub first-fits : Fits q b.first.region
  first-fits = fits-first q r f b.cut b.first.region b.second.region split

  pub second-fits : Fits q b.second.region
  second-fits = fits-second q r f b.cut b.first.region b.second.region split

  pub first-before : option_map_or (λ (k : ℕ). k + 1) b.first.built 0 < j + 1
  first-before = before b.first.built (written b.first.region) b.first.count parts.first where
    before : (o : Option ℕ) (g : Region) (m : ℕ) → Stands q.inst bs j g o m → option_map_or (λ (k : ℕ). k + 1) o 0 < j + 1
    before None g m w = omega arith
    before (Some k) g m w = omega (arith, w.0)

  pub second-before : option_map_or (λ (k : ℕ). k + 1) b.second.built 0 < j + 1
  second-before = before b.second.built (written b.second.region) b.second.count parts.second where
    before : (o : Option ℕ) (g : Region) (m : ℕ) → Stands q.inst bs j g o m → option_map_or (λ (k : ℕ). k + 1) o 0 < j + 1
    before None g m w = omega arith
    before (Some k) g m w = omega (arith, w.0)

  pub first-stands : Stands q.inst bs (length bs) (written b.first.region) b.first.built b.first.count
  first-stands = later b.first.built (written b.first.region) b.first.count parts.first where
    later : (o : Option ℕ) (g : Region) (m : ℕ) → Stands q.inst bs j g o m → Stands q.inst bs (length bs) g o m
    later None g m w = w
    later (Some k) g m w = (omega (arith, w.0, t.0), w.1, w.2)

  pub second-stands : Stands q.inst bs (length bs) (written b.second.region) b.second.built b.second.count
  second-stands = later b.second.built (written b.second.region) b.second.count parts.second where
    later : (o : Option ℕ) (g : Region) (m : ℕ) → Stands q.inst bs j g o m → Stands q.inst bs (length bs) g o m
    later None g m w = w
    later (Some k) g m w = (omega (arith, w.0, t.0), w.1, w.2)

  pub cut-makes : (x y : Node) → Makes q.inst b.first.region b.first.count x → Makes q.inst b.second.region b.second.count y
      → Makes q.inst r n (record { region = r; block = block.Ell b.cut (x ∷ y ∷ []) })
  cut-makes x y u v =
      let count : b.count ≡ n = sym (ap (λ (z : Built). z.count) e) ∙ t.2 in
      record {
        region = refl;
        lawful = ell-lawful q.inst r b.cut (x ∷ y ∷ []) f.region.ordered split.lawful
            (are-lawful q.inst r b.cut b.first.region b.second.region split x y u.region v.region u.lawful v.lawful);
        count = held-ell q.inst r b.cut (x ∷ y ∷ []) ∙ omega (arith, u.count, v.count, at.sum, count);
      }

-- ---- the whole tree

pub tree-of : (i : Inst) (a b n : ℕ) (d : Node) → a ≤ i.l_side → b ≤ i.w_side → Makes i (rectangle a b) n d → IsTree i d
tree-of i a b n d x y m = record { lawful = m.lawful; rectangle = is-rect; in_x = rw same-x x; in_y = rw same-y y } where
  is-rect : is_rectangle d.region ≡ true
  is-rect = rw (m.region, eq-eqb a a refl) refl

  same-x : side_x d.region ≡ a
  same-x = rw (m.region, eq-eqb a a refl) refl

  same-y : side_y d.region ≡ b
  same-y = rw (m.region, eq-eqb a a refl) refl

pub makes-tree : (q : Sides) (a b n : ℕ) (d : Node) → Fits q (rectangle a b) → Makes q.inst (rectangle a b) n d → IsTree q.inst d
makes-tree q a b n d f m = tree-of q.inst a b n d f.wide f.tall m
