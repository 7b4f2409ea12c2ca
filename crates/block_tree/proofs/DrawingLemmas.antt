-- What the recursion that draws needs of its parts.
use Rattle.std.proofs.Common.{◌≡◌, ℕ, zero, suc, true, false, ◌+◌, ◌≤◌, ◌<◌, List, [], ◌∷◌, ◌++◌, length, drop, map, get_or, All, refl, ap, sym, ◌∙◌, arith, add-one, inl, inr}
use Rattle.std.proofs.Math.Seq.{drop-cons}
use Rattle.std.proofs.lemmas.List.Elements.{All-cons, All-nil}
use Rattle.plan_geometry.specs.declared.spots.Way.{Way}
use Rattle.plan_geometry.specs.declared.spots.Way.TheVariants.{Lying, Standing}
use Rattle.plan_geometry.specs.declared.spots.Spot.{Spot}
use Rattle.plan_geometry.specs.declared.instances.Inst.{Inst}
use Rattle.plan_geometry.specs.Layout.{x_extent, y_extent, x_end, y_end, AreApart, IsLawfulWay, IsInside, IsLayout, Admits}
use Rattle.block_tree.specs.declared.regions.Region.{Region}
use Rattle.block_tree.specs.declared.regions.Cut.{Cut}
use Rattle.block_tree.specs.declared.regions.Cut.TheVariants.{K1, K2, K3, K4}
use Rattle.block_tree.specs.declared.nodes.Node.{Node}
use Rattle.block_tree.specs.declared.nodes.Block.TheVariants.{Five, Ell}
use Rattle.block_tree.specs.declared.parts.Part.{Part}
use Rattle.block_tree.specs.Regions.{IsOrdered, is_rectangle, side_x, side_y, Within}
use Rattle.block_tree.specs.Parts.{five_parts, IsCut, ell_parts}
use Rattle.block_tree.specs.Trees.{held_count, IsLawful, AreLawful, IsTree, IsSmall, IsSmallLawful}
use Rattle.block_tree.specs.Drawing.{placed, drawn, drawn_all, InRegion, IsPart}
use Rattle.plan_geometry.proofs.Recursive.{Each, All-each, AllPairs-each_pair}
use Rattle.block_tree.proofs.RowLemmas.{lawful-five, lawful-ell}
use Rattle.block_tree.proofs.AreaLemmas.{side-le_x, side-le_y, Rectangular, rectangular, by_wide, by_tall, by_low, by_left, lawful-ordered}
use Rattle.block_tree.proofs.DrawLemmas.{Stands, drawn-is, within-in, each-weaken}

pub same-length : (i : Inst) (ps : List Part) (ns : List Node) → AreLawful i ps ns → length ps ≡ length ns
same-length i [] [] h = refl
same-length i (p ∷ ps) [] h = absurd h
same-length i [] (n ∷ ns) h = absurd h
same-length i (p ∷ ps) (n ∷ ns) h = ap suc (same-length i ps ns h.2)

pub drawn_all-step : (i : Inst) (ps : List Part) (ns : List Node) (k : ℕ) (d : Part) (n : Node) → k < length ps → k < length ns → n ≡ get_or ns k n
    → drawn_all i (drop k ps) (drop k ns) ≡ map (placed i (get_or ps k d)) (drawn i n.region n.block) ++ drawn_all i (drop (k + 1) ps) (drop (k + 1) ns)
drawn_all-step i ps ns k d n hp hn en =
    ap (λ qs. drawn_all i qs (drop k ns)) (drop-cons ps k d hp) ∙ ap (λ ms. drawn_all i (get_or ps k d ∷ drop (suc k) ps) ms) (drop-cons ns k n hn)
    ∙ (let f : drawn_all i (get_or ps k d ∷ drop (suc k) ps) (get_or ns k n ∷ drop (suc k) ns) ≡ map (placed i (get_or ps k d)) (drawn i n.region n.block) ++ drawn_all i (drop (k + 1) ps) (drop (k + 1) ns)
    = rw (add-one, ← en) refl in f)

pub lawful-at : (i : Inst) (ps : List Part) (ns : List Node) (k : ℕ) (d : Part) (n : Node) → AreLawful i ps ns → k < length ns → n ≡ get_or ns k n
    → Within n.region (get_or ps k d).region × IsLawful i n.region n.block
lawful-at i [] [] k d n h l en = absurd (omega arith)
lawful-at i (q ∷ ps) [] k d n h l en = absurd h
lawful-at i [] (m ∷ ns) k d n h l en = absurd h
lawful-at i (q ∷ ps) (m ∷ ns) zero d n h l en = let f : n ≡ m = en in rw f (h.0, h.1)
lawful-at i (q ∷ ps) (m ∷ ns) (suc k) d n h l en = lawful-at i ps ns k d n h.2 (omega arith) en

each-all : (P Q : Spot → Type 0) → ((s : Spot) → P s → Q s) → (ss : List Spot) → Each P ss → All Q ss
each-all P Q f [] h = All-nil Q
each-all P Q f (s ∷ ss) h = All-cons Q s ss (f s h.0) (each-all P Q f ss h.1)

pub part-stands : (i : Inst) (p : Part) (n : Node) → Within n.region p.region → IsLawful i n.region n.block → All (InRegion i p.region) (drawn i n.region n.block)
part-stands i p n w h =
    each-all (Stands i n.region) (InRegion i p.region) (λ s k. within-in i n.region p.region w s k.0) (drawn i n.region n.block) (drawn-is i n.region n.block h).stands

abbrev AllReady : List Part → Type 0
AllReady [] = Unit {0}
AllReady (p ∷ ps) = IsPart p × AllReady ps

ready : (ps : List Part) → AllReady ps → All IsPart ps
ready [] h = All-nil IsPart
ready (p ∷ ps) h = All-cons IsPart p ps h.0 (ready ps h.1)

pub five-ready : (a b x1 x2 y1 y2 : ℕ) → a ≤ 4000 → b ≤ 4000 → x1 ≤ x2 → x2 ≤ a → y1 ≤ y2 → y2 ≤ b → All IsPart (five_parts a b x1 x2 y1 y2)
five-ready a b x1 x2 y1 y2 ha hb h1 h2 h3 h4 = ready (five_parts a b x1 x2 y1 y2) (
  (tt, tt, omega arith, omega arith, omega arith, omega arith),
  (
    (tt, tt, omega arith, omega arith, omega arith, omega arith),
    (
      (tt, tt, omega arith, omega arith, omega arith, omega arith),
      (
        (tt, tt, omega arith, omega arith, omega arith, omega arith),
        ((tt, tt, omega arith, omega arith, omega arith, omega arith), tt),
      ),
    ),
  ),
)

pub ell-ready : (r : Region) (cut : Cut) → IsOrdered r → IsSmall r → IsCut r cut → All IsPart (ell_parts r cut)
ell-ready r (K1 x1 x2 y1) o s h = ready (ell_parts r (K1 x1 x2 y1))
    ((tt, tt, omega arith, omega arith, omega arith, omega arith), ((omega arith, omega arith, omega arith, omega arith, omega arith, omega arith), tt))
ell-ready r (K2 c k) o s h = let b = s.2 h.0 in ready (ell_parts r (K2 c k))
    ((tt, tt, omega arith, omega arith, omega arith, omega arith), ((tt, tt, omega arith, omega arith, omega arith, omega arith), tt))
ell-ready r (K3 d k) o s h = let b = s.2 h.0 in ready (ell_parts r (K3 d k))
    ((tt, tt, omega arith, omega arith, omega arith, omega arith), ((omega arith, tt, omega arith, omega arith, omega arith, omega arith), tt))
ell-ready r (K4 c e) o s h = let b = s.2 h.0 in ready (ell_parts r (K4 c e))
    ((tt, tt, omega arith, omega arith, omega arith, omega arith), ((tt, omega arith, omega arith, omega arith, omega arith, omega arith), tt))

pub draws-five : (i : Inst) → (n : Node) (x1 x2 y1 y2 : ℕ) (ns : List Node) → IsSmallLawful i n → n.block ≡ Five x1 x2 y1 y2 ns
    → AreLawful i (five_parts (side_x n.region) (side_y n.region) x1 x2 y1 y2) ns × All IsPart (five_parts (side_x n.region) (side_y n.region) x1 x2 y1 y2)
draws-five i n x1 x2 y1 y2 ns h e =
    let w : IsLawful i n.region (Five x1 x2 y1 y2 ns) = rw e at h.0 in
    let ex = side-le_x n.region w.0 in
    let ey = side-le_y n.region w.0 in
    (lawful-five i n.region x1 x2 y1 y2 ns w, five-ready (side_x n.region) (side_y n.region) x1 x2 y1 y2 h.1.0 h.1.1 w.1.1 w.1.2 w.1.3 w.1.4)

pub draws-ell : (i : Inst) → (n : Node) (cut : Cut) (ns : List Node) → IsSmallLawful i n → n.block ≡ Ell cut ns
    → AreLawful i (ell_parts n.region cut) ns × All IsPart (ell_parts n.region cut)
draws-ell i n cut ns h e =
    let w : IsLawful i n.region (Ell cut ns) = rw e at h.0 in
    (lawful-ell i n.region cut ns w, ell-ready n.region cut w.0 h.1 w.1)

-- ---- the whole tree

pub some_x : (i : Inst) → (way : Way) → 0 < x_extent i way
some_x i Lying = omega arith
some_x i Standing = omega arith

pub some_y : (i : Inst) → (way : Way) → 0 < y_extent i way
some_y i Lying = omega arith
some_y i Standing = omega arith

in-rectangle : (i : Inst) → (r : Region) → IsOrdered r → is_rectangle r ≡ true → (s : Spot) → InRegion i r s → (x_end i s ≤ side_x r) × (y_end i s ≤ side_y r)
in-rectangle i r o h s k = go (rectangular r o h) where
  wide : 0 < x_extent i s.way
  wide = some_x i s.way

  tall : 0 < y_extent i s.way
  tall = some_y i s.way

  go : Rectangular r → (x_end i s ≤ side_x r) × (y_end i s ≤ side_y r)
  go (by_wide x y z w) = (omega arith, omega arith)
  go (by_tall x y z w) = (omega arith, omega arith)
  go (by_low x y z) = (omega arith, elim k.2 [ inl a ↦ absurd (omega (arith, wide)) | inr a ↦ omega arith ])
  go (by_left x y z) = (elim k.2 [ inl a ↦ omega arith | inr a ↦ absurd (omega (arith, tall)) ], omega arith)

pub root-layout : (i : Inst) → (n : Node) → IsTree i n → IsLayout i (drawn i n.region n.block)
root-layout i n h =
    let xs = drawn i n.region n.block in
    let d = drawn-is i n.region n.block h.lawful in
    let o = lawful-ordered i n.region n.block h.lawful in
    let inside : Each (IsInside i) xs = each-weaken (Stands i n.region) (IsInside i)
    (λ s k. let e = in-rectangle i n.region o h.rectangle s k.0 in record { in_x = omega (arith, e.0, h.in_x); in_y = omega (arith, e.1, h.in_y) }) xs d.stands in
    let lawful : Each (λ s. IsLawfulWay i s.way) xs = each-weaken (Stands i n.region) (λ s. IsLawfulWay i s.way) (λ s k. k.1) xs d.stands in
    record {
      inside = All-each (IsInside i) xs inside;
      lawful = All-each (λ s. IsLawfulWay i s.way) xs lawful;
      apart = AllPairs-each_pair (AreApart i) xs d.apart;
    }

pub root-count : (i : Inst) → (n : Node) → IsTree i n → length (drawn i n.region n.block) ≡ held_count i n.region n.block
root-count i n h = (drawn-is i n.region n.block h.lawful).count

pub root-admits : (i : Inst) → (n : Node) → IsTree i n → Admits i (held_count i n.region n.block)
root-admits i n h = record { spots = drawn i n.region n.block; layout = root-layout i n h; count = root-count i n h }

pub tree-small : (i : Inst) → (n : Node) → IsTree i n → IsSmallLawful i n
tree-small i n h = (h.lawful, (omega (arith, h.in_x), omega (arith, h.in_y), λ k. absurd (true-not-false (sym h.rectangle ∙ k)))) where
  true-not-false : true ≡ false → ⊥
  true-not-false e = cc
