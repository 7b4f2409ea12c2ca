-- What the recursion down a tree needs of its parts.
use Rattle.std.proofs.Common.{◌≡◌, ℕ, Bool, true, false, zero, suc, ◌+◌, ◌-◌, ◌*◌, ◌^◌, ◌≤◌, ◌<◌, List, [], ◌∷◌, length, drop, get_or, All, refl, ap, ◌∙◌, arith, add-one}
use Rattle.std.proofs.Math.Seq.{drop-cons}
use Rattle.std.proofs.lemmas.Nat.{mul-le}
use Rattle.std.proofs.lemmas.List.Elements.{All-cons}
use Rattle.plan_geometry.specs.declared.instances.Inst.{Inst}
use Rattle.block_tree.specs.declared.regions.Region.{Region}
use Rattle.block_tree.specs.declared.regions.Cut.{Cut}
use Rattle.block_tree.specs.declared.regions.Cut.TheVariants.{K1, K2, K3, K4}
use Rattle.block_tree.specs.declared.nodes.Node.{Node}
use Rattle.block_tree.specs.declared.nodes.Block.TheVariants.{Five, Ell}
use Rattle.block_tree.specs.declared.parts.Part.{Part}
use Rattle.block_tree.specs.Regions.{IsOrdered, is_rectangle, side_x, side_y, area}
use Rattle.block_tree.specs.Parts.{five_parts, IsCut, ell_parts}
use Rattle.block_tree.specs.Trees.{held_count, held_count_all, IsLawful, AreLawful, IsSmall, IsSmallLawful, node_count, node_count_all}
use Rattle.block_tree.proofs.RowLemmas.{lawful-five, lawful-ell, held-five, held-ell}
use Rattle.block_tree.proofs.AreaLemmas.{held-le, side-le_x, side-le_y, area-sides, lawful-ordered}

pub held_all-step : (i : Inst) (ns : List Node) (k : ℕ) (n : Node) → k < length ns → n ≡ get_or ns k n
    → held_count_all i (drop k ns) ≡ held_count i n.region n.block + held_count_all i (drop (k + 1) ns)
held_all-step i ns k n h e =
    ap (held_count_all i) (drop-cons ns k n h) ∙ (let f : held_count_all i (get_or ns k n ∷ drop (suc k) ns) ≡ held_count i n.region n.block + held_count_all i (drop (k + 1) ns)
    = rw (add-one, ← e) refl in f)

abbrev pub PartsSmall : List Part → Type 0
PartsSmall [] = Unit {0}
PartsSmall (p ∷ ps) = (p.region.big_x ≤ 4000) × (p.region.big_y ≤ 4000) × PartsSmall ps

pub small-of : (r : Region) → IsOrdered r → r.big_x ≤ 4000 → r.big_y ≤ 4000 → IsSmall r
small-of r o hx hy = (omega (arith, side-le_x r o), omega (arith, side-le_y r o), λ h. (hx, hy))

pub all_small : (i : Inst) (ps : List Part) (ns : List Node) → AreLawful i ps ns → PartsSmall ps → All (IsSmallLawful i) ns
all_small i [] [] h s = λ k d lt. absurd (omega arith)
all_small i (p ∷ ps) [] h s = absurd h
all_small i [] (n ∷ ns) h s = absurd h
all_small i (p ∷ ps) (n ∷ ns) h s = All-cons (IsSmallLawful i) n ns (h.1, small-of n.region (lawful-ordered i n.region n.block h.1) (omega arith) (omega arith)) (all_small i ps ns h.2 s.2)

pub small-five : (a b x1 x2 y1 y2 : ℕ) → a ≤ 4000 → b ≤ 4000 → x1 ≤ x2 → x2 ≤ a → y1 ≤ y2 → y2 ≤ b → PartsSmall (five_parts a b x1 x2 y1 y2)
small-five a b x1 x2 y1 y2 ha hb h1 h2 h3 h4 =
    (omega arith, omega arith, (omega arith, omega arith, (omega arith, omega arith, (omega arith, omega arith, (omega arith, omega arith, tt)))))

pub small-ell : (r : Region) (cut : Cut) → IsOrdered r → IsSmall r → IsCut r cut → PartsSmall (ell_parts r cut)
small-ell r (K1 x1 x2 y1) o s h = (omega arith, omega arith, (omega arith, omega arith, tt))
small-ell r (K2 c k) o s h = let b = s.2 h.0 in (omega arith, omega arith, (omega arith, omega arith, tt))
small-ell r (K3 d k) o s h = let b = s.2 h.0 in (omega arith, omega arith, (omega arith, omega arith, tt))
small-ell r (K4 c e) o s h = let b = s.2 h.0 in (omega arith, omega arith, (omega arith, omega arith, tt))

pub area-small : (r : Region) → IsOrdered r → IsSmall r → area r < 2 ^ 32
area-small r o s = go (is_rectangle r) refl where
  go : (b : Bool) → is_rectangle r ≡ b → area r < 2 ^ 32
  go true e =
      let a : side_x r * side_y r ≤ 4000 * 4000 = mul-le (side_x r) (side_y r) 4000 4000 s.0 s.1 in
      omega (arith, area-sides r o e)
  go false e =
      let k = s.2 e in
      let a : r.small_x * r.big_y ≤ 4000 * 4000 = mul-le r.small_x r.big_y 4000 4000 (omega arith) (omega arith) in
      let b : (r.big_x - r.small_x) * r.small_y ≤ 4000 * 4000 = mul-le (r.big_x - r.small_x) r.small_y 4000 4000 (omega arith) (omega arith) in
      omega arith

-- the premises of the call that goes over the parts
pub ready-five : (i : Inst) → (n : Node) (x1 x2 y1 y2 : ℕ) (ns : List Node) → IsSmallLawful i n → n.block ≡ Five x1 x2 y1 y2 ns
    → All (IsSmallLawful i) ns × (held_count_all i ns < 2 ^ 32)
ready-five i n x1 x2 y1 y2 ns h e =
    let w : IsLawful i n.region (Five x1 x2 y1 y2 ns) = rw e at h.0 in
    let o : IsOrdered n.region = w.0 in
    let ex = side-le_x n.region o in
    let ey = side-le_y n.region o in (
      all_small i (five_parts (side_x n.region) (side_y n.region) x1 x2 y1 y2) ns (lawful-five i n.region x1 x2 y1 y2 ns w) (small-five (side_x n.region) (side_y n.region) x1 x2 y1 y2 h.1.0 h.1.1 w.1.1 w.1.2 w.1.3 w.1.4),
      omega (arith, held-five i n.region x1 x2 y1 y2 ns, held-le i n.region (Five x1 x2 y1 y2 ns) w, area-small n.region o h.1),
    )

pub ready-ell : (i : Inst) → (n : Node) (cut : Cut) (ns : List Node) → IsSmallLawful i n → n.block ≡ Ell cut ns
    → All (IsSmallLawful i) ns × (held_count_all i ns < 2 ^ 32)
ready-ell i n cut ns h e =
    let w : IsLawful i n.region (Ell cut ns) = rw e at h.0 in (
      all_small i (ell_parts n.region cut) ns (lawful-ell i n.region cut ns w) (small-ell n.region cut w.0 h.1 w.1),
      omega (arith, held-ell i n.region cut ns, held-le i n.region (Ell cut ns) w, area-small n.region w.0 h.1),
    )

pub node-below : (ns : List Node) (k : ℕ) (n : Node) → k < length ns → n ≡ get_or ns k n → node_count n.block < node_count_all ns
node-below [] k n h e = absurd (omega arith)
node-below (m ∷ ns) zero n h e = let f : n ≡ m = e in rw f (omega arith)
node-below (m ∷ ns) (suc k) n h e = omega (arith, node-below ns k n (omega arith) e)
