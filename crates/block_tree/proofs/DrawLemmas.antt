-- What a lawful tree draws is a layout of its region, with as many cases as it holds.
use Rattle.std.proofs.Common.{◌≡◌, ℕ, zero, suc, Bool, true, false, ◌⊎◌, ◌+◌, ◌*◌, ◌/◌, ◌≤◌, List, [], ◌∷◌, ◌++◌, map, length, refl, ap, ◌∙◌, arith, inl, inr}
use Rattle.std.proofs.lemmas.List.{length-append, length-map}
use Rattle.std.proofs.Math.Nat.{div-mul-le_self}
use Rattle.plan_geometry.specs.declared.spots.Way.{Way}
use Rattle.plan_geometry.specs.declared.spots.Spot.{Spot}
use Rattle.plan_geometry.specs.declared.instances.Inst.{Inst}
use Rattle.plan_geometry.specs.Layout.{x_extent, y_extent, x_end, y_end, AreApart, IsLawfulWay}
use Rattle.block_tree.specs.declared.regions.Region.{Region}
use Rattle.block_tree.specs.declared.regions.Cut.{Cut}
use Rattle.block_tree.specs.declared.regions.Cut.TheVariants.{K1, K2, K3, K4}
use Rattle.block_tree.specs.declared.nodes.Block.{Block, Empty, Grid, Five', Ell', Row_of-Node, end_of-Node, more_of-Node}
use Rattle.block_tree.specs.declared.parts.Part.{Part}
use Rattle.block_tree.specs.Regions.{IsOrdered, is_rectangle, side_x, side_y, Within}
use Rattle.block_tree.specs.Parts.{five_parts, IsCut, ell_parts}
use Rattle.block_tree.specs.Trees.{held_count, held_count_row, IsLawful, AreLawfulRow}
use Rattle.block_tree.specs.Drawing.{row_spots, grid_spots, placed_at, placed, drawn, drawn_row, InRegion, HasRoom}
use Rattle.plan_geometry.proofs.Recursive.{Each, EachPair}
use Rattle.block_tree.proofs.AreaLemmas.{Rectangular, rectangular, by_wide, by_tall, by_low, by_left}

-- ---- lists of spots

each-append : (P : Spot → Type 0) (xs ys : List Spot) → Each P xs → Each P ys → Each P (xs ++ ys)
each-append P [] ys h k = k
each-append P (x ∷ xs) ys h k = (h.0, each-append P xs ys h.1 k)

pub each-weaken : (P Q : Spot → Type 0) → ((s : Spot) → P s → Q s) → (xs : List Spot) → Each P xs → Each Q xs
each-weaken P Q f [] h = tt
each-weaken P Q f (x ∷ xs) h = (f x h.0, each-weaken P Q f xs h.1)

each-map : (P Q : Spot → Type 0) (g : Spot → Spot) → ((s : Spot) → P s → Q (g s)) → (xs : List Spot) → Each P xs → Each Q (map g xs)
each-map P Q g f [] h = tt
each-map P Q g f (x ∷ xs) h = (f x h.0, each-map P Q g f xs h.1)

-- two lists, each with a fact of its members that keeps them apart
apart-append : (i : Inst) (P Q : Spot → Type 0) → ((s t : Spot) → P s → Q t → AreApart i s t) → (xs ys : List Spot)
    → Each P xs → Each Q ys → EachPair (AreApart i) xs → EachPair (AreApart i) ys → EachPair (AreApart i) (xs ++ ys)
apart-append i P Q f [] ys h k a b = b
apart-append i P Q f (x ∷ xs) ys h k a b =
    (each-append (AreApart i x) xs ys a.0 (each-weaken Q (AreApart i x) (λ t q. f x t h.0 q) ys k), apart-append i P Q f xs ys h.1 k a.1 b)

apart-map : (i : Inst) (P : Spot → Type 0) (g : Spot → Spot) → ((s t : Spot) → P s → P t → AreApart i s t → AreApart i (g s) (g t))
    → (xs : List Spot) → Each P xs → EachPair (AreApart i) xs → EachPair (AreApart i) (map g xs)
apart-map i P g f [] h a = tt
apart-map i P g f (x ∷ xs) h a = (go xs h.1 a.0, apart-map i P g f xs h.1 a.1) where
  go : (ys : List Spot) → Each P ys → Each (AreApart i x) ys → Each (AreApart i (g x)) (map g ys)
  go [] k b = tt
  go (y ∷ ys) k b = (f x y h.0 k.0 b.0, go ys k.1 b.1)

-- ---- grids

abbrev InBox : Inst → Way → ℕ → ℕ → Spot → Type 0
InBox i way a b s = (x_end i s ≤ a) × (y_end i s ≤ b) × (s.way ≡ way)

abbrev InRow : Inst → Way → ℕ → ℕ → Spot → Type 0
InRow i way y a s = (x_end i s ≤ a) × (s.y ≡ y) × (s.way ≡ way)

grow : (n e : ℕ) → suc n * e ≡ n * e + e
grow n e = omega arith

row-in : (i : Inst) (way : Way) (y n : ℕ) → Each (InRow i way y (n * x_extent i way)) (row_spots i way y n)
row-in i way y zero = tt
row-in i way y (suc n) =
    let e = grow n (x_extent i way) in
    each-append (InRow i way y (suc n * x_extent i way)) (row_spots i way y n) _
    (each-weaken (InRow i way y (n * x_extent i way)) (InRow i way y (suc n * x_extent i way)) (λ s h. (omega arith, h.1, h.2)) (row_spots i way y n) (row-in i way y n))
    ((omega arith, refl, refl), tt)

row-apart : (i : Inst) (way : Way) (y n : ℕ) → EachPair (AreApart i) (row_spots i way y n)
row-apart i way y zero = tt
row-apart i way y (suc n) =
    apart-append i (InRow i way y (n * x_extent i way)) (λ t. t.x ≡ n * x_extent i way) (λ s t h k. inl (omega arith))
    (row_spots i way y n) _ (row-in i way y n) (refl, tt) (row-apart i way y n) (tt, tt)

row-length : (i : Inst) (way : Way) (y n : ℕ) → length (row_spots i way y n) ≡ n
row-length i way y zero = refl
row-length i way y (suc n) = length-append (row_spots i way y n) _ ∙ (omega (arith, row-length i way y n))

grid-in : (i : Inst) (way : Way) (n m : ℕ) → Each (InBox i way (n * x_extent i way) (m * y_extent i way)) (grid_spots i way n m)
grid-in i way n zero = tt
grid-in i way n (suc m) =
    let e = grow m (y_extent i way) in
    each-append (InBox i way (n * x_extent i way) (suc m * y_extent i way)) (grid_spots i way n m) _
    (each-weaken (InBox i way (n * x_extent i way) (m * y_extent i way)) (InBox i way (n * x_extent i way) (suc m * y_extent i way))
    (λ s h. (h.0, omega arith, h.2)) (grid_spots i way n m) (grid-in i way n m))
    (each-weaken (InRow i way (m * y_extent i way) (n * x_extent i way)) (InBox i way (n * x_extent i way) (suc m * y_extent i way))
    (λ s h. (h.0, (let f : y_extent i s.way ≡ y_extent i way = ap (y_extent i) h.2 in omega arith), h.2)) (row_spots i way (m * y_extent i way) n) (row-in i way (m * y_extent i way) n))

grid-apart : (i : Inst) (way : Way) (n m : ℕ) → EachPair (AreApart i) (grid_spots i way n m)
grid-apart i way n zero = tt
grid-apart i way n (suc m) =
    apart-append i (InBox i way (n * x_extent i way) (m * y_extent i way)) (InRow i way (m * y_extent i way) (n * x_extent i way))
    (λ s t h k. inr (inr (inl (omega arith)))) (grid_spots i way n m) (row_spots i way (m * y_extent i way) n)
    (grid-in i way n m) (row-in i way (m * y_extent i way) n) (grid-apart i way n m) (row-apart i way (m * y_extent i way) n)

grid-length : (i : Inst) (way : Way) (n m : ℕ) → length (grid_spots i way n m) ≡ n * m
grid-length i way n zero = omega arith
grid-length i way n (suc m) =
    length-append (grid_spots i way n m) _ ∙ omega (arith, grid-length i way n m, row-length i way (m * y_extent i way) n)

-- ---- regions and parts

-- what is known of each spot that a tree draws
abbrev pub Stands : Inst → Region → Spot → Type 0
Stands i r s = InRegion i r s × IsLawfulWay i s.way

in-sides : (i : Inst) (r : Region) → IsOrdered r → is_rectangle r ≡ true → (s : Spot) → x_end i s ≤ side_x r → y_end i s ≤ side_y r → InRegion i r s
in-sides i r o h s a b = go (rectangular r o h) where
  go : Rectangular r → InRegion i r s
  go (by_wide x y z w) = (omega arith, omega arith, inl (omega arith))
  go (by_tall x y z w) = (omega arith, omega arith, inr (omega arith))
  go (by_low x y z) = (omega arith, omega arith, inr (omega arith))
  go (by_left x y z) = (omega arith, omega arith, inl (omega arith))

-- a spot of the whole that stands in a part
abbrev pub From : Bool → ℕ → ℕ → ℕ → Type 0
From false at low high = at ≤ low
From true at low high = high ≤ at

abbrev pub UpTo : Bool → ℕ → ℕ → ℕ → ℕ → Type 0
UpTo false at n low high = high ≤ at + n
UpTo true at n low high = at ≤ low + n

abbrev pub InPart : Inst → Part → Spot → Type 0
InPart i p s =
    From p.flip_x p.at_x s.x (x_end i s) × From p.flip_y p.at_y s.y (y_end i s)
    × UpTo p.flip_x p.at_x p.region.big_x s.x (x_end i s) × UpTo p.flip_y p.at_y p.region.big_y s.y (y_end i s)
    × (UpTo p.flip_x p.at_x p.region.small_x s.x (x_end i s) ⊎ UpTo p.flip_y p.at_y p.region.small_y s.y (y_end i s))

-- a part that is flipped has room
abbrev pub HasPartRoom : Part → Type 0
HasPartRoom p = HasRoom p.flip_x p.at_x p.region.big_x × HasRoom p.flip_y p.at_y p.region.big_y

-- the law: each part lies in the region, and no two share a cell
abbrev pub AllInside : Inst → Region → List Part → Type 0
AllInside i r [] = Unit {0}
AllInside i r (p ∷ ps) = ((s : Spot) → InPart i p s → InRegion i r s) × AllInside i r ps

abbrev pub Disjoint : Inst → Part → List Part → Type 0
Disjoint i p [] = Unit {0}
Disjoint i p (q ∷ qs) = ((s t : Spot) → InPart i p s → InPart i q t → AreApart i s t) × Disjoint i p qs

abbrev pub AllDisjoint : Inst → List Part → Type 0
AllDisjoint i [] = Unit {0}
AllDisjoint i (p ∷ ps) = Disjoint i p ps × AllDisjoint i ps

pub five-inside : (i : Inst) (r : Region) → IsOrdered r → is_rectangle r ≡ true → (x1 x2 y1 y2 : ℕ) → x1 ≤ x2 → x2 ≤ side_x r → y1 ≤ y2 → y2 ≤ side_y r
    → AllInside i r (five_parts (side_x r) (side_y r) x1 x2 y1 y2)
five-inside i r o h x1 x2 y1 y2 a b c d = (
  λ s k. in-sides i r o h s (omega arith) (omega arith),
  (
    λ s k. in-sides i r o h s (omega arith) (omega arith),
    (
      λ s k. in-sides i r o h s (omega arith) (omega arith),
      (
        λ s k. in-sides i r o h s (omega arith) (omega arith),
        (λ s k. in-sides i r o h s (omega arith) (omega arith), tt),
      ),
    ),
  ),
)

pub five-disjoint : (i : Inst) (a b x1 x2 y1 y2 : ℕ) → x1 ≤ x2 → x2 ≤ a → y1 ≤ y2 → y2 ≤ b → AllDisjoint i (five_parts a b x1 x2 y1 y2)
five-disjoint i a b x1 x2 y1 y2 h1 h2 h3 h4 = (
  (λ s t k l. inl (omega arith), (λ s t k l. inr (inr (inl (omega arith))), (λ s t k l. inr (inr (inl (omega arith))), (λ s t k l. inr (inr (inl (omega arith))), tt)))),
  (
    (λ s t k l. inr (inl (omega arith)), (λ s t k l. inr (inr (inl (omega arith))), (λ s t k l. inr (inl (omega arith)), tt))),
    (
      (λ s t k l. inl (omega arith), (λ s t k l. inl (omega arith), tt)),
      ((λ s t k l. inr (inr (inr (omega arith))), tt), (tt, tt)),
    ),
  ),
)

-- ---- the law of the four cuts

pub ell-inside : (i : Inst) (r : Region) (cut : Cut) → IsOrdered r → IsCut r cut → AllInside i r (ell_parts r cut)
ell-inside i r (K1 x1 x2 y1) o h =
    (λ s k. in-sides i r o h.0 s (omega arith) (omega arith), (λ s k. in-sides i r o h.0 s (omega arith) (omega arith), tt))
ell-inside i r (K2 c e) o h = (
  λ s k. (omega arith, omega arith, elim k.4 [ inl a ↦ inl (omega arith) | inr a ↦ inr (omega arith) ]),
  (λ s k. (omega arith, omega arith, elim k.4 [ inl a ↦ inl (omega arith) | inr a ↦ inr (omega arith) ]), tt),
)
ell-inside i r (K3 d e) o h = (
  λ s k. (omega arith, omega arith, elim k.4 [ inl a ↦ inl (omega arith) | inr a ↦ inr (omega arith) ]),
  (λ s k. (omega arith, omega arith, inr (omega arith)), tt),
)
ell-inside i r (K4 c e) o h = (
  λ s k. (omega arith, omega arith, elim k.4 [ inl a ↦ inl (omega arith) | inr a ↦ inr (omega arith) ]),
  (λ s k. (omega arith, omega arith, inl (omega arith)), tt),
)

pub ell-disjoint : (i : Inst) (r : Region) (cut : Cut) → IsOrdered r → IsCut r cut → AllDisjoint i (ell_parts r cut)
ell-disjoint i r (K1 x1 x2 y1) o h =
    ((λ s t k l. elim k.4 [ inl a ↦ inl (omega arith) | inr a ↦ elim l.4 [ inl b ↦ inl (omega arith) | inr b ↦ inr (inr (inl (omega arith))) ] ], tt), (tt, tt))
ell-disjoint i r (K2 c e) o h =
    ((λ s t k l. elim k.4 [ inl a ↦ inl (omega arith) | inr a ↦ inr (inr (inl (omega arith))) ], tt), (tt, tt))
ell-disjoint i r (K3 d e) o h =
    ((λ s t k l. elim l.4 [ inl b ↦ inl (omega arith) | inr b ↦ inr (inr (inr (omega arith))) ], tt), (tt, tt))
ell-disjoint i r (K4 c e) o h =
    ((λ s t k l. elim l.4 [ inl b ↦ inr (inl (omega arith)) | inr b ↦ inr (inr (inl (omega arith))) ], tt), (tt, tt))

-- ---- placing

abbrev pub AllRoom : List Part → Type 0
AllRoom [] = Unit {0}
AllRoom (p ∷ ps) = HasPartRoom p × AllRoom ps

pub five-room : (a b x1 x2 y1 y2 : ℕ) → AllRoom (five_parts a b x1 x2 y1 y2)
five-room a b x1 x2 y1 y2 = ((tt, tt), ((tt, tt), ((tt, tt), ((tt, tt), ((tt, tt), tt)))))

pub ell-room : (r : Region) (cut : Cut) → IsCut r cut → AllRoom (ell_parts r cut)
ell-room r (K1 x1 x2 y1) h = ((tt, tt), ((omega arith, omega arith), tt))
ell-room r (K2 c e) h = ((tt, tt), ((tt, tt), tt))
ell-room r (K3 d e) h = ((tt, tt), ((omega arith, tt), tt))
ell-room r (K4 c e) h = ((tt, tt), ((tt, omega arith), tt))

pub within-in : (i : Inst) (r p : Region) → Within r p → (s : Spot) → InRegion i r s → InRegion i p s
within-in i r p w s h = (omega arith, omega arith, elim h.2 [ inl a ↦ inl (omega arith) | inr a ↦ inr (omega arith) ])

placed-from : (f : Bool) (at n a e : ℕ) → HasRoom f at n → a + e ≤ n → From f at (placed_at f at a (a + e)) (placed_at f at a (a + e) + e)
placed-from false at n a e r h = omega arith
placed-from true at n a e r h = omega arith

placed-up : (f : Bool) (at n m a e : ℕ) → HasRoom f at n → a + e ≤ n → a + e ≤ m → UpTo f at m (placed_at f at a (a + e)) (placed_at f at a (a + e) + e)
placed-up false at n m a e r h k = omega arith
placed-up true at n m a e r h k = omega arith

-- two that are apart in one direction stay so
placed-order : (f : Bool) (at n a d b e : ℕ) → HasRoom f at n → a + d ≤ n → b + e ≤ n → a + d ≤ b
    → (placed_at f at a (a + d) + d ≤ placed_at f at b (b + e)) ⊎ (placed_at f at b (b + e) + e ≤ placed_at f at a (a + d))
placed-order false at n a d b e r h k l = inl (omega arith)
placed-order true at n a d b e r h k l = inr (omega arith)

placed-in : (i : Inst) (p : Part) → HasPartRoom p → (s : Spot) → InRegion i p.region s → InPart i p (placed i p s)
placed-in i p m s h =
    let d = x_extent i s.way in
    let e = y_extent i s.way in (
      placed-from p.flip_x p.at_x p.region.big_x s.x d m.0 h.0,
      placed-from p.flip_y p.at_y p.region.big_y s.y e m.1 h.1,
      placed-up p.flip_x p.at_x p.region.big_x p.region.big_x s.x d m.0 h.0 h.0,
      placed-up p.flip_y p.at_y p.region.big_y p.region.big_y s.y e m.1 h.1 h.1,
      elim h.2 [
        | inl a ↦ inl (placed-up p.flip_x p.at_x p.region.big_x p.region.small_x s.x d m.0 h.0 a)
        | inr a ↦ inr (placed-up p.flip_y p.at_y p.region.big_y p.region.small_y s.y e m.1 h.1 a)
      ],
    )

placed-apart : (i : Inst) (p : Part) → HasPartRoom p → (s t : Spot) → InRegion i p.region s → InRegion i p.region t → AreApart i s t → AreApart i (placed i p s) (placed i p t)
placed-apart i p m s t h k (inl a) =
    elim (placed-order p.flip_x p.at_x p.region.big_x s.x (x_extent i s.way) t.x (x_extent i t.way) m.0 h.0 k.0 a) [ inl b ↦ inl b | inr b ↦ inr (inl b) ]
placed-apart i p m s t h k (inr (inl a)) =
    elim (placed-order p.flip_x p.at_x p.region.big_x t.x (x_extent i t.way) s.x (x_extent i s.way) m.0 k.0 h.0 a) [ inl b ↦ inr (inl b) | inr b ↦ inl b ]
placed-apart i p m s t h k (inr (inr (inl a))) =
    elim (placed-order p.flip_y p.at_y p.region.big_y s.y (y_extent i s.way) t.y (y_extent i t.way) m.1 h.1 k.1 a) [ inl b ↦ inr (inr (inl b)) | inr b ↦ inr (inr (inr b)) ]
placed-apart i p m s t h k (inr (inr (inr a))) =
    elim (placed-order p.flip_y p.at_y p.region.big_y t.y (y_extent i t.way) s.y (y_extent i s.way) m.1 k.1 h.1 a) [ inl b ↦ inr (inr (inr b)) | inr b ↦ inr (inr (inl b)) ]

-- ---- a whole tree

abbrev InSome : Inst → List Part → Spot → Type 0
InSome i [] s = ⊥
InSome i (p ∷ ps) s = InPart i p s ⊎ InSome i ps s

disjoint-some : (i : Inst) (p : Part) (ps : List Part) → Disjoint i p ps → (s t : Spot) → InPart i p s → InSome i ps t → AreApart i s t
disjoint-some i p [] d s t h k = absurd k
disjoint-some i p (q ∷ qs) d s t h (inl k) = d.0 s t h k
disjoint-some i p (q ∷ qs) d s t h (inr k) = disjoint-some i p qs d.1 s t h k

inside-some : (i : Inst) (r : Region) (ps : List Part) → AllInside i r ps → (s : Spot) → InSome i ps s → InRegion i r s
inside-some i r [] d s k = absurd k
inside-some i r (p ∷ ps) d s (inl k) = d.0 s k
inside-some i r (p ∷ ps) d s (inr k) = inside-some i r ps d.1 s k

abbrev StandsSome : Inst → List Part → Spot → Type 0
StandsSome i ps s = InSome i ps s × IsLawfulWay i s.way

pub record Drawn (i : Inst) (r : Region) (n : ℕ) (ss : List Spot) : Type 0 where
  pub stands : Each (Stands i r) ss
  pub apart : EachPair (AreApart i) ss
  pub count : length ss ≡ n

record DrawnRow (i : Inst) (ps : List Part) (n : ℕ) (ss : List Spot) : Type 0 where
  pub stands : Each (StandsSome i ps) ss
  pub apart : EachPair (AreApart i) ss
  pub count : length ss ≡ n

from-row : (i : Inst) (r : Region) (ps : List Part) (n : ℕ) (ss : List Spot) → AllInside i r ps → DrawnRow i ps n ss → Drawn i r n ss
from-row i r ps n ss a d = record {
  stands = each-weaken (StandsSome i ps) (Stands i r) (λ s h. (inside-some i r ps a s h.0, h.1)) ss d.stands;
  apart = d.apart;
  count = d.count;
}

lawful-way : (i : Inst) (v w : Way) → v ≡ w → IsLawfulWay i w → IsLawfulWay i v
lawful-way i v w e h = rw e h

mutual
  pub drawn-is : (i : Inst) (r : Region) (b : Block) → IsLawful i r b → Drawn i r (held_count i r b) (drawn i r b)
  drawn-is i r Empty h = record { stands = tt; apart = tt; count = refl }
  drawn-is i r (Grid way) h =
      let n = side_x r / x_extent i way in
      let m = side_y r / y_extent i way in
      let ex : n * x_extent i way ≤ side_x r = div-mul-le_self (side_x r) (x_extent i way) in
      let ey : m * y_extent i way ≤ side_y r = div-mul-le_self (side_y r) (y_extent i way) in
      record {
        stands = each-weaken (InBox i way (n * x_extent i way) (m * y_extent i way)) (Stands i r)
            (λ s k. (in-sides i r h.0 h.1 s (omega arith) (omega arith), lawful-way i s.way way k.2 h.2)) (grid_spots i way n m) (grid-in i way n m);
        apart = grid-apart i way n m;
        count = grid-length i way n m;
      }
  drawn-is i r (Five' x1 x2 y1 y2 shape all) h =
      let ps = five_parts (side_x r) (side_y r) x1 x2 y1 y2 in
      from-row i r ps _ _ (five-inside i r h.0 h.1.0 x1 x2 y1 y2 h.1.1 h.1.2 h.1.3 h.1.4)
      (drawn_row-is i ps all h.2 (five-disjoint i (side_x r) (side_y r) x1 x2 y1 y2 h.1.1 h.1.2 h.1.3 h.1.4) (five-room (side_x r) (side_y r) x1 x2 y1 y2))
  drawn-is i r (Ell' cut shape all) h =
      from-row i r (ell_parts r cut) _ _ (ell-inside i r cut h.0 h.1) (drawn_row-is i (ell_parts r cut) all h.2 (ell-disjoint i r cut h.0 h.1) (ell-room r cut h.1))

  drawn_row-is : (i : Inst) (ps : List Part) {n : _} (k : Row_of-Node n) → AreLawfulRow i ps k → AllDisjoint i ps → AllRoom ps
      → DrawnRow i ps (held_count_row i k) (drawn_row i ps k)
  drawn_row-is i [] end_of-Node h d m = record { stands = tt; apart = tt; count = refl }
  drawn_row-is i (p ∷ ps) end_of-Node h d m = absurd h
  drawn_row-is i [] (more_of-Node r b rest) h d m = absurd h
  drawn_row-is i (p ∷ ps) (more_of-Node r b rest) h d m =
      let one = drawn-is i r b h.1 in
      let others = drawn_row-is i ps rest h.2 d.1 m.1 in
      let mine : Each (λ s. InPart i p s × IsLawfulWay i s.way) (map (placed i p) (drawn i r b))
      = each-map (Stands i r) (λ s. InPart i p s × IsLawfulWay i s.way) (placed i p)
      (λ s k. (placed-in i p m.0 s (within-in i r p.region h.0 s k.0), k.1)) (drawn i r b) one.stands in
      record {
        stands = each-append (StandsSome i (p ∷ ps)) (map (placed i p) (drawn i r b)) (drawn_row i ps rest)
            (each-weaken (λ s. InPart i p s × IsLawfulWay i s.way) (StandsSome i (p ∷ ps)) (λ s k. (inl k.0, k.1)) (map (placed i p) (drawn i r b)) mine)
            (each-weaken (StandsSome i ps) (StandsSome i (p ∷ ps)) (λ s k. (inr k.0, k.1)) (drawn_row i ps rest) others.stands);
        apart = apart-append i (λ s. InPart i p s × IsLawfulWay i s.way) (StandsSome i ps)
            (λ s t u v. disjoint-some i p ps d.0 s t u.0 v.0) (map (placed i p) (drawn i r b)) (drawn_row i ps rest) mine others.stands
            (apart-map i (Stands i r) (placed i p) (λ s t u v. placed-apart i p m.0 s t (within-in i r p.region h.0 s u.0) (within-in i r p.region h.0 t v.0)) (drawn i r b) one.stands one.apart)
            others.apart;
        count = length-append (map (placed i p) (drawn i r b)) (drawn_row i ps rest) ∙ (omega (arith, length-map (drawn i r b) (placed i p), one.count, others.count));
      }
