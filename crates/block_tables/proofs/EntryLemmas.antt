-- An entry of the table is the greatest number of its block.
use Rattle.std.proofs.Common.{◌≡◌, ℕ, zero, suc, ◌⊎◌, ◌+◌, ◌-◌, ◌*◌, ◌/◌, ◌≤◌, ◌<◌, List, [], ◌∷◌, ◌++◌, length, slice_index, Option, Some, None, MatchOption, Bor, refl, ap, sym, ◌∙◌, subst, arith, inl, inr}
use Rattle.std.proofs.lemmas.Bool.{cases_lt}
use Rattle.std.proofs.Math.Nat.{mul-le-mul_right, le_refl}
use Rattle.std.proofs.lemmas.Nat.{le-div, mul-le}
use Rattle.std.specs.List.{Contains}
use Rattle.std.proofs.lemmas.List.{get_or_default, get_or_append_left, length-replicate}
use Rattle.std.proofs.Math.Seq.{get_or-append_seam}
use Rattle.std.specs.Prelude.{replicate}
use Rattle.raster_points.specs.Places.{IsRaster, Lists}
use Rattle.raster_points.specs.Points.{SidePoints, ArePoints, ArePointsOf}
use Rattle.plan_geometry.specs.declared.spots.Axis.{Axis}
use Rattle.plan_geometry.specs.declared.spots.Axis.TheVariants.{X, Y}
use Rattle.plan_geometry.specs.Layout.{side}
use Rattle.block_tables.specs.declared.filling.Filling.{Filling}
use Rattle.plan_geometry.specs.declared.instances.Inst.{Inst}
use Rattle.block_tree.specs.Trees.{uniform}
use Rattle.block_tables.specs.declared.patterns.Pattern.{Pattern}
use Rattle.block_tables.specs.declared.patterns.Pattern.TheVariants.{Five, Four}
use Rattle.block_tables.specs.declared.tables.Table.{Table}
use Rattle.block_tables.specs.declared.tables.Best.{Best}
use Rattle.block_tables.specs.declared.tables.Job.{Job}
use Rattle.block_tables.specs.declared.tables.Split.{Split}
use Rattle.block_tables.specs.Numbers.{IsRasterOf, RoundsTo, IsSum, AreCuts, IsNumber, by_grid, by_cuts, IsPartNumber, rounded, IsCentreNumber, counted, uncounted, Greatest}
use Rattle.block_tables.specs.Tables.{IsDue, IsJob, IsTable, centre, parts_sum, HasPlace, ArePlaced, AreRasters, look, IsFilled, IsFound, IsReached, CoversAll}
use Rattle.block_tables.specs.Built.{IsFilling, IsProper, IsKept, IsSolved}
use Rattle.block_tables.proofs.BoundLemmas.{bounded, area, raster-le, down-le, none_x, none_y}

-- there is one greatest normal point
pub down-one : (i : Inst) (s d e : ℕ) → RoundsTo i s d → RoundsTo i s e → d ≡ e
down-one i s d e h k =
    let a = h.greatest e k.normal in
    let b = k.greatest d h.normal in
    omega arith

-- a place is no later than that of a point that is no less
pub place-le : (i : Inst) (xs dx : List ℕ) (s r : ℕ) → ArePlaced i xs dx → s < length dx → r < length xs → s ≤ slice_index xs r → slice_index dx s ≤ r
place-le i xs dx s r p h k l =
    elim (cases_lt r (slice_index dx s)) [
      | inl w ↦ (let a = p.rising r (slice_index dx s) w (p.places s h) in let b = down-le i s _ (p.downs s h) in absurd (omega arith))
      | inr w ↦ w
    ]

-- and is the same only where the point is the same
pub place-same : (i : Inst) (xs dx : List ℕ) (s r : ℕ) → ArePlaced i xs dx → s < length dx → s ≤ slice_index xs r → slice_index dx s ≡ r → s ≡ slice_index xs r
place-same i xs dx s r p h l e =
    let a : slice_index xs (slice_index dx s) ≡ slice_index xs r = ap (λ k. slice_index xs k) e in
    let b = down-le i s _ (p.downs s h) in
    omega arith

-- a normal point has its own place
place-own : (i : Inst) (xs dx : List ℕ) (s r : ℕ) → ArePlaced i xs dx → s < length dx → r < length xs → s ≡ slice_index xs r → slice_index dx s ≡ r
place-own i xs dx s r p h k e =
    let x = place-le i xs dx s r p h k (omega arith) in
    let d = p.downs s h in
    let n : IsSum i s = subst (λ z. IsSum i z) (sym e) (p.sums r k) in
    let g : s ≤ slice_index xs (slice_index dx s) = d.greatest s (record { i = n.i; j = n.j; sum = n.sum; within = omega arith }) in
    elim (cases_lt (slice_index dx s) r) [
      | inl w ↦ (let q = p.rising (slice_index dx s) r w k in absurd (omega arith))
      | inr w ↦ omega arith
    ]

pub earlier : (r r' c c' n : ℕ) → r' < r → c' < n → r' * n + c' < r * n + c
earlier r r' c c' n h k =
    let a : (r' + 1) * n ≤ r * n = mul-le-mul_right n (omega arith) in
    let b : (r' + 1) * n ≡ r' * n + n = omega arith in
    omega arith

module _ (i : Inst) (pat : Pattern) (xs ys : List ℕ) (t : Table) (r c : ℕ) (f : IsFilled i pat xs ys t (r * t.y_count + c)) (r_in : r < length xs) (c_in : c < length ys)
    (a_in : slice_index xs r < length t.x_places.items) (b_in : slice_index ys c < length t.y_places.items) where
  abbrev a : ℕ
  a = slice_index xs r

  abbrev b : ℕ
  b = slice_index ys c

  -- a smaller block has its number in the table
  before : (p q : ℕ) → p ≤ a → q ≤ b → p + q < a + b → slice_index t.x_places.items p * t.y_count + slice_index t.y_places.items q < r * t.y_count + c
  before p q h k l =
      let x = place-le i xs t.x_places.items p r f.on_x (omega arith) r_in h in
      let y = place-le i ys t.y_places.items q c f.on_y (omega arith) c_in k in
      let w : slice_index t.y_places.items q < t.y_count = f.table.columns q (omega arith) in
      elim (cases_lt (slice_index t.x_places.items p) r) [
        | inl z ↦ earlier r (slice_index t.x_places.items p) c (slice_index t.y_places.items q) t.y_count z w
        | inr z ↦ (let e : slice_index t.x_places.items p ≡ r = omega arith in
            elim (cases_lt (slice_index t.y_places.items q) c) [
              | inl v ↦ rw e (omega arith)
              | inr v ↦ (let g = place-same i xs t.x_places.items p r f.on_x (omega arith) h e in
                  let g2 = place-same i ys t.y_places.items q c f.on_y (omega arith) k (omega arith) in absurd (omega arith))
            ])
      ]

  entry : (p q : ℕ) → p ≤ a → q ≤ b → p + q < a + b
      → Greatest (IsNumber i pat (slice_index xs (slice_index t.x_places.items p)) (slice_index ys (slice_index t.y_places.items q))) (look t p q)
  entry p q h k l = f.filled (slice_index t.x_places.items p) (slice_index t.y_places.items q) (f.table.columns q (omega arith)) (before p q h k l)

  part-le : (p q n : ℕ) → p ≤ a → q ≤ b → p + q < a + b → IsPartNumber i pat p q n → n ≤ look t p q
  part-le p q n h k l (rounded {a = d} {b = e} v w g) =
      let x : d ≡ slice_index xs (slice_index t.x_places.items p) = down-one i p _ _ v (f.on_x.downs p (omega arith)) in
      let y : e ≡ slice_index ys (slice_index t.y_places.items q) = down-one i q _ _ w (f.on_y.downs q (omega arith)) in
      let g1 = subst (λ z. IsNumber i pat z e n) x g in
      let g2 = subst (λ z. IsNumber i pat (slice_index xs (slice_index t.x_places.items p)) z n) y g1 in
      (entry p q h k l).greatest n g2

  part-is : (p q : ℕ) → p ≤ a → q ≤ b → p + q < a + b → IsPartNumber i pat p q (look t p q)
  part-is p q h k l = rounded (f.on_x.downs p (omega arith)) (f.on_y.downs q (omega arith)) (entry p q h k l).reached

  whole-none : (p q : ℕ) → p ≡ a → q ≡ b → look t p q ≡ 0
  whole-none p q h k =
      let x : slice_index t.x_places.items p ≡ r = place-own i xs t.x_places.items p r f.on_x (omega arith) r_in h in
      let y : slice_index t.y_places.items q ≡ c = place-own i ys t.y_places.items q c f.on_y (omega arith) c_in k in
      f.rest _ (rw (x, y) (omega arith))

  empty_x : (p q : ℕ) → p ≡ 0 → q ≤ b → look t p q ≡ 0
  empty_x p q h k =
      elim (cases_lt (p + q) (a + b)) [
        | inl w ↦ none_x i pat (entry p q (omega arith) k w).reached (let g = down-le i p _ (f.on_x.downs p (omega arith)) in omega arith)
        | inr w ↦ whole-none p q (omega arith) (omega arith)
      ]

  empty_y : (p q : ℕ) → p ≤ a → q ≡ 0 → look t p q ≡ 0
  empty_y p q h k =
      elim (cases_lt (p + q) (a + b)) [
        | inl w ↦ none_y i pat (entry p q h (omega arith) w).reached (let g = down-le i q _ (f.on_y.downs q (omega arith)) in omega arith)
        | inr w ↦ whole-none p q (omega arith) (omega arith)
      ]

  centre-is : (p q : ℕ) → p ≤ a → q ≤ b → p + q < a + b → IsCentreNumber i pat p q (centre pat (look t) p q)
  centre-is p q h k l = go pat refl where
    go : (w : Pattern) → pat ≡ w → IsCentreNumber i pat p q (centre w (look t) p q)
    go Five e = counted e (part-is p q h k l)
    go Four e = uncounted e refl

  centre-none : (p q : ℕ) → look t p q ≡ 0 → centre pat (look t) p q ≡ 0
  centre-none p q z = go pat where
    go : (w : Pattern) → centre w (look t) p q ≡ 0
    go Five = z
    go Four = refl

  -- none of the five parts is the block itself
  abbrev Less : ℕ → ℕ → ℕ → ℕ → Type 0
  Less x1 x2 y1 y2 = (x2 + y1 < a + b) × ((a - x2) + y2 < a + b) × (x1 + (b - y1) < a + b) × ((a - x1) + (b - y2) < a + b) × ((x2 - x1) + (y2 - y1) < a + b)

  -- cuts with a sum above 0 have no part that is the block itself
  less : (x1 x2 y1 y2 : ℕ) → x1 ≤ x2 → x2 ≤ a → y1 ≤ y2 → y2 ≤ b → 0 < parts_sum pat (look t) a b x1 x2 y1 y2 → Less x1 x2 y1 y2
  less x1 x2 y1 y2 lx l2 ly l4 g =
      let z = centre-none (x2 - x1) (y2 - y1) in
      elim (cases_lt (x2 + y1) (a + b)) [
        | inr w ↦
            absurd (omega (arith, whole-none x2 y1 (omega arith) (omega arith), empty_x (a - x2) y2 (omega arith) (omega arith), empty_y x1 (b - y1) (omega arith) (omega arith), empty_y (a - x1) (b - y2) (omega arith) (omega arith), z (empty_y (x2 - x1) (y2 - y1) (omega arith) (omega arith))))
        | inl w1 ↦ elim (cases_lt ((a - x2) + y2) (a + b)) [
          | inr w ↦
              absurd (omega (arith, whole-none (a - x2) y2 (omega arith) (omega arith), empty_x x2 y1 (omega arith) (omega arith), empty_x x1 (b - y1) (omega arith) (omega arith), empty_y (a - x1) (b - y2) (omega arith) (omega arith), z (empty_x (x2 - x1) (y2 - y1) (omega arith) (omega arith))))
          | inl w2 ↦ elim (cases_lt (x1 + (b - y1)) (a + b)) [
            | inr w ↦
                absurd (omega (arith, whole-none x1 (b - y1) (omega arith) (omega arith), empty_y x2 y1 (omega arith) (omega arith), empty_x (a - x2) y2 (omega arith) (omega arith), empty_x (a - x1) (b - y2) (omega arith) (omega arith), z (empty_x (x2 - x1) (y2 - y1) (omega arith) (omega arith))))
            | inl w3 ↦ elim (cases_lt ((a - x1) + (b - y2)) (a + b)) [
              | inr w ↦
                  absurd (omega (arith, whole-none (a - x1) (b - y2) (omega arith) (omega arith), empty_y x2 y1 (omega arith) (omega arith), empty_y (a - x2) y2 (omega arith) (omega arith), empty_x x1 (b - y1) (omega arith) (omega arith), z (empty_y (x2 - x1) (y2 - y1) (omega arith) (omega arith))))
              | inl w4 ↦ elim (cases_lt ((x2 - x1) + (y2 - y1)) (a + b)) [
                | inr w ↦
                    absurd (omega (arith, z (whole-none (x2 - x1) (y2 - y1) (omega arith) (omega arith)), empty_y x2 y1 (omega arith) (omega arith), empty_x (a - x2) y2 (omega arith) (omega arith), empty_x x1 (b - y1) (omega arith) (omega arith), empty_y (a - x1) (b - y2) (omega arith) (omega arith)))
                | inl w5 ↦ (w1, w2, w3, w4, w5)
              ]
            ]
          ]
        ]
      ]

  found-is : (x1 x2 y1 y2 : ℕ) → AreCuts i a b x1 x2 y1 y2 → 0 < parts_sum pat (look t) a b x1 x2 y1 y2 → IsNumber i pat a b (parts_sum pat (look t) a b x1 x2 y1 y2)
  found-is x1 x2 y1 y2 k g =
      let l1 = raster-le i a x1 k.x1_raster in
      let l2 = raster-le i a x2 k.x2_raster in
      let l3 = raster-le i b y1 k.y1_raster in
      let l4 = raster-le i b y2 k.y2_raster in
      let lx = k.x_order in
      let ly = k.y_order in
      let p = less x1 x2 y1 y2 lx l2 ly l4 g in
      by_cuts k (part-is x2 y1 (omega arith) (omega arith) p.0) (part-is (a - x2) y2 (omega arith) (omega arith) p.1) (part-is x1 (b - y1) (omega arith) (omega arith) p.2)
      (part-is (a - x1) (b - y2) (omega arith) (omega arith) p.3) (centre-is (x2 - x1) (y2 - y1) (omega arith) (omega arith) p.4) refl

  proper : (s : Split) (n : ℕ) → AreCuts i a b s.x1 s.x2 s.y1 s.y2 → n ≡ parts_sum pat (look t) a b s.x1 s.x2 s.y1 s.y2 → 0 < n → IsProper pat t a b s n
  proper s n k e g =
      let l2 = raster-le i a s.x2 k.x2_raster in
      let l4 = raster-le i b s.y2 k.y2_raster in
      let p = less s.x1 s.x2 s.y1 s.y2 k.x_order l2 k.y_order l4 (omega arith) in
      record { x_order = k.x_order; x_in = l2; y_order = k.y_order; y_in = l4; part1 = p.0; part2 = p.1; part3 = p.2; part4 = p.3; part5 = p.4; sum = e }

  -- the scan's answer is the greatest number of the block
  scanned : (rx ry : List ℕ) → AreRasters i a rx → AreRasters i b ry → (m : ℕ) → uniform i a b ≤ m
      → ((x1 x2 y1 y2 : ℕ) → HasPlace rx x1 → HasPlace rx x2 → HasPlace ry y1 → HasPlace ry y2 → x1 ≤ x2 → y1 ≤ y2 → parts_sum pat (look t) a b x1 x2 y1 y2 ≤ m)
      → (n : ℕ) → IsNumber i pat a b n → n ≤ m
  scanned rx ry hx hy m g k n e =
      bounded i pat a b m (look t) (f.on_x.sums r r_in) (f.on_y.sums c c_in) g (λ p q n' h l v w. part-le p q n' h l v w)
      (λ x1 x2 y1 y2 z. k x1 x2 y1 y2 (hx.all x1 z.x1_raster) (hx.all x2 z.x2_raster) (hy.all y1 z.y1_raster) (hy.all y2 z.y2_raster) z.x_order z.y_order)
      e refl refl

pub rasters-up : (i : Inst) (s : ℕ) (xs : List ℕ) → AreRasters i s xs → (k : ℕ) → k < length xs → slice_index xs k ≤ s
rasters-up i s xs h k l = raster-le i s _ (h.only (slice_index xs k) (k, l, refl))

case-some : (i : Inst) → 1 ≤ i.long * i.short
case-some i = mul-le 1 1 i.long i.short (omega (arith, i.sides.short_min, i.sides.ordered)) (omega (arith, i.sides.short_min))

capped : (i : Inst) (pat : Pattern) (a b n m : ℕ) → IsNumber i pat a b n → (a * b) / (i.long * i.short) ≤ m → n ≤ m
capped i pat a b n m h k =
    let p : 1 ≤ i.long * i.short = case-some i in
    let q : n ≤ (a * b) / (i.long * i.short) = le-div n (a * b) (i.long * i.short) p (area i pat h) in
    omega arith

value-small : (i : Inst) (pat : Pattern) (a b n : ℕ) → IsNumber i pat a b n → a ≤ 4000 → b ≤ 4000 → n ≤ 16000000
value-small i pat a b n h ha hb =
    let p : 1 ≤ i.long * i.short = case-some i in
    let q : n * 1 ≤ n * (i.long * i.short) = mul-le n 1 n (i.long * i.short) (le_refl n) p in
    let k : a * b ≤ 4000 * 4000 = mul-le a b 4000 4000 ha hb in
    omega (arith, area i pat h)

abbrev pub job : Inst → Bor Table → ℕ → ℕ → Bor (List ℕ) → Bor (List ℕ) → Job
job i tb a b rx ry = record { inst = i; table = tb; a = a; b = b; xs = rx; ys = ry }

-- what the scan of a block gives is the block's greatest number, with what a finished table keeps of it
pub solved : (i : Inst) (pat : Pattern) (xs ys : List ℕ) (tb : Bor Table) (r c : ℕ) → IsFilled i pat xs ys tb.now (r * tb.now.y_count + c) → r < length xs → c < length ys
    → slice_index xs r < length tb.now.x_places.items → slice_index ys c < length tb.now.y_places.items → slice_index xs r ≤ 4000 → slice_index ys c ≤ 4000
    → (rx ry : Bor (List ℕ)) → AreRasters i (slice_index xs r) rx.now → AreRasters i (slice_index ys c) ry.now → (m : Best)
    → uniform i (slice_index xs r) (slice_index ys c) ≤ m.value
    → (((slice_index xs r * slice_index ys c) / (i.long * i.short) ≤ m.value)
    ⊎ CoversAll pat (job i tb (slice_index xs r) (slice_index ys c) rx ry) m.value)
    → IsReached pat (job i tb (slice_index xs r) (slice_index ys c) rx ry) m
    → IsSolved i pat tb.now (slice_index xs r) (slice_index ys c) m
solved i pat xs ys tb r c f hr hc ha hb sa sb rx ry hx hy m g k w = record {
  best = record {
    reached = reached;
    greatest = λ n e. elim k [
      | inl z ↦ capped i pat (slice_index xs r) (slice_index ys c) n m.value e z
      | inr z ↦ scanned i pat xs ys tb.now r c f hr hc ha hb rx.now ry.now hx hy m.value g z n e
    ];
  };
  kept = keep m.split w;
  small = value-small i pat (slice_index xs r) (slice_index ys c) m.value reached sa sb;
} where
  cuts : (s : Split) → IsFound pat (job i tb (slice_index xs r) (slice_index ys c) rx ry) s m.value → AreCuts i (slice_index xs r) (slice_index ys c) s.x1 s.x2 s.y1 s.y2
  cuts s e = record { x1_raster = hx.only s.x1 e.has_x1; x2_raster = hx.only s.x2 e.has_x2; y1_raster = hy.only s.y1 e.has_y1; y2_raster = hy.only s.y2 e.has_y2; x_order = e.x_order; y_order = e.y_order }

  go : (o : Option Split) → MatchOption o (m.value ≡ uniform i (slice_index xs r) (slice_index ys c)) (λ s. IsFound pat (job i tb (slice_index xs r) (slice_index ys c) rx ry) s m.value) → IsNumber i pat (slice_index xs r) (slice_index ys c) m.value
  go None e = by_grid e
  go (Some s) e =
      let some : 0 < parts_sum pat (look tb.now) (slice_index xs r) (slice_index ys c) s.x1 s.x2 s.y1 s.y2 = rw e.sum at e.some in
      rw e.sum (found-is i pat xs ys tb.now r c f hr hc ha hb s.x1 s.x2 s.y1 s.y2 (cuts s e) some)

  reached : IsNumber i pat (slice_index xs r) (slice_index ys c) m.value
  reached = go m.split w

  keep : (o : Option Split) → MatchOption o (m.value ≡ uniform i (slice_index xs r) (slice_index ys c)) (λ s. IsFound pat (job i tb (slice_index xs r) (slice_index ys c) rx ry) s m.value)
      → IsKept i pat tb.now (slice_index xs r) (slice_index ys c) m.value o
  keep None e = e
  keep (Some s) e = proper i pat xs ys tb.now r c f hr hc ha hb s m.value (cuts s e) e.sum e.some

-- the place of a part lies in the table
pub in-table : (t : Table) → IsTable t → (c d : ℕ) → c < length t.x_places.items → d < length t.y_places.items
    → slice_index t.x_places.items c * t.y_count + slice_index t.y_places.items d < length t.values.items
in-table t h c d hc hd =
    let a = h.rows c hc in
    let b = h.columns d hd in
    let e : (slice_index t.x_places.items c + 1) * t.y_count ≤ t.x_count * t.y_count = mul-le-mul_right t.y_count (omega arith) in
    let g : (slice_index t.x_places.items c + 1) * t.y_count ≡ slice_index t.x_places.items c * t.y_count + t.y_count = omega arith in
    omega (arith, h.full)

-- what std says of a list of numbers, by index
pub place-contains : (xs : List ℕ) (x : ℕ) → Contains xs x → HasPlace xs x
place-contains xs x c = (c.0, c.1, get_or_default xs c.0 0 x c.1 ∙ c.2)

pub rasters-list : (i : Inst) (s : ℕ) (xs : List ℕ) → Lists (IsRaster s i.long i.short) xs → AreRasters i s xs
rasters-list i s xs l = record {
  all = λ p h. place-contains xs p (l.whole p h);
  only = λ p h. subst (λ z. IsRasterOf i s z) h.2 (l.each h.0 0 h.1);
  rising = λ j k h m. l.rising j k 0 h m;
}

-- ---- the empty table

-- one more number at the end of a list
pub push-all : (P : ℕ → ℕ → Type 0) (ps : List ℕ) (v s : ℕ) → length ps ≡ s → ((k : ℕ) → k < s → P k (slice_index ps k)) → P s v
    → (k : ℕ) → k < s + 1 → P k (slice_index (ps ++ v ∷ []) k)
push-all P ps v s e old new k h = elim (cases_lt k s) [
  | inl lt ↦ subst (P k) (sym (get_or_append_left ps (v ∷ []) 0 k (omega arith))) (old k lt)
  | inr ge ↦
      let here : slice_index (ps ++ v ∷ []) s ≡ v = ap (λ n. slice_index (ps ++ v ∷ []) n) (sym e) ∙ get_or-append_seam ps v [] 0 in
      let same : s ≡ k = omega arith in
      subst (λ n. P n (slice_index (ps ++ v ∷ []) n)) same (subst (P s) (sym here) new)
]

pub placed-of : (i : Inst) (axis : Axis) (p : SidePoints) (ps : List ℕ) (n : ℕ) → ArePoints p → ArePointsOf axis i p → length ps ≡ n
    → ((k : ℕ) → k < n → slice_index ps k < length p.normal) → ((k : ℕ) → k < n → RoundsTo i k (slice_index p.normal (slice_index ps k))) → ArePlaced i p.normal ps
placed-of i axis p ps n a o e places downs = record {
  sums = λ k h. let m = a.exact.each k 0 h in record { i = m.i; j = m.j; sum = rw (o.of_long, o.of_short) at m.sum; within = le_refl (slice_index p.normal k) };
  rising = λ j k h m. a.exact.rising j k 0 h m;
  places = λ s h. places s (omega (arith, e));
  downs = λ s h. downs s (omega (arith, e));
}

zeros : (n k : ℕ) → slice_index (replicate n 0) k ≡ 0
zeros zero k = refl
zeros (suc n) zero = refl
zeros (suc n) (suc k) = zeros n k

points-up : (i : Inst) (axis : Axis) (p : SidePoints) → ArePoints p → ArePointsOf axis i p → (k : ℕ) → k < length p.normal → slice_index p.normal k ≤ side axis i
points-up i axis p a o k h = let m = a.exact.each k 0 h in omega (arith, m.within, o.of_side)

pub empty-is : (i : Inst) (pat : Pattern) (px py : SidePoints) (f : Filling) → ArePoints px → ArePoints py → ArePointsOf X i px → ArePointsOf Y i py
    → length px.normal ≤ 200 → length py.normal ≤ 200 → ArePlaced i px.normal f.table.x_places.items → ArePlaced i py.normal f.table.y_places.items
    → length f.table.x_places.items ≡ i.l_side + 1 → length f.table.y_places.items ≡ i.w_side + 1
    → length px.normal ≡ f.table.x_count → length py.normal ≡ f.table.y_count
    → f.table.values.items ≡ replicate (f.table.x_count * f.table.y_count) 0 → length f.splits.items ≡ f.table.x_count * f.table.y_count
    → IsFilling i pat px.normal py.normal f 0
empty-is i pat px py f ax ay ox oy fx fy dx dy lx ly cx cy v s =
    let zero-at : (k : ℕ) → slice_index f.table.values.items k ≡ 0 = λ k. ap (λ zs. slice_index zs k) v ∙ zeros (f.table.x_count * f.table.y_count) k in
    record {
      filled = record {
        table = record {
          rows = λ k h. omega (arith, dx.places k h, cx);
          columns = λ k h. omega (arith, dy.places k h, cy);
          full = ap length v ∙ length-replicate (f.table.x_count * f.table.y_count) 0;
          small = λ k h. omega (arith, zero-at k);
          few = let p = mul-le f.table.x_count f.table.y_count 200 200 (omega (arith, cx)) (omega (arith, cy)) in omega (arith, p);
        };
        wide = cx;
        tall = cy;
        on_x = dx;
        on_y = dy;
        filled = λ r c h l. absurd (omega arith);
        rest = λ k h. zero-at k;
      };
      kept = λ j k hj hk l. absurd (omega arith);
      whole = s;
      long_x = lx;
      long_y = ly;
      up_x = points-up i X px ax ox;
      up_y = points-up i Y py ay oy;
    }

-- ---- the block that comes next

pub due-of : (i : Inst) (pat : Pattern) (xs ys : List ℕ) (f : Filling) (r c : ℕ) (rx ry : List ℕ) → IsFilling i pat xs ys f (r * length ys + c) → r < length xs → c < length ys
    → Lists (IsRasterOf i (slice_index xs r)) rx → Lists (IsRasterOf i (slice_index ys c)) ry → IsDue i pat xs ys f.table r c rx ry
due-of i pat xs ys f r c rx ry g r_in c_in lx ly = record {
  filled = subst (λ n. IsFilled i pat xs ys f.table (r * n + c)) g.filled.tall g.filled;
  r_in = r_in;
  c_in = c_in;
  a_in = omega (arith, g.up_x r r_in, g.long_x);
  b_in = omega (arith, g.up_y c c_in, g.long_y);
  a_small = omega (arith, g.up_x r r_in, i.sides.l_max);
  b_small = omega (arith, g.up_y c c_in, i.sides.w_max);
  x_cuts = lx;
  y_cuts = ly;
}

pub due-job : (i : Inst) (pat : Pattern) (xs ys : List ℕ) (tb : Bor Table) (r c : ℕ) (rx ry : Bor (List ℕ)) → IsDue i pat xs ys tb.now r c rx.now ry.now
    → IsJob (job i tb (slice_index xs r) (slice_index ys c) rx ry)
due-job i pat xs ys tb r c rx ry d =
    let hx = rasters-list i (slice_index xs r) rx.now d.x_cuts in
    let hy = rasters-list i (slice_index ys c) ry.now d.y_cuts in
    record {
      table = d.filled.table;
      a_in = d.a_in;
      b_in = d.b_in;
      xs_up = rasters-up i (slice_index xs r) rx.now hx;
      ys_up = rasters-up i (slice_index ys c) ry.now hy;
      xs_rise = hx.rising;
      ys_rise = hy.rising;
    }

pub due-solved : (i : Inst) (pat : Pattern) (xs ys : List ℕ) (tb : Bor Table) (r c : ℕ) (rx ry : Bor (List ℕ)) → IsDue i pat xs ys tb.now r c rx.now ry.now → (m : Best)
    → uniform i (slice_index xs r) (slice_index ys c) ≤ m.value
    → (((slice_index xs r * slice_index ys c) / (i.long * i.short) ≤ m.value) ⊎ CoversAll pat (job i tb (slice_index xs r) (slice_index ys c) rx ry) m.value)
    → IsReached pat (job i tb (slice_index xs r) (slice_index ys c) rx ry) m
    → IsSolved i pat tb.now (slice_index xs r) (slice_index ys c) m
due-solved i pat xs ys tb r c rx ry d m g k w =
    solved i pat xs ys tb r c d.filled d.r_in d.c_in d.a_in d.b_in d.a_small d.b_small rx ry
    (rasters-list i (slice_index xs r) rx.now d.x_cuts) (rasters-list i (slice_index ys c) ry.now d.y_cuts) m g k w

pub uniform-small : (i : Inst) (a b : ℕ) → a ≤ 4000 → b ≤ 4000 → uniform i a b ≤ 16000000
uniform-small i a b ha hb = value-small i Five a b (uniform i a b) (by_grid refl) ha hb
