-- The least weight of a case, from that of one case at each line.
use Rattle.std.proofs.Common.{◌≡◌, ℕ, ◌+◌, ◌-◌, ◌<◌, ◌≤◌, ◌⊎◌, min, List, length, get_or, ap, refl, inl, inr, arith}
use Rattle.std.specs.List.Sorted.{IsStrictlyIncreasing}
use Rattle.std.proofs.lemmas.Bool.{cases_lt}
use Rattle.plan_geometry.specs.declared.spots.Spot.{Spot}
use Rattle.plan_geometry.specs.declared.spots.Way.{Way}
use Rattle.plan_geometry.specs.declared.spots.Way.TheVariants.{Lying, Standing}
use Rattle.plan_geometry.specs.declared.instances.Inst.{Inst}
use Rattle.plan_geometry.specs.Layout.{x_extent, y_extent, IsInside}
use Rattle.plan_geometry.specs.Weight.{sum_below, block_weight, spot_weight}
use Rattle.plan_geometry.proofs.Counting.{sum_below-le, sum_below-split}
use Rattle.line_tables.specs.Lines.{Lines, crossing, weight_at, IsLineTable}
use Rattle.line_tables.specs.Laws.{lines_below, lines_among}
use Rattle.line_tables.specs.Least.{IsLeastOf, IsInsideSo, IsLawfullyInside}
use Rattle.line_tables.proofs.LineSteps.{lines_below-mono, lines_below-behind, lines_below-zero, IsSplit, split-rising}
use Rattle.line_tables.proofs.BlockSteps.{block-crossings}

-- ---- the least of some cases, from the least of others

-- a case that counts, and weighs no more than this one
pub record IsUndercut (I : Inst) (g : ℕ → ℕ → ℕ) (Counts : Spot → Type 0) (s : Spot) : Type 0 where
  pub spot : Spot
  pub counts : Counts spot
  pub light : spot_weight g I spot ≤ spot_weight g I s

IsUndercut-self : (I : Inst) (g : ℕ → ℕ → ℕ) (P : Spot → Type 0) (s : Spot) → P s → IsUndercut I g P s
IsUndercut-self I g P s p = record { spot = s; counts = p; light = omega arith }

-- the cases of one, each undercut by those of the other, have the same least weight
pub IsLeastOf-of : (I : Inst) (g : ℕ → ℕ → ℕ) (P R : Spot → Type 0) (q : ℕ) → IsLeastOf I g P q → ((s : Spot) → R s → IsUndercut I g P s) → ((s : Spot) → P s → R s) → IsLeastOf I g R q
IsLeastOf-of I g P R q h under in_ =
    record {
      bound = λ s r. let u : IsUndercut I g P s = under s r in omega (arith, u.light, h.bound u.spot u.counts);
      spot = h.spot;
      counts = in_ h.spot h.counts;
      reached = h.reached;
    }

-- the lesser of two is the least of both together
pub IsLeastOf-join : (I : Inst) (g : ℕ → ℕ → ℕ) (P Q R : Spot → Type 0) (q r : ℕ) → IsLeastOf I g P q → IsLeastOf I g Q r → ((s : Spot) → R s → P s ⊎ IsUndercut I g Q s) → ((s : Spot) → P s → R s) → ((s : Spot) → Q s → R s) → IsLeastOf I g R (min q r)
IsLeastOf-join I g P Q R q r h k part left right =
    let low : (s : Spot) → R s → min q r ≤ spot_weight g I s = λ s m.
    elim (part s m) [
      | inl p ↦ omega (arith, h.bound s p)
      | inr u ↦ omega (arith, u.light, k.bound u.spot u.counts)
    ] in
    elim (cases_lt q r) [
      | inl l ↦ record { bound = low; spot = h.spot; counts = left h.spot h.counts; reached = omega (arith, h.reached) }
      | inr l ↦ record { bound = low; spot = k.spot; counts = right k.spot k.counts; reached = omega (arith, k.reached) }
    ]

-- ---- a block that begins behind the same lines, but earlier, weighs no more

sum_below-more : (m n : ℕ) (f : ℕ → ℕ) → m ≤ n → sum_below m f ≤ sum_below n f
sum_below-more m n f l =
    let e : m + (n - m) ≡ n = omega arith in
    omega (arith, sum_below-split m (n - m) f, ap (λ k. sum_below k f) e)

lines_among-earlier : (t : List ℕ) (u v n : ℕ) → IsStrictlyIncreasing t → u ≤ v → lines_below t v ≤ lines_below t u → (lines_below t u ≡ lines_below t v) × (lines_among t u n ≤ lines_among t v n)
lines_among-earlier t u v n up l h =
    (omega (arith, lines_below-mono t u v up l), omega (arith, lines_below-mono t u v up l, lines_below-mono t (u + n) (v + n) up (omega arith)))

pub block-left : (t : Lines) (u x y a b : ℕ) → IsLineTable t → u ≤ x → lines_below t.columns x ≤ lines_below t.columns u → block_weight (weight_at t) u y a b ≤ block_weight (weight_at t) x y a b
block-left t u x y a b h l s =
    let e = lines_among-earlier t.columns u x a h.columns.rising l s in
    let c : ℕ → ℕ → ℕ = λ m n. block_weight (crossing t) m (lines_below t.rows y) n (lines_among t.rows y b) in
    let same : c (lines_below t.columns u) (lines_among t.columns u a) ≡ c (lines_below t.columns x) (lines_among t.columns u a) = ap (λ m. c m (lines_among t.columns u a)) e.0 in
    let more : c (lines_below t.columns x) (lines_among t.columns u a) ≤ c (lines_below t.columns x) (lines_among t.columns x a) =
    sum_below-more (lines_among t.columns u a) (lines_among t.columns x a) (λ i. sum_below (lines_among t.rows y b) (λ j. crossing t (lines_below t.columns x + i) (lines_below t.rows y + j))) e.1 in
    omega (arith, block-crossings t h u y a b, block-crossings t h x y a b, same, more)

pub block-lower : (t : Lines) (x v y a b : ℕ) → IsLineTable t → v ≤ y → lines_below t.rows y ≤ lines_below t.rows v → block_weight (weight_at t) x v a b ≤ block_weight (weight_at t) x y a b
block-lower t x v y a b h l s =
    let e = lines_among-earlier t.rows v y b h.rows.rising l s in
    let m = lines_below t.columns x in
    let k = lines_among t.columns x a in
    let c : ℕ → ℕ → ℕ = λ j n. block_weight (crossing t) m j k n in
    let same : c (lines_below t.rows v) (lines_among t.rows v b) ≡ c (lines_below t.rows y) (lines_among t.rows v b) = ap (λ j. c j (lines_among t.rows v b)) e.0 in
    let more : c (lines_below t.rows y) (lines_among t.rows v b) ≤ c (lines_below t.rows y) (lines_among t.rows y b) =
    sum_below-le k (λ i. sum_below (lines_among t.rows v b) (λ j. crossing t (m + i) (lines_below t.rows y + j))) (λ i. sum_below (lines_among t.rows y b) (λ j. crossing t (m + i) (lines_below t.rows y + j))) (λ i p. sum_below-more (lines_among t.rows v b) (lines_among t.rows y b) (λ j. crossing t (m + i) (lines_below t.rows y + j)) e.1) in
    omega (arith, block-crossings t h x v a b, block-crossings t h x y a b, same, more)

-- ---- the cases from one row on, by the columns before them

-- the case lies on the pallet in this way from the row y on, with at most k columns before it
pub record IsInRow (t : Lines) (I : Inst) (w : Way) (y k : ℕ) (s : Spot) : Type 0 where
  pub inside : IsInside I s
  pub way : s.way ≡ w
  pub row : s.y ≡ y
  pub few : lines_below t.columns s.x ≤ k

abbrev pub at-place : ℕ → ℕ → Way → Spot
at-place x y w = record { x = x; y = y; way = w }

-- the first case with just so many columns before it undercuts the others with as many
undercut-left : (t : Lines) (I : Inst) (w : Way) (u y k : ℕ) (s : Spot) → IsLineTable t → IsInRow t I w y k s → u ≤ s.x → lines_below t.columns s.x ≤ lines_below t.columns u → IsUndercut I (weight_at t) (λ r. r ≡ at-place u y w) s
undercut-left t I w u y k s h c l few =
    record {
      spot = at-place u y w;
      counts = refl;
      light = rw (c.way, c.row) (block-left t u s.x y (x_extent I w) (y_extent I w) h l few);
    }

at-place-inside : (I : Inst) (w : Way) (x y : ℕ) → x + x_extent I w ≤ I.l_side → y + y_extent I w ≤ I.w_side → IsInside I (at-place x y w)
at-place-inside I w x y p q = record { in_x = p; in_y = q }

one-spot : (I : Inst) (g : ℕ → ℕ → ℕ) (s : Spot) → IsLeastOf I g (λ r. r ≡ s) (spot_weight g I s)
one-spot I g s = record { bound = λ r e. rw e (omega arith); spot = s; counts = refl; reached = refl }

pub in_row-first : (t : Lines) (I : Inst) (w : Way) (y : ℕ) → IsLineTable t → x_extent I w ≤ I.l_side → y + y_extent I w ≤ I.w_side → IsLeastOf I (weight_at t) (IsInRow t I w y 0) (block_weight (weight_at t) 0 y (x_extent I w) (y_extent I w))
in_row-first t I w y h p q =
    let none = lines_below-zero t.columns in
    IsLeastOf-of I (weight_at t) (λ r. r ≡ at-place 0 y w) (IsInRow t I w y 0) (spot_weight (weight_at t) I (at-place 0 y w)) (one-spot I (weight_at t) (at-place 0 y w)) (λ s c. undercut-left t I w 0 y 0 s h c (omega arith) (omega (arith, none, c.few))) (λ s e. rw e (record { inside = at-place-inside I w 0 y (omega arith) q; way = refl; row = refl; few = omega (arith, none) }))

-- a place with more than k lines before it is behind the k-th
behind-line : (lines : List ℕ) (k v : ℕ) → IsStrictlyIncreasing lines → k < lines_below lines v → get_or lines k 0 + 1 ≤ v
behind-line lines k v up l =
    let s : IsSplit lines v (lines_below lines v) = split-rising lines v up in
    omega (arith, s.before k l)

pub in_row-next : (t : Lines) (I : Inst) (w : Way) (y k q : ℕ) → IsLineTable t → y + y_extent I w ≤ I.w_side → k < length t.columns → get_or t.columns k 0 + 1 + x_extent I w ≤ I.l_side → IsLeastOf I (weight_at t) (IsInRow t I w y k) q → IsLeastOf I (weight_at t) (IsInRow t I w y (k + 1)) (min q (block_weight (weight_at t) (get_or t.columns k 0 + 1) y (x_extent I w) (y_extent I w)))
in_row-next t I w y k q h room p fits least =
    let u = get_or t.columns k 0 + 1 in
    let here : lines_below t.columns u ≡ k + 1 = lines_below-behind t.columns k h.columns.rising p in
    IsLeastOf-join I (weight_at t) (IsInRow t I w y k) (λ r. r ≡ at-place u y w) (IsInRow t I w y (k + 1)) q (spot_weight (weight_at t) I (at-place u y w)) least (one-spot I (weight_at t) (at-place u y w)) (λ s c.
    elim (cases_lt k (lines_below t.columns s.x)) [
      | inl l ↦ inr (undercut-left t I w u y (k + 1) s h c (behind-line t.columns k s.x h.columns.rising l) (omega (arith, here, c.few)))
      | inr l ↦ inl (record { inside = c.inside; way = c.way; row = c.row; few = l })
    ]) (λ s c. record { inside = c.inside; way = c.way; row = c.row; few = omega (arith, c.few) }) (λ s e. rw e (record { inside = at-place-inside I w u y fits room; way = refl; row = refl; few = omega (arith, here) }))

pub in_row-skip : (t : Lines) (I : Inst) (w : Way) (y k q : ℕ) → IsLineTable t → I.l_side < get_or t.columns k 0 + 1 + x_extent I w → IsLeastOf I (weight_at t) (IsInRow t I w y k) q → IsLeastOf I (weight_at t) (IsInRow t I w y (k + 1)) q
in_row-skip t I w y k q h fits least =
    IsLeastOf-of I (weight_at t) (IsInRow t I w y k) (IsInRow t I w y (k + 1)) q least (λ s c.
    elim (cases_lt k (lines_below t.columns s.x)) [
      | inl l ↦
          let in_x : s.x + x_extent I w ≤ I.l_side = rw c.way at c.inside.in_x in
          absurd (omega (arith, behind-line t.columns k s.x h.columns.rising l))
      | inr l ↦ IsUndercut-self I (weight_at t) (IsInRow t I w y k) s (record { inside = c.inside; way = c.way; row = c.row; few = l })
    ]) (λ s c. record { inside = c.inside; way = c.way; row = c.row; few = omega (arith, c.few) })

pub in_row-all : (t : Lines) (I : Inst) (w : Way) (y q : ℕ) → IsLineTable t → IsLeastOf I (weight_at t) (IsInRow t I w y (length t.columns)) q → IsLeastOf I (weight_at t) (λ s. IsInsideSo I w s × (s.y ≡ y)) q
in_row-all t I w y q h least =
    IsLeastOf-of I (weight_at t) (IsInRow t I w y (length t.columns)) (λ s. IsInsideSo I w s × (s.y ≡ y)) q least (λ s c. IsUndercut-self I (weight_at t) (IsInRow t I w y (length t.columns)) s (record { inside = c.0.0; way = c.0.1; row = c.1; few = (split-rising t.columns s.x h.columns.rising).few })) (λ s c. ((c.inside, c.way), c.row))

-- ---- all cases of a way, by the rows before them

-- the case lies on the pallet in this way, with at most k rows before it
pub record IsUpTo (t : Lines) (I : Inst) (w : Way) (k : ℕ) (s : Spot) : Type 0 where
  pub inside : IsInside I s
  pub way : s.way ≡ w
  pub few : lines_below t.rows s.y ≤ k

-- the first row of a case with just so many rows before it
undercut-lower : (t : Lines) (I : Inst) (w : Way) (v k : ℕ) (s : Spot) → IsLineTable t → IsUpTo t I w k s → v ≤ s.y → v + y_extent I w ≤ I.w_side → lines_below t.rows s.y ≤ lines_below t.rows v → IsUndercut I (weight_at t) (λ r. IsInsideSo I w r × (r.y ≡ v)) s
undercut-lower t I w v k s h c l room few =
    let in_x : s.x + x_extent I w ≤ I.l_side = rw c.way at c.inside.in_x in
    record {
      spot = at-place s.x v w;
      counts = ((at-place-inside I w s.x v in_x room, refl), refl);
      light = rw c.way (block-lower t s.x v s.y (x_extent I w) (y_extent I w) h l few);
    }

pub up_to-first : (t : Lines) (I : Inst) (w : Way) (q : ℕ) → IsLineTable t → y_extent I w ≤ I.w_side → IsLeastOf I (weight_at t) (λ s. IsInsideSo I w s × (s.y ≡ 0)) q → IsLeastOf I (weight_at t) (IsUpTo t I w 0) q
up_to-first t I w q h room least =
    let none = lines_below-zero t.rows in
    IsLeastOf-of I (weight_at t) (λ s. IsInsideSo I w s × (s.y ≡ 0)) (IsUpTo t I w 0) q least (λ s c. undercut-lower t I w 0 0 s h c (omega arith) (omega arith) (omega (arith, none, c.few))) (λ s c. record { inside = c.0.0; way = c.0.1; few = omega (arith, none, ap (λ n. lines_below t.rows n) c.1) })

pub up_to-next : (t : Lines) (I : Inst) (w : Way) (k q r : ℕ) → IsLineTable t → k < length t.rows → get_or t.rows k 0 + 1 + y_extent I w ≤ I.w_side → IsLeastOf I (weight_at t) (IsUpTo t I w k) q → IsLeastOf I (weight_at t) (λ s. IsInsideSo I w s × (s.y ≡ get_or t.rows k 0 + 1)) r → IsLeastOf I (weight_at t) (IsUpTo t I w (k + 1)) (min q r)
up_to-next t I w k q r h p fits least next =
    let v = get_or t.rows k 0 + 1 in
    let here : lines_below t.rows v ≡ k + 1 = lines_below-behind t.rows k h.rows.rising p in
    IsLeastOf-join I (weight_at t) (IsUpTo t I w k) (λ s. IsInsideSo I w s × (s.y ≡ v)) (IsUpTo t I w (k + 1)) q r least next (λ s c.
    elim (cases_lt k (lines_below t.rows s.y)) [
      | inl l ↦ inr (undercut-lower t I w v (k + 1) s h c (behind-line t.rows k s.y h.rows.rising l) fits (omega (arith, here, c.few)))
      | inr l ↦ inl (record { inside = c.inside; way = c.way; few = l })
    ]) (λ s c. record { inside = c.inside; way = c.way; few = omega (arith, c.few) }) (λ s c. record { inside = c.0.0; way = c.0.1; few = omega (arith, here, ap (λ n. lines_below t.rows n) c.1) })

pub up_to-skip : (t : Lines) (I : Inst) (w : Way) (k q : ℕ) → IsLineTable t → I.w_side < get_or t.rows k 0 + 1 + y_extent I w → IsLeastOf I (weight_at t) (IsUpTo t I w k) q → IsLeastOf I (weight_at t) (IsUpTo t I w (k + 1)) q
up_to-skip t I w k q h fits least =
    IsLeastOf-of I (weight_at t) (IsUpTo t I w k) (IsUpTo t I w (k + 1)) q least (λ s c.
    elim (cases_lt k (lines_below t.rows s.y)) [
      | inl l ↦
          let in_y : s.y + y_extent I w ≤ I.w_side = rw c.way at c.inside.in_y in
          absurd (omega (arith, behind-line t.rows k s.y h.rows.rising l))
      | inr l ↦ IsUndercut-self I (weight_at t) (IsUpTo t I w k) s (record { inside = c.inside; way = c.way; few = l })
    ]) (λ s c. record { inside = c.inside; way = c.way; few = omega (arith, c.few) })

pub up_to-all : (t : Lines) (I : Inst) (w : Way) (q : ℕ) → IsLineTable t → IsLeastOf I (weight_at t) (IsUpTo t I w (length t.rows)) q → IsLeastOf I (weight_at t) (IsInsideSo I w) q
up_to-all t I w q h least =
    IsLeastOf-of I (weight_at t) (IsUpTo t I w (length t.rows)) (IsInsideSo I w) q least (λ s c. IsUndercut-self I (weight_at t) (IsUpTo t I w (length t.rows)) s (record { inside = c.0; way = c.1; few = (split-rising t.rows s.y h.rows.rising).few })) (λ s c. (c.inside, c.way))

-- ---- the cases of both ways

cases_way : (w : Way) → (w ≡ Lying) ⊎ (w ≡ Standing)
cases_way Lying = inl refl
cases_way Standing = inr refl

pub lawful-both : (I : Inst) (g : ℕ → ℕ → ℕ) (q r : ℕ) → I.short < I.long → IsLeastOf I g (IsInsideSo I Lying) q → IsLeastOf I g (IsInsideSo I Standing) r → IsLeastOf I g (IsLawfullyInside I) (min q r)
lawful-both I g q r l h k =
    IsLeastOf-join I g (IsInsideSo I Lying) (IsInsideSo I Standing) (IsLawfullyInside I) q r h k (λ s c. elim (cases_way s.way) [
      | inl e ↦ inl (c.0, e)
      | inr e ↦ inr (IsUndercut-self I g (IsInsideSo I Standing) s (c.0, e))
    ]) (λ s c. (c.0, λ e. l)) (λ s c. (c.0, λ e. l))
