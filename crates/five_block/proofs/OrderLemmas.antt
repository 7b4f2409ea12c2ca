-- Cuts that were beaten stay beaten.
use Rattle.std.proofs.Common.{◌≡◌, ℕ, ◌⊎◌, ◌+◌, ◌-◌, ◌≤◌, ◌<◌, length, slice_index, refl, inl, inr, List, [], ◌∷◌, ◌++◌, ap, sym, ◌∙◌, subst, arith}
use Rattle.std.proofs.lemmas.Bool.{cases_lt}
use Rattle.std.proofs.Math.ListN.{get_or-append}
use Rattle.std.proofs.Math.Seq.{get_or-append_seam}
use Rattle.std.proofs.lemmas.List.{length-append}
use Rattle.std.proofs.Math.Nat.{zero-div}
use Rattle.plan_geometry.specs.declared.instances.Inst.{Inst}
use Rattle.block_tree.specs.Trees.{uniform}
use Rattle.block_tables.specs.declared.tables.Split.{Split}
use Rattle.block_tables.specs.Tables.{HasPlace, IsRising}
use Rattle.five_block.specs.FirstLevel.{CoversY2, CoversY1, CoversX2, CoversX1, first_sum, AreFirstCuts, IsNoLater, IsFirstBest, ListsFirstCuts, AreCutLists, rank_of, IsKnownCut, Improves, Beats, IsFirstCut}
use Rattle.five_block.specs.declared.first_level.KnownCut.{KnownCut}
use Rattle.five_block.specs.declared.first_level.CutLists.{CutLists}

snoc-old : (xs : List ℕ) (y k : ℕ) → k < length xs → slice_index (xs ++ y ∷ []) k ≡ slice_index xs k
snoc-old xs y k h = get_or-append xs (y ∷ []) 0 k h

snoc-new : (xs : List ℕ) (y : ℕ) → slice_index (xs ++ y ∷ []) (length xs) ≡ y
snoc-new xs y = get_or-append_seam xs y [] 0

pub snoc-length : (xs : List ℕ) (y : ℕ) → length (xs ++ y ∷ []) ≡ length xs + 1
snoc-length xs y = length-append xs (y ∷ [])

pub pushed-length : (xs zs : List ℕ) (n : ℕ) → zs ≡ xs ++ n ∷ [] → length zs ≡ length xs + 1
pushed-length xs zs n e = ap length e ∙ snoc-length xs n

pub snoc-below : (xs zs : List ℕ) (s : ℕ) → zs ≡ xs ++ s ∷ [] → ((k : ℕ) → k < length xs → slice_index xs k < s) → (k : ℕ) → k < length zs → slice_index zs k < s + 1
snoc-below xs zs s e up = rw e (λ k h. elim (cases_lt k (length xs)) [
  | inl w ↦ omega (arith, snoc-old xs s k w, up k w)
  | inr w ↦ (let q : k ≡ length xs = omega (arith, snoc-length xs s) in rw q (omega (arith, snoc-new xs s)))
])

pub weakly : (xs : List ℕ) → IsRising xs → (j k : ℕ) → j ≤ k → k < length xs → slice_index xs j ≤ slice_index xs k
weakly xs r j k h l = elim (cases_lt j k) [ inl w ↦ (let q = r j k w l in omega arith) | inr w ↦ (let e : j ≡ k = omega arith in omega (arith, ap (λ n. slice_index xs n) e)) ]

pub improves-self : (m : KnownCut) → Improves m m
improves-self m = inr (refl, refl)

pub improves-more : (m r t : KnownCut) → Improves m r → Improves r t → Improves m t
improves-more m r t (inl a) (inl b) = inl (omega arith)
improves-more m r t (inl a) (inr b) = inl (omega arith)
improves-more m r t (inr a) (inl b) = inl (omega arith)
improves-more m r t (inr a) (inr b) = inr (a.0 ∙ b.0, a.1 ∙ b.1)

pub beats-more : (i : Inst) (m r : KnownCut) (x1 x2 y1 y2 : ℕ) → Improves m r → Beats i m x1 x2 y1 y2 → Beats i r x1 x2 y1 y2
beats-more i m r x1 x2 y1 y2 (inl a) (inl b) = inl (omega arith)
beats-more i m r x1 x2 y1 y2 (inl a) (inr b) = inl (omega arith)
beats-more i m r x1 x2 y1 y2 (inr a) (inl b) = inl (omega arith)
beats-more i m r x1 x2 y1 y2 (inr a) (inr b) = inr (b.0 ∙ a.0, omega arith)

pub wider_y2 : (q : CutLists) (x1 x2 y1 upto : ℕ) (m r : KnownCut) → Improves m r → CoversY2 q x1 x2 y1 upto m → CoversY2 q x1 x2 y1 upto r
wider_y2 q x1 x2 y1 upto m r h c = λ k a b. beats-more q.inst m r x1 x2 y1 _ h (c k a b)

pub wider_y1 : (q : CutLists) (x1 x2 upto : ℕ) (m r : KnownCut) → Improves m r → CoversY1 q x1 x2 upto m → CoversY1 q x1 x2 upto r
wider_y1 q x1 x2 upto m r h c = λ k a. wider_y2 q x1 x2 _ _ m r h (c k a)

pub wider_x2 : (q : CutLists) (x1 upto : ℕ) (m r : KnownCut) → Improves m r → CoversX2 q x1 upto m → CoversX2 q x1 upto r
wider_x2 q x1 upto m r h c = λ k a b. wider_y1 q x1 _ _ m r h (c k a b)

pub wider_x1 : (q : CutLists) (upto : ℕ) (m r : KnownCut) → Improves m r → CoversX1 q upto m → CoversX1 q upto r
wider_x1 q upto m r h c = λ k a. wider_x2 q _ _ m r h (c k a)

-- the order as one number is the order
pub rank-order : (s t : Split) → s.x2 ≤ 4000 → s.y1 ≤ 4000 → s.y2 ≤ 4000 → t.x2 ≤ 4000 → t.y1 ≤ 4000 → t.y2 ≤ 4000 → rank_of s ≤ rank_of t → IsNoLater s t
rank-order s t a b c d e f h = elim (cases_lt s.x1 t.x1) [
  | inl w ↦ inl w
  | inr w ↦ inr (
    omega arith,
    elim (cases_lt s.x2 t.x2) [
      | inl v ↦ inl v
      | inr v ↦ inr (
        omega arith,
        elim (cases_lt s.y1 t.y1) [
          | inl u ↦ inl u
          | inr u ↦ inr (omega arith, omega arith)
        ],
      )
    ],
  )
]

-- ---- the list of the cuts, as it grows

contains-old : (xs : List ℕ) (x n : ℕ) → HasPlace xs n → HasPlace (xs ++ x ∷ []) n
contains-old xs x n (k, l, e) = (k, omega (arith, snoc-length xs x, l), get_or-append xs (x ∷ []) 0 k l ∙ e)

contains-new : (xs : List ℕ) (x : ℕ) → HasPlace (xs ++ x ∷ []) x
contains-new xs x = (length xs, omega (arith, snoc-length xs x), get_or-append_seam xs x [] 0)

contains-back : (xs : List ℕ) (x n : ℕ) → HasPlace (xs ++ x ∷ []) n → HasPlace xs n ⊎ (n ≡ x)
contains-back xs x n (k, l, e) = elim (cases_lt k (length xs)) [
  | inl w ↦ inl (k, w, sym (get_or-append xs (x ∷ []) 0 k w) ∙ e)
  | inr w ↦ (let z : k ≡ length xs = omega (arith, snoc-length xs x, l) in
      inr (sym e ∙ (ap (λ m. slice_index (xs ++ x ∷ []) m) z ∙ get_or-append_seam xs x [] 0)))
]

rising-more : (xs : List ℕ) (x : ℕ) → IsRising xs → ((k : ℕ) → k < length xs → slice_index xs k < x) → IsRising (xs ++ x ∷ [])
rising-more xs x r up = λ j k h l. elim (cases_lt k (length xs)) [
  | inl w ↦ omega (arith, get_or-append xs (x ∷ []) 0 k w, get_or-append xs (x ∷ []) 0 j (omega arith), r j k h w)
  | inr w ↦ (let z : k ≡ length xs = omega (arith, snoc-length xs x) in
      omega (arith, ap (λ m. slice_index (xs ++ x ∷ []) m) z, get_or-append_seam xs x [] 0, get_or-append xs (x ∷ []) 0 j (omega arith), up j (omega arith)))
]

abbrev pub SoFar : Inst → ℕ → ℕ → List ℕ → Type 0
SoFar i s x xs = IsRising xs × ((k : ℕ) → k < length xs → slice_index xs k < x)
    × ((n : ℕ) → HasPlace xs n → IsFirstCut i s n) × ((n : ℕ) → n < x → IsFirstCut i s n → HasPlace xs n)

pub cuts-more : (i : Inst) (s x : ℕ) (xs zs : List ℕ) → zs ≡ xs ++ x ∷ [] → SoFar i s x xs → IsFirstCut i s x → SoFar i s (x + 1) zs
cuts-more i s x xs zs e (r, up, only, all) h = (
  subst (λ ys. IsRising ys) (sym e) (rising-more xs x r up),
  snoc-below xs zs x e up,
  λ n k. elim (contains-back xs x n (subst (λ ys. HasPlace ys n) e k)) [ inl a ↦ only n a | inr q ↦ subst (λ m. IsFirstCut i s m) (sym q) h ],
  λ n l k. subst (λ ys. HasPlace ys n) (sym e) (elim (cases_lt n x) [
    | inl w ↦ contains-old xs x n (all n w k)
    | inr w ↦ (let q : n ≡ x = omega arith in subst (λ m. HasPlace (xs ++ x ∷ []) m) (sym q) (contains-new xs x))
  ]),
)

pub cuts-same : (i : Inst) (s x : ℕ) (xs : List ℕ) → SoFar i s x xs → (IsFirstCut i s x → ⊥) → SoFar i s (x + 1) xs
cuts-same i s x xs (r, up, only, all) h = (
  r,
  (λ k l. omega (arith, up k l)),
  only,
  λ n l k. elim (cases_lt n x) [ inl w ↦ all n w k | inr w ↦ (let q : n ≡ x = omega arith in absurd (h (subst (λ m. IsFirstCut i s m) q k))) ],
)

-- ---- the scan's answer

pub covers-all : (q : CutLists) (m : KnownCut) → CoversX1 q (length q.xs.now) m → (t : Split) → HasPlace q.xs.now t.x1 → HasPlace q.xs.now t.x2 → HasPlace q.ys.now t.y1 → HasPlace q.ys.now t.y2
    → t.x1 ≤ t.x2 → t.y1 ≤ t.y2 → Beats q.inst m t.x1 t.x2 t.y1 t.y2
covers-all q m k t h1 h2 h3 h4 lx ly =
    let e1 = h1.2 in
    let e2 = h2.2 in
    let e3 = h3.2 in
    let e4 = h4.2 in
    let ox : slice_index q.xs.now h1.0 ≤ slice_index q.xs.now h2.0 = omega arith in
    let oy : slice_index q.ys.now h3.0 ≤ slice_index q.ys.now h4.0 = omega arith in
    rw (e1, e2, e3, e4) at (k h1.0 h1.1 h2.0 h2.1 ox h3.0 h3.1 h4.0 h4.1 oy)

contains-le : (i : Inst) (s x : ℕ) (xs : List ℕ) → ListsFirstCuts i s xs → HasPlace xs x → x ≤ s
contains-le i s x xs h (k, l, e) = let a = h.up k l in omega arith

pub best-is : (q : CutLists) (m : KnownCut) → AreCutLists q → IsKnownCut q m → CoversX1 q (length q.xs.now) m → IsFirstBest q.inst m.split m.value
best-is q m u k c = record {
  cuts = record { x1 = u.on_x.only _ k.has_x1; x2 = u.on_x.only _ k.has_x2; y1 = u.on_y.only _ k.has_y1; y2 = u.on_y.only _ k.has_y2; x_order = k.x_order; y_order = k.y_order };
  value = k.value;
  greatest = λ t h. elim (beats t h) [ inl a ↦ omega arith | inr a ↦ omega (arith, a.0) ];
  first = λ t h e. elim (beats t h) [
    | inl a ↦ absurd (omega arith)
    | inr a ↦ rank-order m.split t (le-x _ k.has_x2) (le-y _ k.has_y1) (le-y _ k.has_y2) (le-x _ (u.on_x.all _ h.x2)) (le-y _ (u.on_y.all _ h.y1)) (le-y _ (u.on_y.all _ h.y2)) a.1
  ];
} where
  beats : (t : Split) → AreFirstCuts q.inst t → Beats q.inst m t.x1 t.x2 t.y1 t.y2
  beats t h = covers-all q m c t (u.on_x.all _ h.x1) (u.on_x.all _ h.x2) (u.on_y.all _ h.y1) (u.on_y.all _ h.y2) h.x_order h.y_order

  le-x : (x : ℕ) → HasPlace q.xs.now x → x ≤ 4000
  le-x x h = let a = contains-le q.inst q.inst.l_side x q.xs.now u.on_x h in omega (arith, q.inst.sides.l_max, q.inst.sides.w_max)

  le-y : (x : ℕ) → HasPlace q.ys.now x → x ≤ 4000
  le-y x h = let a = contains-le q.inst q.inst.w_side x q.ys.now u.on_y h in omega (arith, q.inst.sides.l_max, q.inst.sides.w_max)

pub zero-cut : (i : Inst) (s : ℕ) → IsFirstCut i s 0
zero-cut i s = (omega arith, 0, inl (omega arith))

none_x : (i : Inst) (b : ℕ) → uniform i 0 b ≡ 0
none_x i b = rw (zero-div i.long, zero-div i.short) (omega arith)

none_y : (i : Inst) (a : ℕ) → uniform i a 0 ≡ 0
none_y i a = rw (zero-div i.long, zero-div i.short) (omega arith)

pub start-sum : (i : Inst) → uniform i i.l_side i.w_side ≡ first_sum i 0 0 0 0
start-sum i =
    let eL : i.l_side - 0 ≡ i.l_side = omega arith in
    let eW : i.w_side - 0 ≡ i.w_side = omega arith in
    rw (eL, eW, none_x i 0, none_y i i.l_side, none_x i i.w_side) (omega arith)
