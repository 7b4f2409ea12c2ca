-- A tree that refutes a number bounds every layout at normal positions.
use Rattle.std.proofs.Common.{◌≡◌, ◌≢◌, ℕ, zero, suc, ◌+◌, ◌-◌, ◌*◌, ◌/◌, ◌<◌, ◌≤◌, inl, inr, Bool, true, false, cond, List, [], ◌∷◌, ◌++◌, length, get_or, arith, subst, sym, refl, ap, ◌∙◌, length-append}
use Rattle.std.specs.Prelude.{nat_le, nat_lt, ◌&&◌, map, filter, replicate}
use Rattle.std.proofs.lemmas.Bool.{cases_lt}
use Rattle.std.proofs.lemmas.Bool.Decides.{nat_tests}
use Rattle.std.proofs.lemmas.List.{length-replicate}
use Rattle.std.proofs.Math.Nat.{le-div_iff_mul-le}
use Rattle.plan_geometry.specs.Layout.{x_extent, y_extent, IsInside, IsLawfulWay, AreApart}
use Rattle.plan_geometry.proofs.Recursive.{Each, IsLayoutRec}
use Rattle.plan_geometry.specs.Weight.{spot_weight, total_weight, WeighsAtLeast}
use Rattle.cert_rules.specs.Corner.{weight_above}
use Rattle.cert_rules.specs.Next.{next}
use Rattle.cert_rules.specs.Corner.{State, start, lowest, corner, flat_run, raised, waste_width, allows, after, children, above, IsLeaf}
use Rattle.cert_rules.specs.Refute.{RefutesEach, Refutes, RefutesBounds}
use Rattle.plan_geometry.specs.declared.instances.Inst.{Inst}
use Rattle.plan_geometry.specs.declared.spots.Spot.{Spot}
use Rattle.cert_rules.specs.declared.steps.Step.{Step}
use Rattle.cert_rules.specs.declared.steps.Step.TheVariants.{Lying, Standing, Waste}
use Rattle.plan_geometry.specs.declared.spots.Way.{Way}
use Rattle.plan_geometry.specs.declared.spots.Way.TheVariants.{Lying as LyingWay, Standing as StandingWay}
use Rattle.weightings.specs.declared.certs.Mark.{Mark}
use Rattle.weightings.specs.declared.certs.Mark.TheVariants.{Branch, Leaf}
use Rattle.plan_geometry.specs.Weight.{block_weight, sum_below}
use Rattle.plan_geometry.proofs.Counting.{weights, weights-le-total, sum_below-le}
use Rattle.plan_geometry.proofs.Recursive.{Each-all, IsLayoutRec-layout, IsLayout-rec}
use Rattle.partitions.specs.Partitions.{IsNormalSpot}
use Rattle.layout_map.proofs.Admits.{normal_form_law}
use Rattle.cert_rules.proofs.NextPoint.{next-least}
use Rattle.cert_rules.proofs.Heights.{lowest-le, corner-lt, corner-first, flat_run-fits, flat_run-longest, length-raised, raised-below, raised-in, raised-above}
use Rattle.cert_rules.proofs.Lists.{StandsAt, find_spot, Each-split, TakenOut, Layout-split, Each-both, Each-from-Layout, length-split}

-- the case begins at or above the height of each of its columns
abbrev pub IsAbove : Inst → List ℕ → Spot → Type 0
IsAbove i hs s = (k : ℕ) → s.x ≤ k → k < s.x + x_extent i s.way → get_or hs k 0 ≤ s.y

-- no more than n cases in all: those placed, and a layout at normal positions above the heights
abbrev pub Bounds : Inst → ℕ → State → Type 0
Bounds i n st =
    (spots : List Spot)
    → IsLayoutRec i spots
    → Each (IsNormalSpot i) spots
    → Each (IsAbove i st.heights) spots
    → length st.spots + length spots ≤ n

-- each case of a list weighs at least q
abbrev EachWeighs : Inst → (ℕ → ℕ → ℕ) → ℕ → List Spot → Type 0
EachWeighs i g q ss = Each (λ s. q ≤ spot_weight g i s) ss

heavy_all : (i : Inst) (g : ℕ → ℕ → ℕ) (q : ℕ) (ss : List Spot) → EachWeighs i g q ss → length ss * q ≤ weights g i ss
heavy_all i g q [] all = omega arith
heavy_all i g q (s ∷ ss) all =
    let rest : length ss * q ≤ weights g i ss = heavy_all i g q ss all.1 in
    let one : q ≤ spot_weight g i s = all.0 in
    omega arith

-- the cases of a layout that weigh at least q each weigh no more than the pallet
layout_weight : (i : Inst) (g : ℕ → ℕ → ℕ) (q : ℕ) (ss : List Spot) → IsLayoutRec i ss → EachWeighs i g q ss → length ss * q ≤ total_weight g i
layout_weight i g q ss layout all =
    let one : length ss * q ≤ weights g i ss = heavy_all i g q ss all in
    let most : weights g i ss ≤ total_weight g i = weights-le-total g i ss (IsLayout-rec i ss layout) in
    omega arith

-- a block's weight does not fall where no weight of its cells falls
block_weight-mono :
    (g h : ℕ → ℕ → ℕ) (x y a b : ℕ)
    → ((j k : ℕ) → j < a → k < b → g (x + j) (y + k) ≤ h (x + j) (y + k))
    → block_weight g x y a b ≤ block_weight h x y a b
block_weight-mono g h x y a b le =
    sum_below-le a (λ j. sum_below b (λ k. g (x + j) (y + k))) (λ j. sum_below b (λ k. h (x + j) (y + k)))
    (λ j lt. sum_below-le b (λ k. g (x + j) (y + k)) (λ k. h (x + j) (y + k)) (λ k l. le j k lt l))

-- the leaf
pub leaf_bounds :
    (i : Inst) (g : ℕ → ℕ → ℕ) (q n : ℕ) (st : State)
    → 0 < q
    → WeighsAtLeast g i q
    → IsLeaf i g q n st
    → Bounds i n st
leaf_bounds i g q n st pos weighs leaf spots layout normal on_top =
    let heavy : EachWeighs i (weight_above g st.heights) q spots =
    Each-both (λ s. IsInside i s × IsLawfulWay i s.way) (IsAbove i st.heights) (λ s. q ≤ spot_weight (weight_above g st.heights) i s) spots
    (λ s ok up. heavy_one i g q st.heights s weighs ok.0 ok.1 up) (Each-from-Layout i spots layout) on_top in
    let all : length spots * q ≤ total_weight (weight_above g st.heights) i =
    layout_weight i (weight_above g st.heights) q spots layout heavy in
    let few : length spots ≤ above i g st / q = (le-div_iff_mul-le pos).1 all in
    omega arith
  where
    seen : (g : ℕ → ℕ → ℕ) (hs : List ℕ) (x y : ℕ) → get_or hs x 0 ≤ y → g x y ≤ weight_above g hs x y
    seen g hs x y le = grind (arith, nat_tests)

    heavy_one :
        (i : Inst) (g : ℕ → ℕ → ℕ) (q : ℕ) (hs : List ℕ) (s : Spot)
        → WeighsAtLeast g i q
        → IsInside i s
        → IsLawfulWay i s.way
        → IsAbove i hs s
        → q ≤ spot_weight (weight_above g hs) i s
    heavy_one i g q hs s weighs inside lawful up =
        let more : spot_weight g i s ≤ spot_weight (weight_above g hs) i s =
        block_weight-mono g (weight_above g hs) s.x s.y (x_extent i s.way) (y_extent i s.way)
        (λ j k lj lk.
        let low : get_or hs (s.x + j) 0 ≤ s.y = up (s.x + j) (omega arith) (omega arith) in
        seen g hs (s.x + j) (s.y + k) (omega arith)) in
        let least : q ≤ spot_weight g i s = weighs s inside lawful in
        omega arith

-- the move that places a case of this way
abbrev pub step_of : Way → Step
step_of LyingWay = Lying
step_of StandingWay = Standing

after-heights :
    (i : Inst) (st : State) (w : Way)
    → (after i st (step_of w)).heights ≡ raised st.heights (corner st.heights) (x_extent i w) (lowest st.heights + y_extent i w)
after-heights i st LyingWay = refl
after-heights i st StandingWay = refl

after-count : (i : Inst) (st : State) (w : Way) → length (after i st (step_of w)).spots ≡ length st.spots + 1
after-count i st LyingWay = simp length-append (omega arith)
after-count i st StandingWay = simp length-append (omega arith)

both : (a b c d : ℕ) → a ≤ b → c ≤ d → (nat_le a b && nat_le c d) ≡ true
both a b c d p q = grind (arith, nat_tests)

three : (a b c d e f : ℕ) → e < f → a ≤ b → c ≤ d → (nat_lt e f && (nat_le a b && nat_le c d)) ≡ true
three a b c d e f r p q = grind (arith, nat_tests)

allows-step :
    (i : Inst) (st : State) (w : Way)
    → IsLawfulWay i w
    → x_extent i w ≤ flat_run st.heights
    → lowest st.heights + y_extent i w ≤ i.w_side
    → allows i st.heights (step_of w) ≡ true
allows-step i st LyingWay lawful across along = both i.long (flat_run st.heights) (lowest st.heights + i.short) i.w_side across along
allows-step i st StandingWay lawful across along =
    three i.short (flat_run st.heights) (lowest st.heights + i.long) i.w_side i.short i.long (lawful refl) across along

y_extent-pos : (i : Inst) (w : Way) → 1 ≤ y_extent i w
y_extent-pos i LyingWay = i.sides.short_min
y_extent-pos i StandingWay = let a : 1 ≤ i.short = i.sides.short_min in let b : i.short ≤ i.long = i.sides.ordered in omega arith

-- the columns under a case at the corner are flat
flat_under :
    (i : Inst) (hs : List ℕ) (n : ℕ)
    → 0 < length hs
    → corner hs + n ≤ length hs
    → ((k : ℕ) → corner hs ≤ k → k < corner hs + n → get_or hs k 0 ≤ lowest hs)
    → n ≤ flat_run hs
flat_under i hs n some fits low =
    flat_run-longest hs n fits
    (λ k lt.
    let up : get_or hs (corner hs + k) 0 ≤ lowest hs = low (corner hs + k) (omega arith) (omega arith) in
    let down : lowest hs ≤ get_or hs (corner hs + k) 0 = lowest-le hs (corner hs + k) (omega arith) in
    omega arith)

-- a case that is apart from one at the corner is above the raised heights
above_raised :
    (i : Inst) (hs : List ℕ) (s t : Spot)
    → 0 < length hs
    → corner hs + x_extent i s.way ≤ length hs
    → x_extent i s.way ≤ flat_run hs
    → s.x ≡ corner hs
    → s.y ≡ lowest hs
    → AreApart i s t
    → IsAbove i hs t
    → IsAbove i (raised hs (corner hs) (x_extent i s.way) (lowest hs + y_extent i s.way)) t
above_raised i hs s t some fits flat at_x at_y apart up k from to =
    elim (cases_lt k (corner hs)) [
      | inl before ↦
          let same : get_or (raised hs (corner hs) (x_extent i s.way) (lowest hs + y_extent i s.way)) k 0 ≡ get_or hs k 0 =
          raised-below hs (corner hs) (x_extent i s.way) (lowest hs + y_extent i s.way) k fits before in
          let old : get_or hs k 0 ≤ t.y = up k from to in
          omega arith
      | inr here ↦
          elim (cases_lt k (corner hs + x_extent i s.way)) [
            | inr past ↦
                let same : get_or (raised hs (corner hs) (x_extent i s.way) (lowest hs + y_extent i s.way)) k 0 ≡ get_or hs k 0 =
                raised-above hs (corner hs) (x_extent i s.way) (lowest hs + y_extent i s.way) k fits past in
                let old : get_or hs k 0 ≤ t.y = up k from to in
                omega arith
            | inl within ↦
                let new : get_or (raised hs (corner hs) (x_extent i s.way) (lowest hs + y_extent i s.way)) k 0 ≡ lowest hs + y_extent i s.way =
                raised-in hs (corner hs) (x_extent i s.way) (lowest hs + y_extent i s.way) k fits here within in
                let old : get_or hs k 0 ≤ t.y = up k from to in
                let floor : lowest hs ≤ get_or hs k 0 = lowest-le hs k (omega arith) in
                let tall : 1 ≤ y_extent i t.way = y_extent-pos i t.way in
                elim apart [
                  | inl a ↦ omega arith
                  | inr (inl a) ↦ omega arith
                  | inr (inr (inl a)) ↦ omega arith
                  | inr (inr (inr a)) ↦ omega arith
                ]
          ]
    ]

-- a case that does not stand at the corner, at normal numbers, is above the heights after Waste
above_waste :
    (i : Inst) (hs : List ℕ) (t : Spot)
    → 0 < length hs
    → length hs ≡ i.l_side
    → IsNormalSpot i t
    → (StandsAt (corner hs) (lowest hs) t → ⊥)
    → IsAbove i hs t
    → IsAbove i (raised hs (corner hs) (waste_width i hs) (next i i.w_side (lowest hs))) t
above_waste i hs t some wide normal elsewhere up k from to =
    let fits : corner hs + waste_width i hs ≤ length hs =
    let f : corner hs + flat_run hs ≤ length hs = flat_run-fits hs some in omega arith in
    let old : get_or hs k 0 ≤ t.y = up k from to in
    elim (cases_lt k (corner hs)) [
      | inl before ↦
          let same : get_or (raised hs (corner hs) (waste_width i hs) (next i i.w_side (lowest hs))) k 0 ≡ get_or hs k 0 =
          raised-below hs (corner hs) (waste_width i hs) (next i i.w_side (lowest hs)) k fits before in
          omega arith
      | inr here ↦
          elim (cases_lt k (corner hs + waste_width i hs)) [
            | inr past ↦
                let same : get_or (raised hs (corner hs) (waste_width i hs) (next i i.w_side (lowest hs))) k 0 ≡ get_or hs k 0 =
                raised-above hs (corner hs) (waste_width i hs) (next i i.w_side (lowest hs)) k fits past in
                omega arith
            | inl within ↦
                let new : get_or (raised hs (corner hs) (waste_width i hs) (next i i.w_side (lowest hs))) k 0 ≡ next i i.w_side (lowest hs) =
                raised-in hs (corner hs) (waste_width i hs) (next i i.w_side (lowest hs)) k fits here within in
                let floor : lowest hs ≤ get_or hs k 0 = lowest-le hs k (omega arith) in
                elim (cases_lt (lowest hs) t.y) [
                  | inl higher ↦
                      let le : next i i.w_side (lowest hs) ≤ t.y = next-least i i.w_side (lowest hs) t.y normal.in_y higher in
                      omega arith
                  | inr level ↦
                      elim (cases_lt (corner hs) t.x) [
                        | inl right ↦
                            let le : next i i.l_side (corner hs) ≤ t.x = next-least i i.l_side (corner hs) t.x normal.in_x right in
                            absurd (omega arith)
                        | inr left ↦
                            elim (cases_lt t.x (corner hs)) [
                              | inl beyond ↦
                                  let near : get_or hs (corner hs - 1) 0 ≤ t.y = up (corner hs - 1) (omega arith) (omega arith) in
                                  let low : lowest hs ≤ get_or hs (corner hs - 1) 0 = lowest-le hs (corner hs - 1) (omega (arith, corner-lt hs some)) in
                                  absurd (corner-first hs (corner hs - 1) (omega arith) (omega arith))
                              | inr at ↦ absurd (elsewhere (omega arith, omega arith))
                            ]
                      ]
                ]
          ]
    ]

-- each way has its extent along x at least 1
no_moves :
    (p : Step → Bool) (f : Step → State)
    → p Lying ≡ false
    → p Standing ≡ false
    → p Waste ≡ false
    → map f (filter p (Lying ∷ Standing ∷ Waste ∷ [])) ≡ []
no_moves p f a b c = rw (a, b, c) refl

not_both : (a b c d : ℕ) → d < c → (nat_le a b && nat_le c d) ≡ false
not_both a b c d p = grind (arith, nat_tests)

not_three : (a b c d e f : ℕ) → d < c → (nat_lt e f && (nat_le a b && nat_le c d)) ≡ false
not_three a b c d e f p = grind (arith, nat_tests)

not_lt : (a b : ℕ) → b ≤ a → nat_lt a b ≡ false
not_lt a b p = grind (arith, nat_tests)

is_lt : (a b : ℕ) → a < b → nat_lt a b ≡ true
is_lt a b p = grind (arith, nat_tests)

-- a state with a move has its lowest height below the pallet's side
pub low_with_move : (i : Inst) (st : State) → (children i st ≢ []) → lowest st.heights < i.w_side
low_with_move i st some =
    elim (cases_lt (lowest st.heights) i.w_side) [
      | inl lt ↦ lt
      | inr full ↦
          let short : 1 ≤ i.short = i.sides.short_min in
          let long : i.short ≤ i.long = i.sides.ordered in
          absurd (some (no_moves (allows i st.heights) (after i st)
          (not_both i.long (flat_run st.heights) (lowest st.heights + i.short) i.w_side (omega arith))
          (not_three i.short (flat_run st.heights) (lowest st.heights + i.long) i.w_side i.short i.long (omega arith))
          (not_lt (lowest st.heights) i.w_side full)))
    ]

-- what holds of each state of a list
abbrev pub EachState : (State → Type 0) → List State → Type 0
EachState P [] = Unit {0}
EachState P (s ∷ ss) = P s × EachState P ss

pub EachState-append : (P : State → Type 0) (xs ys : List State) → EachState P (xs ++ ys) → EachState P xs × EachState P ys
EachState-append P [] ys all = (tt, all)
EachState-append P (x ∷ xs) ys all = let rest = EachState-append P xs ys all.1 in ((all.0, rest.0), rest.1)

pub EachState-joined : (P : State → Type 0) (xs ys : List State) → EachState P xs → EachState P ys → EachState P (xs ++ ys)
EachState-joined P [] ys a b = b
EachState-joined P (x ∷ xs) ys a b = (a.0, EachState-joined P xs ys a.1 b)

filtered : (P : State → Type 0) (f : Step → State) (b : Bool) (m : Step) (rest : List Step)
    → EachState P (map f (cond b (m ∷ rest) rest)) → ((b ≡ true) → P (f m)) × EachState P (map f rest)
filtered P f true m rest all = ((λ _. all.0), all.1)
filtered P f false m rest all = ((λ e. absurd (cc)), all)

-- what holds of each child holds of the state after each move
pub each_child :
    (P : State → Type 0) (p : Step → Bool) (f : Step → State)
    → EachState P (map f (filter p (Lying ∷ Standing ∷ Waste ∷ [])))
    → (m : Step)
    → p m ≡ true
    → P (f m)
each_child P p f all Lying e = (filtered P f (p Lying) Lying (filter p (Standing ∷ Waste ∷ [])) all).0 e
each_child P p f all Standing e =
    let one = filtered P f (p Lying) Lying (filter p (Standing ∷ Waste ∷ [])) all in
    (filtered P f (p Standing) Standing (filter p (Waste ∷ [])) one.1).0 e
each_child P p f all Waste e =
    let one = filtered P f (p Lying) Lying (filter p (Standing ∷ Waste ∷ [])) all in
    let two = filtered P f (p Standing) Standing (filter p (Waste ∷ [])) one.1 in
    (filtered P f (p Waste) Waste [] two.1).0 e

joined : (P : State → Type 0) (f : Step → State) (b : Bool) (m : Step) (rest : List Step)
    → ((b ≡ true) → P (f m)) → EachState P (map f rest) → EachState P (map f (cond b (m ∷ rest) rest))
joined P f true m rest here all = (here refl, all)
joined P f false m rest here all = all

pub each_child_of :
    (P : State → Type 0) (p : Step → Bool) (f : Step → State)
    → ((m : Step) → p m ≡ true → P (f m))
    → EachState P (map f (filter p (Lying ∷ Standing ∷ Waste ∷ [])))
each_child_of P p f all =
    joined P f (p Lying) Lying (filter p (Standing ∷ Waste ∷ [])) (all Lying)
    (joined P f (p Standing) Standing (filter p (Waste ∷ [])) (all Standing)
    (joined P f (p Waste) Waste [] (all Waste) tt))

-- the state has a height for each column
abbrev pub IsWide : Inst → State → Type 0
IsWide i st = length st.heights ≡ i.l_side

pub start-wide : (i : Inst) → IsWide i (start i)
start-wide i = length-replicate i.l_side 0

lt_of : (a b c d : ℕ) → (nat_le a b && nat_le c d) ≡ true → a ≤ b × c ≤ d
lt_of a b c d e = (grind (arith, nat_tests), grind (arith, nat_tests))

lt_of_three : (a b c d e f : ℕ) → (nat_lt e f && (nat_le a b && nat_le c d)) ≡ true → (e < f) × (a ≤ b) × (c ≤ d)
lt_of_three a b c d e f h = (grind (arith, nat_tests), grind (arith, nat_tests), grind (arith, nat_tests))

pub after-wide : (i : Inst) (st : State) (m : Step) → IsWide i st → allows i st.heights m ≡ true → IsWide i (after i st m)
after-wide i st Lying wide e =
    let room : i.long ≤ flat_run st.heights = (lt_of i.long (flat_run st.heights) (lowest st.heights + i.short) i.w_side e).0 in
    let some : 1 ≤ i.l_side = i.sides.l_min in
    let fits : corner st.heights + flat_run st.heights ≤ length st.heights = flat_run-fits st.heights (omega arith) in
    let same : length (raised st.heights (corner st.heights) i.long (lowest st.heights + i.short)) ≡ length st.heights =
    length-raised st.heights (corner st.heights) i.long (lowest st.heights + i.short) (omega arith) in
    same ∙ wide
after-wide i st Standing wide e =
    let room : i.short ≤ flat_run st.heights = (lt_of_three i.short (flat_run st.heights) (lowest st.heights + i.long) i.w_side i.short i.long e).1 in
    let some : 1 ≤ i.l_side = i.sides.l_min in
    let fits : corner st.heights + flat_run st.heights ≤ length st.heights = flat_run-fits st.heights (omega arith) in
    let same : length (raised st.heights (corner st.heights) i.short (lowest st.heights + i.long)) ≡ length st.heights =
    length-raised st.heights (corner st.heights) i.short (lowest st.heights + i.long) (omega arith) in
    same ∙ wide
after-wide i st Waste wide e =
    let some : 1 ≤ i.l_side = i.sides.l_min in
    let fits : corner st.heights + flat_run st.heights ≤ length st.heights = flat_run-fits st.heights (omega arith) in
    let same : length (raised st.heights (corner st.heights) (waste_width i st.heights) (next i i.w_side (lowest st.heights))) ≡ length st.heights =
    length-raised st.heights (corner st.heights) (waste_width i st.heights) (next i i.w_side (lowest st.heights)) (omega arith) in
    same ∙ wide

-- the branch: if each child bounds its layouts, so does the state
pub branch_bounds :
    (i : Inst) (n : ℕ) (st : State)
    → IsWide i st
    → (children i st ≢ [])
    → ((m : Step) → allows i st.heights m ≡ true → Bounds i n (after i st m))
    → Bounds i n st
branch_bounds i n st wide move each spots layout normal up =
    elim (find_spot (corner st.heights) (lowest st.heights) spots) [
      | inl p ↦
          let out : TakenOut i p.it (p.before ++ p.later) =
          Layout-split i p.before p.it p.later (subst (λ (l : List Spot). IsLayoutRec i l) p.whole layout) in
          let all_normal : Each (IsNormalSpot i) (p.before ++ p.later) =
          (Each-split (IsNormalSpot i) p.before p.it p.later (subst (λ (l : List Spot). Each (IsNormalSpot i) l) p.whole normal)).1 in
          let ups : IsAbove i st.heights p.it × Each (IsAbove i st.heights) (p.before ++ p.later) =
          Each-split (IsAbove i st.heights) p.before p.it p.later (subst (λ (l : List Spot). Each (IsAbove i st.heights) l) p.whole up) in
          let count : length spots ≡ length (p.before ++ p.later) + 1 =
          ap length p.whole ∙ length-split p.before p.it p.later in
          placed i n st p.it (p.before ++ p.later) wide each p.holds.0 p.holds.1 out all_normal ups.0 ups.1 (length spots) count
      | inr none ↦
          let some : 1 ≤ i.l_side = i.sides.l_min in
          let few : length (st.spots ++ []) + length spots ≤ n = each Waste (is_lt (lowest st.heights) i.w_side (low_with_move i st move)) spots layout normal
          (Each-both (λ s. IsNormalSpot i s × (StandsAt (corner st.heights) (lowest st.heights) s → ⊥)) (IsAbove i st.heights)
          (IsAbove i (after i st Waste).heights) spots
          (λ s a b. above_waste i st.heights s (omega arith) wide a.0 a.1 b)
          (Each-both (IsNormalSpot i) (λ s. StandsAt (corner st.heights) (lowest st.heights) s → ⊥)
          (λ s. IsNormalSpot i s × (StandsAt (corner st.heights) (lowest st.heights) s → ⊥)) spots (λ s a b. (a, b)) normal none)
          up) in
          omega (arith, length-append st.spots [])
    ]
  where
    placed :
        (i : Inst) (n : ℕ) (st : State) (s : Spot) (rest : List Spot)
        → IsWide i st
        → ((m : Step) → allows i st.heights m ≡ true → Bounds i n (after i st m))
        → s.x ≡ corner st.heights
        → s.y ≡ lowest st.heights
        → TakenOut i s rest
        → Each (IsNormalSpot i) rest
        → IsAbove i st.heights s
        → Each (IsAbove i st.heights) rest
        → (count : ℕ)
        → count ≡ length rest + 1
        → length st.spots + count ≤ n
    placed i n st s rest wide each at_x at_y out normal up ups count is =
        let some : 1 ≤ i.l_side = i.sides.l_min in
        let across : s.x + x_extent i s.way ≤ i.l_side = out.inside.in_x in
        let along : s.y + y_extent i s.way ≤ i.w_side = out.inside.in_y in
        let flat : x_extent i s.way ≤ flat_run st.heights =
        flat_under i st.heights (x_extent i s.way) (omega arith) (omega arith)
        (λ k from to. let h : get_or st.heights k 0 ≤ s.y = up k (omega arith) (omega arith) in omega arith) in
        let allowed : allows i st.heights (step_of s.way) ≡ true =
        allows-step i st s.way out.lawful flat (omega arith) in
        let above_rest : Each (IsAbove i (raised st.heights (corner st.heights) (x_extent i s.way) (lowest st.heights + y_extent i s.way))) rest =
        Each-both (AreApart i s) (IsAbove i st.heights)
        (IsAbove i (raised st.heights (corner st.heights) (x_extent i s.way) (lowest st.heights + y_extent i s.way))) rest
        (λ t a b. above_raised i st.heights s t (omega arith) (omega arith) flat at_x at_y a b) out.apart ups in
        let few : length (after i st (step_of s.way)).spots + length rest ≤ n =
        each (step_of s.way) allowed rest out.layout normal
        (subst (λ (hs : List ℕ). Each (IsAbove i hs) rest) (sym (after-heights i st s.way)) above_rest) in
        let more : length (after i st (step_of s.way)).spots ≡ length st.spots + 1 = after-count i st s.way in
        omega arith

-- marks that refute each of the states bound the layouts of each
pub RefutesEach-bounds :
    (i : Inst) (g : ℕ → ℕ → ℕ) (q n : ℕ)
    → 0 < q
    → WeighsAtLeast g i q
    → (marks : List Mark) (ss : List State)
    → EachState (IsWide i) ss
    → RefutesEach i g q n ss marks
    → EachState (Bounds i n) ss
RefutesEach-bounds i g q n pos weighs [] [] wide r = tt
RefutesEach-bounds i g q n pos weighs [] (s ∷ ss) wide r = absurd r
RefutesEach-bounds i g q n pos weighs (m ∷ ms) [] wide r = tt
RefutesEach-bounds i g q n pos weighs (Leaf ∷ ms) (s ∷ ss) wide r =
    (leaf_bounds i g q n s pos weighs r.0, RefutesEach-bounds i g q n pos weighs ms ss wide.1 r.1)
RefutesEach-bounds i g q n pos weighs (Branch ∷ ms) (s ∷ ss) wide r =
    let kids : EachState (IsWide i) (children i s) =
    each_child_of (IsWide i) (allows i s.heights) (after i s) (λ m e. after-wide i s m wide.0 e) in
    let all : EachState (Bounds i n) (children i s ++ ss) =
    RefutesEach-bounds i g q n pos weighs ms (children i s ++ ss)
    (EachState-joined (IsWide i) (children i s) ss kids wide.1) r.1 in
    let parts = EachState-append (Bounds i n) (children i s) ss all in
    (branch_bounds i n s wide.0 r.0 (each_child (Bounds i n) (allows i s.heights) (after i s) parts.0), parts.1)

-- every case is above the heights of the start
pub zeros : (n k : ℕ) → get_or (replicate {A = ℕ} n 0) k 0 ≡ 0
zeros zero k = refl
zeros (suc n) zero = refl
zeros (suc n) (suc k) = zeros n k

start_above : (i : Inst) (ss : List Spot) → IsLayoutRec i ss → Each (IsAbove i (replicate i.l_side 0)) ss
start_above i [] layout = tt
start_above i (s ∷ ss) layout =
    ((λ k from to. let zero_there : get_or (replicate {A = ℕ} i.l_side 0) k 0 ≡ 0 = zeros i.l_side k in omega arith), start_above i ss layout.3)

normal_bounds :
    (i : Inst) (g : ℕ → ℕ → ℕ) (q n : ℕ) (marks : List Mark)
    → 0 < q
    → WeighsAtLeast g i q
    → Refutes i g q n marks
    → (spots : List Spot)
    → IsLayoutRec i spots
    → Each (IsNormalSpot i) spots
    → length spots ≤ n
normal_bounds i g q n marks pos weighs refutes spots layout normal =
    let all : EachState (Bounds i n) (start i ∷ []) =
    RefutesEach-bounds i g q n pos weighs marks (start i ∷ []) (start-wide i, tt) refutes in
    let few : 0 + length spots ≤ n = all.0 spots layout normal (start_above i spots layout) in
    omega arith

-- by the normal form of a layout
pub refutes_bounds : RefutesBounds
refutes_bounds i g q n marks pos weighs refutes spots layout =
    let form = normal_form_law i spots layout in
    let same : length form.0 ≡ length spots = form.1 in
    let few : length form.0 ≤ n =
    normal_bounds i g q n marks pos weighs refutes form.0 (IsLayoutRec-layout i form.0 form.2) (Each-all (IsNormalSpot i) form.0 form.3) in
    omega arith
