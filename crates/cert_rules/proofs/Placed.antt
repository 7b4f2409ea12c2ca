-- The cases that a lawful path places are a layout.
use Rattle.std.proofs.Common.{◌≡◌, ℕ, ◌+◌, ◌-◌, ◌<◌, ◌≤◌, inl, inr, List, [], ◌∷◌, ◌++◌, length, get_or, arith, subst, sym, refl, append-nil}
use Rattle.std.proofs.lemmas.Bool.{cases_lt}
use Rattle.std.proofs.lemmas.Bool.Decides.{nat_tests}
use Rattle.std.specs.Prelude.{IsTrue, nat_le, nat_lt, ◌&&◌}
use Rattle.plan_geometry.specs.Layout.{x_extent, y_extent, IsInside, IsLawfulWay, AreApart}
use Rattle.plan_geometry.proofs.Recursive.{Each, IsLayoutRec, IsLayout-rec}
use Rattle.cert_rules.specs.Laws.{PathsPlaceLayouts}
use Rattle.cert_rules.specs.Next.{next}
use Rattle.cert_rules.specs.Corner.{State, lowest, corner, flat_run, raised, waste_width, allows, after, state_of}
use Rattle.cert_rules.specs.Path.{IsLawfulPath}
use Rattle.plan_geometry.specs.declared.instances.Inst.{Inst}
use Rattle.plan_geometry.specs.declared.spots.Spot.{Spot}
use Rattle.cert_rules.specs.declared.steps.Step.{Step}
use Rattle.cert_rules.specs.declared.steps.Step.TheVariants.{Lying, Standing, Waste}
use Rattle.plan_geometry.specs.declared.spots.Way.{Way}
use Rattle.plan_geometry.specs.declared.spots.Way.TheVariants.{Lying as LyingWay, Standing as StandingWay}
use Rattle.cert_rules.proofs.Heights.{flat_run-at, flat_run-fits, raised-below, raised-in, raised-above}
use Rattle.cert_rules.proofs.NextPoint.{next-above}
use Rattle.cert_rules.proofs.Lists.{Each-both}
use Rattle.cert_rules.proofs.Paths.{state_of-wide}

-- the case ends at or below the height of each of its columns
abbrev pub IsBelow : Inst → List ℕ → Spot → Type 0
IsBelow i hs s = (k : ℕ) → s.x ≤ k → k < s.x + x_extent i s.way → s.y + y_extent i s.way ≤ get_or hs k 0

-- no height falls
abbrev pub IsRaised : List ℕ → List ℕ → Type 0
IsRaised hs new = (k : ℕ) → get_or hs k 0 ≤ get_or new k 0

-- a part of the flat run is raised
raised-raises :
    (hs : List ℕ) (n v : ℕ)
    → 0 < length hs
    → n ≤ flat_run hs
    → lowest hs ≤ v
    → IsRaised hs (raised hs (corner hs) n v)
raised-raises hs n v some flat le k =
    let fits : corner hs + flat_run hs ≤ length hs = flat_run-fits hs some in
    elim (cases_lt k (corner hs)) [
      | inl before ↦
          let e : get_or (raised hs (corner hs) n v) k 0 ≡ get_or hs k 0 = raised-below hs (corner hs) n v k (omega arith) before in omega arith
      | inr from ↦
          elim (cases_lt k (corner hs + n)) [
            | inr past ↦
                let e : get_or (raised hs (corner hs) n v) k 0 ≡ get_or hs k 0 = raised-above hs (corner hs) n v k (omega arith) past in omega arith
            | inl within ↦
                let e : get_or (raised hs (corner hs) n v) k 0 ≡ v = raised-in hs (corner hs) n v k (omega arith) from within in
                let at : get_or hs (corner hs + (k - corner hs)) 0 ≡ lowest hs = flat_run-at hs (k - corner hs) (omega arith) in
                let same : corner hs + (k - corner hs) ≡ k = omega arith in
                let here : get_or hs k 0 ≡ lowest hs = subst (λ (x : ℕ). get_or hs x 0 ≡ lowest hs) same at in
                omega arith
          ]
    ]

-- what a move of a case has room for
record Room (i : Inst) (hs : List ℕ) (w : Way) : Type 0 where
  across : x_extent i w ≤ flat_run hs
  along : lowest hs + y_extent i w ≤ i.w_side
  lawful : IsLawfulWay i w

lying-room : (i : Inst) (hs : List ℕ) → IsTrue (allows i hs Lying) → Room i hs LyingWay
lying-room i hs t = record {
  across = (two i.long (flat_run hs) (lowest hs + i.short) i.w_side t).0;
  along = (two i.long (flat_run hs) (lowest hs + i.short) i.w_side t).1;
  lawful = λ e. absurd (cc (e));
}
  where
    two : (a b c d : ℕ) → IsTrue (nat_le a b && nat_le c d) → (a ≤ b) × (c ≤ d)
    two a b c d t = (grind (arith, nat_tests), grind (arith, nat_tests))

standing-room : (i : Inst) (hs : List ℕ) → IsTrue (allows i hs Standing) → Room i hs StandingWay
standing-room i hs t = record {
  across = (three i.short (flat_run hs) (lowest hs + i.long) i.w_side i.short i.long t).0;
  along = (three i.short (flat_run hs) (lowest hs + i.long) i.w_side i.short i.long t).1;
  lawful = λ _. (three i.short (flat_run hs) (lowest hs + i.long) i.w_side i.short i.long t).2;
}
  where
    three : (a b c d e f : ℕ) → IsTrue (nat_lt e f && (nat_le a b && nat_le c d)) → (a ≤ b) × (c ≤ d) × (e < f)
    three a b c d e f t = (grind (arith, nat_tests), grind (arith, nat_tests), grind (arith, nat_tests))

Each-push : (P : Spot → Type 0) (ss : List Spot) (s : Spot) → Each P ss → P s → Each P (ss ++ s ∷ [])
Each-push P [] s all p = (p, tt)
Each-push P (x ∷ xs) s all p = (all.0, Each-push P xs s all.1 p)

Layout-push :
    (i : Inst) (ss : List Spot) (s : Spot)
    → IsLayoutRec i ss → IsInside i s → IsLawfulWay i s.way → Each (λ t. AreApart i t s) ss → IsLayoutRec i (ss ++ s ∷ [])
Layout-push i [] s layout inside lawful apart = (inside, lawful, tt, tt)
Layout-push i (x ∷ xs) s layout inside lawful apart =
    (layout.0, layout.1, Each-push (AreApart i x) xs s layout.2 apart.0, Layout-push i xs s layout.3 inside lawful apart.1)

-- a case below the heights is apart from one at the corner
apart_at_corner :
    (i : Inst) (hs : List ℕ) (t s : Spot)
    → s.x ≡ corner hs
    → s.y ≡ lowest hs
    → x_extent i s.way ≤ flat_run hs
    → IsBelow i hs t
    → 1 ≤ x_extent i t.way
    → 1 ≤ x_extent i s.way
    → AreApart i t s
apart_at_corner i hs t s at_x at_y flat below pos_t pos_s =
    elim (cases_lt s.x (t.x + x_extent i t.way)) [
      | inr left ↦ inl left
      | inl over ↦
          elim (cases_lt t.x (s.x + x_extent i s.way)) [
            | inr right ↦ inr (inl right)
            | inl under ↦
                elim (cases_lt t.x s.x) [
                  | inl before ↦ inr (inr (inl (stands s.x (omega arith) over (omega arith) (omega arith))))
                  | inr from ↦ inr (inr (inl (stands t.x (omega arith) (omega arith) from under)))
                ]
          ]
    ]
  where
    stands : (k : ℕ) → t.x ≤ k → k < t.x + x_extent i t.way → s.x ≤ k → k < s.x + x_extent i s.way → t.y + y_extent i t.way ≤ s.y
    stands k a b d e =
        let high : t.y + y_extent i t.way ≤ get_or hs k 0 = below k a b in
        let at : get_or hs (corner hs + (k - corner hs)) 0 ≡ lowest hs = flat_run-at hs (k - corner hs) (omega arith) in
        let same : corner hs + (k - corner hs) ≡ k = omega arith in
        let here : get_or hs k 0 ≡ lowest hs = subst (λ (x : ℕ). get_or hs x 0 ≡ lowest hs) same at in
        omega arith

x_extent-pos : (i : Inst) (w : Way) → 1 ≤ x_extent i w
x_extent-pos i LyingWay = let a : 1 ≤ i.short = i.sides.short_min in let b : i.short ≤ i.long = i.sides.ordered in omega arith
x_extent-pos i StandingWay = i.sides.short_min

-- the cases are a layout, each below the heights
pub record IsPlaced (i : Inst) (st : State) : Type 0 where
  pub layout : IsLayoutRec i st.spots
  pub below : Each (IsBelow i st.heights) st.spots

every : (P : Spot → Type 0) (ss : List Spot) → ((s : Spot) → P s) → Each P ss
every P [] all = tt
every P (s ∷ ss) all = (all s, every P ss all)

place :
    (i : Inst) (st : State) (w : Way)
    → length st.heights ≡ i.l_side
    → Room i st.heights w
    → IsPlaced i st
    → IsPlaced i (record {
      heights = raised st.heights (corner st.heights) (x_extent i w) (lowest st.heights + y_extent i w);
      spots = st.spots ++ (record { x = corner st.heights; y = lowest st.heights; way = w }) ∷ [];
    })
place i st w wide room placed =
    let some : 1 ≤ i.l_side = i.sides.l_min in
    let fits : corner st.heights + flat_run st.heights ≤ length st.heights = flat_run-fits st.heights (omega arith) in
    let across : x_extent i w ≤ flat_run st.heights = room.across in
    let along : lowest st.heights + y_extent i w ≤ i.w_side = room.along in
    let up : IsRaised st.heights (raised st.heights (corner st.heights) (x_extent i w) (lowest st.heights + y_extent i w)) =
    raised-raises st.heights (x_extent i w) (lowest st.heights + y_extent i w) (omega arith) across (omega arith) in
    let s : Spot = record { x = corner st.heights; y = lowest st.heights; way = w } in
    record {
      layout =
          Layout-push i st.spots s placed.layout (record { in_x = omega arith; in_y = along }) room.lawful
          (Each-both (IsBelow i st.heights) (λ t. Unit {0}) (λ t. AreApart i t s) st.spots
          (λ t b _. apart_at_corner i st.heights t s refl refl across b (x_extent-pos i t.way) (x_extent-pos i w)) placed.below
          (every (λ t. Unit {0}) st.spots (λ _. tt)));
      below =
          Each-push (IsBelow i (raised st.heights (corner st.heights) (x_extent i w) (lowest st.heights + y_extent i w))) st.spots s
          (Each-both (IsBelow i st.heights) (λ t. Unit {0})
          (IsBelow i (raised st.heights (corner st.heights) (x_extent i w) (lowest st.heights + y_extent i w))) st.spots
          (λ t b _ k from to.
          let old : t.y + y_extent i t.way ≤ get_or st.heights k 0 = b k from to in
          let more : get_or st.heights k 0 ≤ get_or (raised st.heights (corner st.heights) (x_extent i w) (lowest st.heights + y_extent i w)) k 0 = up k in
          omega arith) placed.below (every (λ t. Unit {0}) st.spots (λ _. tt)))
          (λ k from to.
          let e : get_or (raised st.heights (corner st.heights) (x_extent i w) (lowest st.heights + y_extent i w)) k 0 ≡ lowest st.heights + y_extent i w =
          raised-in st.heights (corner st.heights) (x_extent i w) (lowest st.heights + y_extent i w) k (omega arith) from to in
          omega arith);
    }

waste :
    (i : Inst) (st : State)
    → length st.heights ≡ i.l_side
    → lowest st.heights < i.w_side
    → IsPlaced i st
    → IsPlaced i (after i st Waste)
waste i st wide low placed =
    let some : 1 ≤ i.l_side = i.sides.l_min in
    let higher : lowest st.heights < next i i.w_side (lowest st.heights) = next-above i i.w_side (lowest st.heights) low in
    let up : IsRaised st.heights (raised st.heights (corner st.heights) (waste_width i st.heights) (next i i.w_side (lowest st.heights))) =
    raised-raises st.heights (waste_width i st.heights) (next i i.w_side (lowest st.heights)) (omega arith) (omega arith) (omega arith) in
    let same : st.spots ≡ st.spots ++ [] = sym (append-nil st.spots) in
    record {
      layout = subst (λ (l : List Spot). IsLayoutRec i l) same placed.layout;
      below =
          subst (λ (l : List Spot). Each (IsBelow i (after i st Waste).heights) l) same
          (Each-both (IsBelow i st.heights) (λ t. Unit {0}) (IsBelow i (after i st Waste).heights) st.spots
          (λ t b _ k from to.
          let old : t.y + y_extent i t.way ≤ get_or st.heights k 0 = b k from to in
          let more : get_or st.heights k 0 ≤ get_or (raised st.heights (corner st.heights) (waste_width i st.heights) (next i i.w_side (lowest st.heights))) k 0 = up k in
          omega arith) placed.below (every (λ t. Unit {0}) st.spots (λ _. tt)));
    }

after-placed :
    (i : Inst) (st : State) (m : Step)
    → length st.heights ≡ i.l_side
    → IsTrue (allows i st.heights m)
    → IsPlaced i st
    → IsPlaced i (after i st m)
after-placed i st Lying wide t placed = place i st LyingWay wide (lying-room i st.heights t) placed
after-placed i st Standing wide t placed = place i st StandingWay wide (standing-room i st.heights t) placed
after-placed i st Waste wide t placed = waste i st wide (lt_is (lowest st.heights) i.w_side t) placed
  where
    lt_is : (a b : ℕ) → IsTrue (nat_lt a b) → a < b
    lt_is a b t = grind (arith, nat_tests)

pub state_of-placed : (i : Inst) (steps : List Step) → IsLawfulPath i steps → IsPlaced i (state_of i steps)
state_of-placed i [] lawful = record { layout = tt; below = tt }
state_of-placed i (m ∷ older) lawful =
    after-placed i (state_of i older) m (state_of-wide i older lawful.1) lawful.0 (state_of-placed i older lawful.1)

pub paths_place_layouts : PathsPlaceLayouts
paths_place_layouts i steps lawful = IsLayout-rec i (state_of i steps).spots (state_of-placed i steps lawful).layout
