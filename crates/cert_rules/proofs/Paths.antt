-- The states of lawful paths.
use Rattle.std.proofs.Common.{◌≡◌, ℕ, suc, ◌+◌, ◌<◌, ◌≤◌, inl, inr, Bool, true, List, [], ◌∷◌, ◌++◌, length, get_or, set, length-set, ◌-◌, arith, subst, sym, refl, ap, ◌∙◌, length-append, take, drop, take-append-drop}
use Rattle.std.proofs.Math.Seq.{take-suc}
use Rattle.std.specs.Prelude.{nat_le, nat_lt, ◌&&◌, if◌then◌else◌, replicate, IsTrue, reverse, min}
use Rattle.std.proofs.lemmas.Bool.{cases_lt}
use Rattle.std.proofs.lemmas.Bool.Decides.{nat_tests}
use Rattle.std.proofs.lemmas.List.{reverse-append, length-replicate, get_or-replicate}
use Rattle.cert_rules.specs.Corner.{lowest, corner, flat_run, raised, waste_width, allows, moved, case_of, is_case, state_of}
use Rattle.cert_rules.specs.Next.{next}
use Rattle.cert_rules.specs.Path.{Path, IsLawfulPath, IsPath, state}
use Rattle.cert_rules.specs.declared.skyline.Skyline.TheInside.{Inside}
use Rattle.cert_rules.specs.Frames.{path_of, IsSkyline, steps_of, restored, IsAfter, KeepsRuns, KeepsCorners}
use Rattle.cert_rules.specs.Lift.{width_by, height_by, case_by}
use Rattle.cert_rules.specs.Runs.{entry, HasRuns, Scan}
use Rattle.plan_geometry.specs.Weight.{block_weight, total_weight, spot_weight, WeighsAtLeast}
use Rattle.cert_rules.specs.Corner.{weight_above}
use Rattle.weightings.specs.Weighting.{weight_of, IsLeastWeight}
use Rattle.weightings.specs.declared.kinds.Weighting.{Weighting}
use Rattle.cert_rules.specs.declared.skyline.Run.{Run}
use Rattle.cert_rules.proofs.RunSteps.{leads-le, scan-end, put, put-back, runs-raised, runs-all}
use Rattle.cert_rules.proofs.BlockSums.{total-above}
use Rattle.cert_rules.proofs.Running.{above-raised}
use Rattle.plan_geometry.specs.declared.instances.Inst.{Inst}
use Rattle.plan_geometry.specs.declared.spots.Spot.{Spot}
use Rattle.std.specs.Prelude.{Option, option_to_list}
use Rattle.cert_rules.specs.declared.steps.Step.{Step}
use Rattle.cert_rules.specs.declared.steps.Step.TheVariants.{Lying, Standing, Waste}
use Rattle.cert_rules.specs.declared.skyline.Frame.{Frame}
use Rattle.cert_rules.proofs.Heights.{lowest-somewhere, corner-lt, flat_run-fits, flat_run-some, flat_run-at, raised-below, raised-in, raised-above}
use Rattle.cert_rules.proofs.NextPoint.{next-le, next-above}
use Rattle.cert_rules.proofs.Refuting.{IsWide, start-wide, after-wide, zeros}

pub true-is : (b : Bool) → IsTrue b → b ≡ true
true-is b t = grind (arith, nat_tests)

pub is-true : (b : Bool) → b ≡ true → IsTrue b
is-true b e = grind (arith, nat_tests)

pub state_of-wide : (i : Inst) (steps : List Step) → IsLawfulPath i steps → IsWide i (state_of i steps)
state_of-wide i [] lawful = start-wide i
state_of-wide i (m ∷ older) lawful =
    after-wide i (state_of i older) m (state_of-wide i older lawful.1)
    (true-is (allows i (state_of i older).heights m) lawful.0)

-- no height is above the side
abbrev pub IsLow : ℕ → List ℕ → Type 0
IsLow w hs = (k : ℕ) → get_or hs k 0 ≤ w

raised-low : (hs : List ℕ) (c n v w : ℕ) → c + n ≤ length hs → v ≤ w → IsLow w hs → IsLow w (raised hs c n v)
raised-low hs c n v w fits le low k =
    let old : get_or hs k 0 ≤ w = low k in
    elim (cases_lt k c) [
      | inl before ↦
          let e : get_or (raised hs c n v) k 0 ≡ get_or hs k 0 = raised-below hs c n v k fits before in omega arith
      | inr from ↦
          elim (cases_lt k (c + n)) [
            | inl within ↦
                let e : get_or (raised hs c n v) k 0 ≡ v = raised-in hs c n v k fits from within in omega arith
            | inr past ↦
                let e : get_or (raised hs c n v) k 0 ≡ get_or hs k 0 = raised-above hs c n v k fits past in omega arith
          ]
    ]

lying_room : (a b c d : ℕ) → IsTrue (nat_le a b && nat_le c d) → (a ≤ b) × (c ≤ d)
lying_room a b c d t = (grind (arith, nat_tests), grind (arith, nat_tests))

standing_room : (a b c d e f : ℕ) → IsTrue (nat_lt e f && (nat_le a b && nat_le c d)) → (a ≤ b) × (c ≤ d)
standing_room a b c d e f t = (grind (arith, nat_tests), grind (arith, nat_tests))

pub moved-low :
    (i : Inst) (hs : List ℕ) (m : Step) → length hs ≡ i.l_side → IsTrue (allows i hs m) → IsLow i.w_side hs → IsLow i.w_side (moved i hs m)
moved-low i hs Lying wide t low =
    let some : 1 ≤ i.l_side = i.sides.l_min in
    let room = lying_room i.long (flat_run hs) (lowest hs + i.short) i.w_side t in
    let fits : corner hs + flat_run hs ≤ length hs = flat_run-fits hs (omega arith) in
    raised-low hs (corner hs) i.long (lowest hs + i.short) i.w_side (omega arith) room.1 low
moved-low i hs Standing wide t low =
    let some : 1 ≤ i.l_side = i.sides.l_min in
    let room = standing_room i.short (flat_run hs) (lowest hs + i.long) i.w_side i.short i.long t in
    let fits : corner hs + flat_run hs ≤ length hs = flat_run-fits hs (omega arith) in
    raised-low hs (corner hs) i.short (lowest hs + i.long) i.w_side (omega arith) room.1 low
moved-low i hs Waste wide t low =
    let some : 1 ≤ i.l_side = i.sides.l_min in
    let fits : corner hs + flat_run hs ≤ length hs = flat_run-fits hs (omega arith) in
    raised-low hs (corner hs) (waste_width i hs) (next i i.w_side (lowest hs)) i.w_side (omega arith) (next-le i i.w_side (lowest hs)) low

pub state_of-low : (i : Inst) (steps : List Step) → IsLawfulPath i steps → IsLow i.w_side (state_of i steps).heights
state_of-low i [] lawful = λ k. let e : get_or (replicate {A = ℕ} i.l_side 0) k 0 ≡ 0 = zeros i.l_side k in omega arith
state_of-low i (m ∷ older) lawful =
    moved-low i (state_of i older).heights m (state_of-wide i older lawful.1) lawful.0 (state_of-low i older lawful.1)

-- the lowest height of a lawful path is no higher than the side
pub state_of-lowest : (i : Inst) (steps : List Step) → IsLawfulPath i steps → lowest (state_of i steps).heights ≤ i.w_side
state_of-lowest i steps lawful =
    let wide : length (state_of i steps).heights ≡ i.l_side = state_of-wide i steps lawful in
    let some : 1 ≤ i.l_side = i.sides.l_min in
    let place = lowest-somewhere (state_of i steps).heights (omega arith) in
    let low : get_or (state_of i steps).heights place.0 0 ≤ i.w_side = state_of-low i steps lawful place.0 in
    let is : get_or (state_of i steps).heights place.0 0 ≡ lowest (state_of i steps).heights = place.2 in
    omega arith

pub length-steps_of : (fs : List Frame) → length (steps_of fs) ≡ length fs
length-steps_of [] = refl
length-steps_of (f ∷ fs) = ap suc (length-steps_of fs)

-- no more cases than steps
pub spots-few : (i : Inst) (steps : List Step) → length (state_of i steps).spots ≤ length steps
spots-few i [] = omega arith
spots-few i (m ∷ older) =
    let ih : length (state_of i older).spots ≤ length older = spots-few i older in
    let one : length (case_of (state_of i older).heights m) ≤ 1 = at_most_one (state_of i older).heights m in
    let both : length ((state_of i older).spots ++ case_of (state_of i older).heights m)
    ≡ length (state_of i older).spots + length (case_of (state_of i older).heights m) =
    length-append (state_of i older).spots (case_of (state_of i older).heights m) in
    omega arith
  where
    at_most_one : (hs : List ℕ) (m : Step) → length (case_of hs m) ≤ 1
    at_most_one hs Lying = omega arith
    at_most_one hs Standing = omega arith
    at_most_one hs Waste = omega arith

pub length-case_of : (hs : List ℕ) (m : Step) → length (case_of hs m) ≡ (if is_case m then 1 else 0)
length-case_of hs Lying = refl
length-case_of hs Standing = refl
length-case_of hs Waste = refl

-- what a step does, in numbers
pub moved-by :
    (i : Inst) (hs : List ℕ) (m : Step)
    → moved i hs m ≡ raised hs (corner hs) (width_by i (corner hs) (flat_run hs) m) (height_by i (lowest hs) m)
moved-by i hs Lying = refl
moved-by i hs Standing = refl
moved-by i hs Waste = refl

pub case-by : (hs : List ℕ) (m : Step) → case_of hs m ≡ case_by (corner hs) (lowest hs) m
case-by hs Lying = refl
case-by hs Standing = refl
case-by hs Waste = refl

-- the raised columns are within the flat run and the pallet
pub record Fits (i : Inst) (hs : List ℕ) (n v : ℕ) : Type 0 where
  pub some : 0 < n
  pub within : n ≤ flat_run hs
  pub up : lowest hs ≤ v
  pub high : v ≤ i.w_side

pub step-fits :
    (i : Inst) (hs : List ℕ) (m : Step)
    → length hs ≡ i.l_side
    → IsTrue (allows i hs m)
    → Fits i hs (width_by i (corner hs) (flat_run hs) m) (height_by i (lowest hs) m)
step-fits i hs Lying wide t =
    let room = lying_room i.long (flat_run hs) (lowest hs + i.short) i.w_side t in
    let one : 1 ≤ i.short = i.sides.short_min in
    let more : i.short ≤ i.long = i.sides.ordered in
    record { some = omega arith; within = room.0; up = omega arith; high = room.1 }
step-fits i hs Standing wide t =
    let room = standing_room i.short (flat_run hs) (lowest hs + i.long) i.w_side i.short i.long t in
    let one : 1 ≤ i.short = i.sides.short_min in
    record { some = omega arith; within = room.0; up = omega arith; high = room.1 }
step-fits i hs Waste wide t =
    let side : 1 ≤ i.l_side = i.sides.l_min in
    let at : corner hs < length hs = corner-lt hs (omega arith) in
    let flats : 0 < flat_run hs = flat_run-some hs (omega arith) in
    let low : lowest hs < i.w_side = below (lowest hs) i.w_side t in
    let right : corner hs < next i i.l_side (corner hs) = next-above i i.l_side (corner hs) (omega arith) in
    let over : lowest hs < next i i.w_side (lowest hs) = next-above i i.w_side (lowest hs) low in
    least_of i hs (next i i.l_side (corner hs) - corner hs) (next i i.w_side (lowest hs)) (omega arith) flats (omega arith) (next-le i i.w_side (lowest hs))
  where
    below : (a b : ℕ) → IsTrue (nat_lt a b) → a < b
    below a b t = grind (arith, nat_tests)

    least_of : (i : Inst) (hs : List ℕ) (n v : ℕ) → 0 < n → 0 < flat_run hs → lowest hs ≤ v → v ≤ i.w_side → Fits i hs (min n (flat_run hs)) v
    least_of i hs n v p q up high = record { some = omega arith; within = omega arith; up = up; high = high }

pub KeepsRuns-now :
    (i : Inst) (w : Weighting) (fs : List Frame) (rs : List Run) (weight : ℕ) → KeepsRuns i w fs rs weight → IsAfter i w (steps_of fs) rs weight
KeepsRuns-now i w [] rs weight k = k
KeepsRuns-now i w (f ∷ fs) rs weight k = k.0

pub undo-small :
    (i : Inst) (w : Weighting) (rev fs : List Frame) (f : Frame) (rs : List Run) (weight : ℕ)
    → KeepsRuns i w rev rs weight
    → rev ≡ f ∷ fs
    → weight + f.weight ≤ 16000000000
undo-small i w rev fs f rs weight k e =
    let kept : KeepsRuns i w (f ∷ fs) rs weight = subst (λ (r : List Frame). KeepsRuns i w r rs weight) e k in
    (KeepsRuns-now i w fs (restored f rs) (weight + f.weight) kept.1).small

-- the runs and the weight after a step
pub IsAfter-step :
    (i : Inst) (w : Weighting) (m : Step) (older : List Step) (rs : List Run) (weight block n v : ℕ) (rest : Run)
    → IsAfter i w older rs weight
    → length (state_of i older).heights ≡ i.l_side
    → IsTrue (allows i (state_of i older).heights m)
    → n ≡ width_by i (corner (state_of i older).heights) (flat_run (state_of i older).heights) m
    → v ≡ height_by i (lowest (state_of i older).heights) m
    → block ≡ block_weight (weight_of w) (corner (state_of i older).heights) (lowest (state_of i older).heights) n (v - lowest (state_of i older).heights)
    → (n < flat_run (state_of i older).heights → rest ≡ record { width = flat_run (state_of i older).heights - n; height = lowest (state_of i older).heights })
    → (flat_run (state_of i older).heights ≤ n → rest ≡ entry rs (corner (state_of i older).heights + n))
    → (block ≤ weight)
    × IsAfter i w (m ∷ older)
    (put rs (corner (state_of i older).heights) (record { width = n; height = v }) (corner (state_of i older).heights + n) rest) (weight - block)
IsAfter-step i w m older rs weight block n v rest a wide t en ev eb cut whole =
    let side : 1 ≤ i.l_side = i.sides.l_min in
    let fits0 : Fits i (state_of i older).heights (width_by i (corner (state_of i older).heights) (flat_run (state_of i older).heights) m) (height_by i (lowest (state_of i older).heights) m) =
    step-fits i (state_of i older).heights m wide t in
    let fits : Fits i (state_of i older).heights n v =
    subst (λ (k : ℕ). Fits i (state_of i older).heights k v) (sym en)
    (subst (λ (h : ℕ). Fits i (state_of i older).heights (width_by i (corner (state_of i older).heights) (flat_run (state_of i older).heights) m) h) (sym ev) fits0) in
    let some : 0 < n = fits.some in
    let within : n ≤ flat_run (state_of i older).heights = fits.within in
    let room : corner (state_of i older).heights + flat_run (state_of i older).heights ≤ length (state_of i older).heights =
    flat_run-fits (state_of i older).heights (omega arith) in
    let made : moved i (state_of i older).heights m ≡ raised (state_of i older).heights (corner (state_of i older).heights) n v =
    moved-by i (state_of i older).heights m
    ∙ (ap (λ (k : ℕ). raised (state_of i older).heights (corner (state_of i older).heights) k (height_by i (lowest (state_of i older).heights) m)) (sym en)
    ∙ ap (λ (h : ℕ). raised (state_of i older).heights (corner (state_of i older).heights) n h) (sym ev)) in
    let runs : HasRuns (put rs (corner (state_of i older).heights) (record { width = n; height = v }) (corner (state_of i older).heights + n) rest)
    (raised (state_of i older).heights (corner (state_of i older).heights) n v) 0 i.l_side =
    runs-raised rs (state_of i older).heights i.l_side n v rest (omega arith) wide a.wide a.leads some within cut whole in
    let less : total_weight (weight_above (weight_of w) (raised (state_of i older).heights (corner (state_of i older).heights) n v)) i
    + block_weight (weight_of w) (corner (state_of i older).heights) (lowest (state_of i older).heights) n (v - lowest (state_of i older).heights)
    ≡ total_weight (weight_above (weight_of w) (state_of i older).heights) i =
    above-raised i (weight_of w) (state_of i older).heights (corner (state_of i older).heights) n (lowest (state_of i older).heights) v wide (omega arith) fits.up fits.high
    (λ k p q. flat_there (state_of i older).heights k p (omega arith)) in
    let all : weight ≡ total_weight (weight_above (weight_of w) (state_of i older).heights) i = a.weighs in
    let most : weight ≤ 16000000000 = a.small in (
      omega arith,
      record {
        wide =
            length-set (set rs (corner (state_of i older).heights) (record { width = n; height = v })) (corner (state_of i older).heights + n) rest
            ∙ (length-set rs (corner (state_of i older).heights) (record { width = n; height = v }) ∙ a.wide);
        leads =
            subst (λ (h : List ℕ). HasRuns (put rs (corner (state_of i older).heights) (record { width = n; height = v }) (corner (state_of i older).heights + n) rest) h 0 i.l_side)
            (sym made) runs;
        weighs =
            let rest_of : weight - block ≡ total_weight (weight_above (weight_of w) (raised (state_of i older).heights (corner (state_of i older).heights) n v)) i = omega arith in
            subst (λ (h : List ℕ). weight - block ≡ total_weight (weight_above (weight_of w) h) i) (sym made) rest_of;
        small = omega arith;
      },
    )
  where
    flat_there : (hs : List ℕ) (k : ℕ) → corner hs ≤ k → k < corner hs + flat_run hs → get_or hs k 0 ≡ lowest hs
    flat_there hs k p q =
        let e : corner hs + (k - corner hs) ≡ k = omega arith in
        subst (λ (c : ℕ). get_or hs c 0 ≡ lowest hs) e (flat_run-at hs (k - corner hs) (omega arith))

-- what a skyline keeps, over its frames, the newest first
pub record Keeps (i : Inst) (w : Weighting) (rev : List Frame) (rs : List Run) (weight cases : ℕ) : Type 0 where
  pub few : length rev ≤ 500000
  pub lawful : IsLawfulPath i (steps_of rev)
  pub corners : KeepsCorners i rev
  pub runs : KeepsRuns i w rev rs weight
  pub counted : cases ≡ length (state_of i (steps_of rev)).spots

-- what the code of a step computes
pub record Makes (i : Inst) (w : Weighting) (hs : List ℕ) (rs new : List Run) (weight now run v : ℕ) (rest : Run) (f : Frame) : Type 0 where
  pub allowed : IsTrue (allows i hs f.step)
  pub x : f.x ≡ corner hs
  pub y : f.y ≡ lowest hs
  pub run_is : run ≡ flat_run hs
  pub columns : f.columns ≡ width_by i f.x run f.step
  pub height : v ≡ height_by i f.y f.step
  pub first : f.first ≡ entry rs f.x
  pub second : f.second ≡ entry rs (f.x + f.columns)
  pub cut : f.columns < run → rest ≡ record { width = run - f.columns; height = f.y }
  pub whole : run ≤ f.columns → rest ≡ f.second
  pub weighs : f.weight ≡ block_weight (weight_of w) f.x f.y f.columns (v - f.y)
  pub written : new ≡ put rs f.x (record { width = f.columns; height = v }) (f.x + f.columns) rest
  pub less : now ≡ weight - f.weight

-- the step as IsAfter-step has it, at the code's numbers
made-after :
    (i : Inst) (w : Weighting) (older : List Step) (rs new : List Run) (weight now x y run n v block : ℕ) (rest second : Run) (m : Step)
    → IsAfter i w older rs weight
    → length (state_of i older).heights ≡ i.l_side
    → IsTrue (allows i (state_of i older).heights m)
    → corner (state_of i older).heights ≡ x
    → lowest (state_of i older).heights ≡ y
    → flat_run (state_of i older).heights ≡ run
    → n ≡ width_by i x run m
    → v ≡ height_by i y m
    → block ≡ block_weight (weight_of w) x y n (v - y)
    → (n < run → rest ≡ record { width = run - n; height = y })
    → (run ≤ n → rest ≡ entry rs (x + n))
    → new ≡ put rs x (record { width = n; height = v }) (x + n) rest
    → now ≡ weight - block
    → (block ≤ weight) × IsAfter i w (m ∷ older) new now
made-after i w older rs new weight now x y run n v block rest second m a wide t ex ey er =
    subst
    (λ (c : ℕ). n ≡ width_by i c run m → v ≡ height_by i y m → block ≡ block_weight (weight_of w) c y n (v - y)
    → (n < run → rest ≡ record { width = run - n; height = y }) → (run ≤ n → rest ≡ entry rs (c + n))
    → new ≡ put rs c (record { width = n; height = v }) (c + n) rest → now ≡ weight - block → (block ≤ weight) × IsAfter i w (m ∷ older) new now) ex
    (subst
    (λ (l : ℕ). n ≡ width_by i (corner (state_of i older).heights) run m → v ≡ height_by i l m
    → block ≡ block_weight (weight_of w) (corner (state_of i older).heights) l n (v - l)
    → (n < run → rest ≡ record { width = run - n; height = l }) → (run ≤ n → rest ≡ entry rs (corner (state_of i older).heights + n))
    → new ≡ put rs (corner (state_of i older).heights) (record { width = n; height = v }) (corner (state_of i older).heights + n) rest
    → now ≡ weight - block → (block ≤ weight) × IsAfter i w (m ∷ older) new now) ey
    (subst
    (λ (r : ℕ). n ≡ width_by i (corner (state_of i older).heights) r m → v ≡ height_by i (lowest (state_of i older).heights) m
    → block ≡ block_weight (weight_of w) (corner (state_of i older).heights) (lowest (state_of i older).heights) n (v - lowest (state_of i older).heights)
    → (n < r → rest ≡ record { width = r - n; height = lowest (state_of i older).heights }) → (r ≤ n → rest ≡ entry rs (corner (state_of i older).heights + n))
    → new ≡ put rs (corner (state_of i older).heights) (record { width = n; height = v }) (corner (state_of i older).heights + n) rest
    → now ≡ weight - block → (block ≤ weight) × IsAfter i w (m ∷ older) new now) er
    (λ en ev eb cut whole written less.
    let r = IsAfter-step i w m older rs weight block n v rest a wide t en ev eb cut whole in (
      r.0,
      subst (λ (l : List Run). IsAfter i w (m ∷ older) l now) (sym written)
          (subst (λ (u : ℕ). IsAfter i w (m ∷ older) (put rs (corner (state_of i older).heights) (record { width = n; height = v }) (corner (state_of i older).heights + n) rest) u) (sym less) r.1),
    ))))

pub Keeps-step :
    (i : Inst) (w : Weighting) (rev all : List Frame) (rs new : List Run) (weight now cases count run v : ℕ) (rest : Run) (f : Frame)
    → Keeps i w rev rs weight cases
    → length rev < 500000
    → Makes i w (state_of i (steps_of rev)).heights rs new weight now run v rest f
    → count ≡ cases + (if is_case f.step then 1 else 0)
    → all ≡ f ∷ rev
    → Keeps i w all new now count
Keeps-step i w rev all rs new weight now cases count run v rest f k room m counted e =
    let side : 1 ≤ i.l_side = i.sides.l_min in
    let wide : length (state_of i (steps_of rev)).heights ≡ i.l_side = state_of-wide i (steps_of rev) k.lawful in
    let fits : Fits i (state_of i (steps_of rev)).heights
    (width_by i (corner (state_of i (steps_of rev)).heights) (flat_run (state_of i (steps_of rev)).heights) f.step)
    (height_by i (lowest (state_of i (steps_of rev)).heights) f.step) =
    step-fits i (state_of i (steps_of rev)).heights f.step wide m.allowed in
    let en : f.columns ≡ width_by i (corner (state_of i (steps_of rev)).heights) (flat_run (state_of i (steps_of rev)).heights) f.step =
    m.columns ∙ (ap (λ (c : ℕ). width_by i c run f.step) m.x ∙ ap (λ (r : ℕ). width_by i (corner (state_of i (steps_of rev)).heights) r f.step) m.run_is) in
    let some : 0 < width_by i (corner (state_of i (steps_of rev)).heights) (flat_run (state_of i (steps_of rev)).heights) f.step = fits.some in
    let within : width_by i (corner (state_of i (steps_of rev)).heights) (flat_run (state_of i (steps_of rev)).heights) f.step ≤ flat_run (state_of i (steps_of rev)).heights = fits.within in
    let inside : corner (state_of i (steps_of rev)).heights + flat_run (state_of i (steps_of rev)).heights ≤ length (state_of i (steps_of rev)).heights =
    flat_run-fits (state_of i (steps_of rev)).heights (omega arith) in
    let ex : f.x ≡ corner (state_of i (steps_of rev)).heights = m.x in
    let after = made-after i w (steps_of rev) rs new weight now f.x f.y run f.columns v f.weight rest f.second f.step
    (KeepsRuns-now i w rev rs weight k.runs) wide m.allowed (sym m.x) (sym m.y) (sym m.run_is) m.columns m.height m.weighs m.cut
    (λ le. m.whole le ∙ m.second) m.written m.less in
    let block : f.weight ≤ weight = after.0 in
    let less : now ≡ weight - f.weight = m.less in
    let back : restored f new ≡ rs =
    ap (λ (l : List Run). restored f l) m.written
    ∙ (ap (λ (p : Run). put (put rs f.x (record { width = f.columns; height = v }) (f.x + f.columns) rest) f.x p (f.x + f.columns) f.second) m.first
    ∙ (ap (λ (p : Run). put (put rs f.x (record { width = f.columns; height = v }) (f.x + f.columns) rest) f.x (entry rs f.x) (f.x + f.columns) p) m.second
    ∙ put-back rs f.x (f.x + f.columns) (record { width = f.columns; height = v }) rest (omega arith))) in
    let again : now + f.weight ≡ weight = omega arith in
    subst (λ (r : List Frame). Keeps i w r new now count) (sym e)
    (record {
      few = omega arith;
      lawful = (m.allowed, k.lawful);
      corners = (m.x, m.y, omega arith, k.corners);
      runs = (
        after.1,
        subst (λ (l : List Run). KeepsRuns i w rev l (now + f.weight)) (sym back)
            (subst (λ (u : ℕ). KeepsRuns i w rev rs u) (sym again) k.runs),
      );
      counted =
          let a : length ((state_of i (steps_of rev)).spots ++ case_of (state_of i (steps_of rev)).heights f.step)
          ≡ length (state_of i (steps_of rev)).spots + length (case_of (state_of i (steps_of rev)).heights f.step) =
          length-append (state_of i (steps_of rev)).spots (case_of (state_of i (steps_of rev)).heights f.step) in
          let b : length (case_of (state_of i (steps_of rev)).heights f.step) ≡ (if is_case f.step then 1 else 0) =
          length-case_of (state_of i (steps_of rev)).heights f.step in
          let d : cases ≡ length (state_of i (steps_of rev)).spots = k.counted in
          cc_sum a b d counted;
    })
  where
    cc_sum : {a b c d e g : ℕ} → a ≡ b + c → c ≡ d → e ≡ b → g ≡ e + d → g ≡ a
    cc_sum p q r s = omega arith

KeepsCorners-suffix : (i : Inst) (xs ys : List Frame) → KeepsCorners i (xs ++ ys) → KeepsCorners i ys
KeepsCorners-suffix i [] ys k = k
KeepsCorners-suffix i (x ∷ xs) ys k = KeepsCorners-suffix i xs ys k.3

-- the frames up to a place, the newest first
abbrev pub front : List Frame → ℕ → List Frame
front fs k = reverse (take k fs)

pub front-suc : (fs : List Frame) (k : ℕ) (d : Frame) → k < length fs → front fs (k + 1) ≡ get_or fs k d ∷ front fs k
front-suc fs k d lt =
    let e : suc k ≡ k + 1 = omega arith in
    ap (λ (n : ℕ). reverse (take n fs)) (sym e)
    ∙ (ap reverse (take-suc fs k d lt) ∙ reverse-append (take k fs) (get_or fs k d ∷ []))

front-whole : (fs : List Frame) (k : ℕ) → reverse fs ≡ reverse (drop k fs) ++ front fs k
front-whole fs k = ap reverse (sym (take-append-drop k fs)) ∙ reverse-append (take k fs) (drop k fs)

-- one more frame adds its case
pub front-spots :
    (i : Inst) (fs : List Frame) (k : ℕ) (d : Frame)
    → KeepsCorners i (reverse fs)
    → k < length fs
    → (state_of i (steps_of (front fs (k + 1)))).spots
    ≡ (state_of i (steps_of (front fs k))).spots ++ case_by (get_or fs k d).x (get_or fs k d).y (get_or fs k d).step
front-spots i fs k d kept lt =
    let all : KeepsCorners i (reverse (drop (k + 1) fs) ++ front fs (k + 1)) =
    subst (λ (l : List Frame). KeepsCorners i l) (front-whole fs (k + 1)) kept in
    let here : KeepsCorners i (get_or fs k d ∷ front fs k) =
    subst (λ (l : List Frame). KeepsCorners i l) (front-suc fs k d lt) (KeepsCorners-suffix i (reverse (drop (k + 1) fs)) (front fs (k + 1)) all) in
    ap (λ (l : List Frame). (state_of i (steps_of l)).spots) (front-suc fs k d lt)
    ∙ ap (λ (c : List Spot). (state_of i (steps_of (front fs k))).spots ++ c)
    (case-by (state_of i (steps_of (front fs k))).heights (get_or fs k d).step
    ∙ (ap (λ (x : ℕ). case_by x (lowest (state_of i (steps_of (front fs k))).heights) (get_or fs k d).step) (sym here.0)
    ∙ ap (λ (y : ℕ). case_by (get_or fs k d).x y (get_or fs k d).step) (sym here.1)))

pub spots-on :
    (i : Inst) (fs : List Frame) (k : ℕ) (d : Frame) (o : Option Spot) (old new : List Spot)
    → KeepsCorners i (reverse fs)
    → k < length fs
    → option_to_list o ≡ case_by (get_or fs k d).x (get_or fs k d).y (get_or fs k d).step
    → old ≡ (state_of i (steps_of (front fs k))).spots
    → new ≡ old ++ option_to_list o
    → new ≡ (state_of i (steps_of (front fs (k + 1)))).spots
spots-on i fs k d o old new kept lt placed before added =
    added
    ∙ (ap (λ (l : List Spot). l ++ option_to_list o) before
    ∙ (ap (λ (l : List Spot). (state_of i (steps_of (front fs k))).spots ++ l) placed
    ∙ sym (front-spots i fs k d kept lt)))

-- what a skyline knows of its path
pub after-at : (s : Inside) (p : Path) → IsSkyline s → path_of s ≡ p → IsAfter p.inst p.weighting p.steps s.runs.items s.weight
after-at s p k e =
    subst (λ (q : Path). IsAfter q.inst q.weighting q.steps s.runs.items s.weight) e
    (KeepsRuns-now s.inst s.weighting (reverse s.frames.items) s.runs.items s.weight k.runs)

pub lawful-at : (s : Inside) (p : Path) → IsSkyline s → path_of s ≡ p → IsLawfulPath p.inst p.steps
lawful-at s p k e = subst (λ (q : Path). IsLawfulPath q.inst q.steps) e k.lawful

pub path-at : (s : Inside) (p : Path) → IsSkyline s → path_of s ≡ p → IsPath p
path-at s p k e = subst (λ (q : Path). IsPath q) e (record { is_least = k.is_least; some = k.least; lawful = k.lawful })

-- where each case weighs something, so does the lightest one
pub least-some : (i : Inst) (g : ℕ → ℕ → ℕ) (q : ℕ) → IsLeastWeight i g q → WeighsAtLeast g i 1 → 0 < q
least-some i g q least some =
    let one : 1 ≤ spot_weight g i least.spot = some least.spot least.inside least.lawful in
    let same : spot_weight g i least.spot ≡ q = least.reached in
    omega arith

-- the least weight is one
pub least-one : (i : Inst) (g : ℕ → ℕ → ℕ) (q r : ℕ) → IsLeastWeight i g q → IsLeastWeight i g r → q ≡ r
least-one i g q r a b =
    let below : q ≤ spot_weight g i b.spot = a.bound b.spot b.inside b.lawful in
    let above : r ≤ spot_weight g i a.spot = b.bound a.spot a.inside a.lawful in
    let here : spot_weight g i a.spot ≡ q = a.reached in
    let there : spot_weight g i b.spot ≡ r = b.reached in
    omega arith

pub corner-found :
    (s : Inside) (p : Path) (rs : List Run) (x y run c columns : ℕ)
    → IsSkyline s
    → path_of s ≡ p
    → Scan (state p).heights x y run c
    → HasRuns rs (state p).heights c columns
    → columns ≡ p.inst.l_side
    → columns ≤ c
    → (x ≡ corner (state p).heights)
    × (y ≡ lowest (state p).heights)
    × (run ≡ flat_run (state p).heights)
    × (x + run ≤ p.inst.l_side)
    × (y ≤ p.inst.w_side)
corner-found s p rs x y run c columns k e scan ahead same ended =
    let lawful : IsLawfulPath p.inst p.steps = lawful-at s p k e in
    let wide : length (state p).heights ≡ p.inst.l_side = state_of-wide p.inst p.steps lawful in
    let le : c ≤ columns = leads-le rs (state p).heights ahead.0 c columns ahead.1 in
    let found = scan-end (state p).heights x y run c scan (omega arith) in
    let low : lowest (state p).heights ≤ p.inst.w_side = state_of-lowest p.inst p.steps lawful in
    let ey : y ≡ lowest (state p).heights = found.1 in
    let fits : x + run ≤ length (state p).heights = found.3 in
    (found.0, ey, found.2, omega arith, omega arith)

pub Keeps-start :
    (i : Inst) (w : Weighting) (frames : List Frame) (rs : List Run) (weight : ℕ)
    → frames ≡ []
    → rs ≡ replicate (i.l_side + 1) (record { width = i.l_side; height = 0 })
    → weight ≡ total_weight (weight_of w) i
    → weight ≤ 16000000000
    → Keeps i w (reverse frames) rs weight 0
Keeps-start i w frames rs weight none all whole small =
    let some : 1 ≤ i.l_side = i.sides.l_min in
    subst (λ (l : List Frame). Keeps i w (reverse l) rs weight 0) (sym none)
    (record {
      few = omega arith;
      lawful = tt;
      corners = tt;
      runs = record {
        wide = ap length all ∙ length-replicate (i.l_side + 1) (record { width = i.l_side; height = 0 });
        leads =
            runs-all rs (replicate {A = ℕ} i.l_side 0) i.l_side (omega arith)
            (ap (λ (l : List Run). entry l 0) all
            ∙ get_or-replicate (i.l_side + 1) 0 (record { width = i.l_side; height = 0 }) (record { width = 0; height = 0 }) (omega arith))
            (λ k. zeros i.l_side k);
        weighs = whole ∙ total-above i (weight_of w);
        small = small;
      };
      counted = refl;
    })

-- the numbers of a step that the state has
pub step-numbers :
    (s : Inside) (p : Path) (x y run n v : ℕ) (m : Step)
    → IsSkyline s
    → path_of s ≡ p
    → IsTrue (allows p.inst (state p).heights m)
    → x ≡ corner (state p).heights
    → y ≡ lowest (state p).heights
    → run ≡ flat_run (state p).heights
    → n ≡ width_by s.inst x run m
    → v ≡ height_by s.inst y m
    → (y ≤ v) × (v ≤ s.inst.w_side) × (0 < n) × (n ≤ run) × (x + n ≤ s.inst.l_side) × (length s.runs.items ≡ s.inst.l_side + 1)
step-numbers s p x y run n v m k e =
    subst
    (λ (q : Path). IsTrue (allows q.inst (state q).heights m) → x ≡ corner (state q).heights → y ≡ lowest (state q).heights → run ≡ flat_run (state q).heights
    → n ≡ width_by s.inst x run m → v ≡ height_by s.inst y m
    → (y ≤ v) × (v ≤ s.inst.w_side) × (0 < n) × (n ≤ run) × (x + n ≤ s.inst.l_side) × (length s.runs.items ≡ s.inst.l_side + 1)) e
    (λ t ex ey er en ev.
    let lawful : IsLawfulPath s.inst (steps_of (reverse s.frames.items)) = k.lawful in
    let wide : length (state_of s.inst (steps_of (reverse s.frames.items))).heights ≡ s.inst.l_side = state_of-wide s.inst (steps_of (reverse s.frames.items)) lawful in
    let after = KeepsRuns-now s.inst s.weighting (reverse s.frames.items) s.runs.items s.weight k.runs in
    let side : 1 ≤ s.inst.l_side = s.inst.sides.l_min in
    let inside : corner (state_of s.inst (steps_of (reverse s.frames.items))).heights + flat_run (state_of s.inst (steps_of (reverse s.frames.items))).heights
    ≤ length (state_of s.inst (steps_of (reverse s.frames.items))).heights =
    flat_run-fits (state_of s.inst (steps_of (reverse s.frames.items))).heights (omega arith) in
    let fits = step-fits s.inst (state_of s.inst (steps_of (reverse s.frames.items))).heights m wide t in
    let n_is : n ≡ width_by s.inst (corner (state_of s.inst (steps_of (reverse s.frames.items))).heights) (flat_run (state_of s.inst (steps_of (reverse s.frames.items))).heights) m =
    en ∙ (ap (λ (c : ℕ). width_by s.inst c run m) ex ∙ ap (λ (r : ℕ). width_by s.inst (corner (state_of s.inst (steps_of (reverse s.frames.items))).heights) r m) er) in
    let v_is : v ≡ height_by s.inst (lowest (state_of s.inst (steps_of (reverse s.frames.items))).heights) m =
    ev ∙ ap (λ (l : ℕ). height_by s.inst l m) ey in
    numbers x y run n v _ _ _ _ _ s.inst.w_side s.inst.l_side _ ex ey er n_is v_is fits.some fits.within fits.up fits.high inside wide after.wide)
  where
    numbers : (x y run n v c l r a b w columns len : ℕ) {hs : ℕ}
        → x ≡ c → y ≡ l → run ≡ r → n ≡ a → v ≡ b → 0 < a → a ≤ r → l ≤ b → b ≤ w → c + r ≤ hs → hs ≡ columns → len ≡ columns + 1
        → (y ≤ v) × (v ≤ w) × (0 < n) × (n ≤ run) × (x + n ≤ columns) × (len ≡ columns + 1)
    numbers x y run n v c l r a b w columns len p1 p2 p3 p4 p5 p6 p7 p8 p9 p10 p11 p12 =
        (omega arith, omega arith, omega arith, omega arith, omega arith, p12)

pub step-light :
    (s : Inside) (p : Path) (x y run n v block : ℕ) (m : Step)
    → IsSkyline s
    → path_of s ≡ p
    → IsTrue (allows p.inst (state p).heights m)
    → x ≡ corner (state p).heights
    → y ≡ lowest (state p).heights
    → run ≡ flat_run (state p).heights
    → n ≡ width_by s.inst x run m
    → v ≡ height_by s.inst y m
    → block ≡ block_weight (weight_of s.weighting) x y n (v - y)
    → block ≤ s.weight
step-light s p x y run n v block m k e =
    subst
    (λ (q : Path). IsTrue (allows q.inst (state q).heights m) → x ≡ corner (state q).heights → y ≡ lowest (state q).heights → run ≡ flat_run (state q).heights
    → n ≡ width_by s.inst x run m → v ≡ height_by s.inst y m → block ≡ block_weight (weight_of s.weighting) x y n (v - y) → block ≤ s.weight) e
    (λ t ex ey er en ev eb.
    let wide : length (state_of s.inst (steps_of (reverse s.frames.items))).heights ≡ s.inst.l_side = state_of-wide s.inst (steps_of (reverse s.frames.items)) k.lawful in
    let after = KeepsRuns-now s.inst s.weighting (reverse s.frames.items) s.runs.items s.weight k.runs in
    elim (cases_lt n run) [
      | inl less ↦
          (made-after s.inst s.weighting (steps_of (reverse s.frames.items)) s.runs.items _ s.weight _ x y run n v block
          (record { width = run - n; height = y }) (record { width = 0; height = 0 }) m after wide t (sym ex) (sym ey) (sym er) en ev eb
          (λ h. refl) (λ h. absurd (omega arith)) refl refl).0
      | inr more ↦
          (made-after s.inst s.weighting (steps_of (reverse s.frames.items)) s.runs.items _ s.weight _ x y run n v block
          (entry s.runs.items (x + n)) (record { width = 0; height = 0 }) m after wide t (sym ex) (sym ey) (sym er) en ev eb
          (λ h. absurd (omega arith)) (λ h. refl) refl refl).0
    ])
