-- A line at which no case ends has no longer run than one before it at which a case ends.
use Rattle.std.proofs.Common.{◌≡◌, ◌≢◌, ℕ, zero, suc, ◌+◌, ◌*◌, ◌<◌, ◌≤◌, ◌⊎◌, ◌↔◌, List, [], ◌∷◌, length, get_or, take, subst, refl, inl, inr, arith, length-take, get_or-take}
use Rattle.std.specs.List.{All, Any}
use Rattle.std.proofs.lemmas.Bool.{cases_eq, cases_lt}
use Rattle.std.proofs.lemmas.List.Elements.{All-nil, All-cons, All-more}
use Rattle.plan_geometry.specs.declared.spots.Axis.{Axis}
use Rattle.plan_geometry.specs.declared.spots.Axis.TheVariants.{X, Y}
use Rattle.plan_geometry.specs.declared.spots.Spot.{Spot}
use Rattle.plan_geometry.specs.declared.spots.Way.{Way}
use Rattle.plan_geometry.specs.declared.spots.Way.TheVariants.{Lying, Standing}
use Rattle.plan_geometry.specs.declared.instances.Inst.{Inst}
use Rattle.plan_geometry.specs.Layout.{side, extent, start, IsInside}
use Rattle.contact_rules.specs.Real.{IsGapOf, other, real_side, real_extent, real_finish}
use Rattle.contact_rules.specs.Cut.{EachCase, SomeCase, Counts, Crosses, IsRun, SomeRun, IsGreatestRun}
use Rattle.contact_rules.specs.Rules.{KeepsCuts}
use Rattle.contact_rules.specs.Steps.{EndsFrom, IsLongest}

-- ---- lists

-- what can be decided of each element holds of some element or of none
pub some_or_none : {T : Type 0} (P : T → Type 0) (dec : (x : T) → P x ⊎ (P x → ⊥)) (xs : List T) → Any P xs ⊎ All (λ x. P x → ⊥) xs
some_or_none P dec [] = inr (All-nil (λ x. P x → ⊥))
some_or_none P dec (x ∷ xs) =
    elim (dec x) [
      | inl p ↦ inl (0, x, omega arith, refl, p)
      | inr n ↦
          elim (some_or_none P dec xs) [
            | inl s ↦ inl (suc s.0, s.1, omega (arith, s.2), s.3, s.4)
            | inr a ↦ inr (All-cons (λ x. P x → ⊥) x xs n a)
          ]
    ]

some_case_or_none : (P : Spot → Type 0) (dec : (x : Spot) → P x ⊎ (P x → ⊥)) (l u : List Spot) → SomeCase P l u ⊎ EachCase (λ s. P s → ⊥) l u
some_case_or_none P dec l u =
    elim (some_or_none P dec l) [
      | inl a ↦ inl (inl a)
      | inr n ↦ elim (some_or_none P dec u) [ inl a ↦ inl (inr a) | inr m ↦ inr (n, m) ]
    ]

Any-with : {T : Type 0} (P Q R : T → Type 0) (f : (x : T) → P x → Q x → R x) (xs : List T) → Any P xs → All Q xs → Any R xs
Any-with P Q R f xs a h =
    let q : Q a.1 = subst (λ x. Q x) a.3 (h a.0 a.1 a.2) in
    (a.0, a.1, a.2, a.3, f a.1 a.4 q)

pub SomeCase-with : (P Q R : Spot → Type 0) (f : (x : Spot) → P x → Q x → R x) (l u : List Spot) → SomeCase P l u → EachCase Q l u → SomeCase R l u
SomeCase-with P Q R f l u a h =
    elim a [ inl x ↦ inl (Any-with P Q R f l x h.0) | inr x ↦ inr (Any-with P Q R f u x h.1) ]

pub SomeCase-weaker : (P R : Spot → Type 0) (f : (x : Spot) → P x → R x) (l u : List Spot) → SomeCase P l u → SomeCase R l u
SomeCase-weaker P R f l u a =
    elim a [ inl x ↦ inl (x.0, x.1, x.2, x.3, f x.1 x.4) | inr x ↦ inr (x.0, x.1, x.2, x.3, f x.1 x.4) ]

-- a case of either layer, with what holds of each
pub the_case : (P Q : Spot → Type 0) (l u : List Spot) → SomeCase P l u → EachCase Q l u → (s : Spot) × P s × Q s
the_case P Q l u a h =
    elim a [
      | inl x ↦ (x.1, x.4, subst (λ s. Q s) x.3 (h.0 x.0 x.1 x.2))
      | inr x ↦ (x.1, x.4, subst (λ s. Q s) x.3 (h.1 x.0 x.1 x.2))
    ]

pub EachCase-with : (P Q R : Spot → Type 0) (f : (x : Spot) → P x → Q x → R x) (l u : List Spot) → EachCase P l u → EachCase Q l u → EachCase R l u
EachCase-with P Q R f l u a h =
    (λ k d p. f (get_or l k d) (a.0 k d p) (h.0 k d p), λ k d p. f (get_or u k d) (a.1 k d p) (h.1 k d p))

EachCase-any : (R : Spot → Type 0) (f : (x : Spot) → R x) (l u : List Spot) → EachCase R l u
EachCase-any R f l u = (λ k d p. f (get_or l k d), λ k d p. f (get_or u k d))

-- one more element of what holds exactly where all so far have a property
pub iff-more : {T : Type 0} (P : T → Type 0) (xs : List T) (i : ℕ) (d : T) (A B L : Type 0) → i < length xs → A ↔ (L × All P (take i xs)) → B ↔ (A × P (get_or xs i d)) → B ↔ (L × All P (take (i + 1) xs))
iff-more P xs i d A B L lt old new = (
  λ b. let n = new.0 b in let o = old.0 n.0 in (o.0, All-more P xs i d lt o.1 n.1),
  λ h.
      let front : All P (take i xs) =
      λ k e q.
      let a : k < i = omega (arith, length-take i xs) in
      let f : P (get_or (take (i + 1) xs) k e) = h.1 k e (omega (arith, length-take (i + 1) xs, length-take i xs)) in
      rw (get_or-take i xs k e a) (rw (get_or-take (i + 1) xs k e (omega arith)) at f) in
      let last : P (get_or (take (i + 1) xs) i d) = h.1 i d (omega (arith, length-take (i + 1) xs)) in
      new.1 (old.1 (h.0, front), rw (get_or-take (i + 1) xs i d (omega arith)) at last),
)

-- ---- extents

pub extent-gap : (a : Axis) (I : Inst) (g : ℕ) (w : Way) → IsGapOf I g → g < extent a I w
extent-gap X I g Lying h = h.long
extent-gap X I g Standing h = h.short
extent-gap Y I g Lying h = h.short
extent-gap Y I g Standing h = h.long

pub extent-some : (a : Axis) (I : Inst) (g : ℕ) (w : Way) → IsGapOf I g → 0 < real_extent a I g w
extent-some a I g w h = omega (arith, extent-gap a I g w h)

case-inside : (a : Axis) (I : Inst) (s : Spot) → IsInside I s → start a s + extent a I s.way ≤ side a I
case-inside X I s i = i.in_x
case-inside Y I s i = i.in_y

pub finish-inside : (a : Axis) (I : Inst) (g : ℕ) (s : Spot) → IsGapOf I g → IsInside I s → real_finish a I g s ≤ real_side a I g
finish-inside a I g s h i = omega (arith, extent-gap a I g s.way h, case-inside a I s i)

-- ---- lines at which no case ends can be left out

-- a line that counts, at which some case ends, no further than another
pub record EarlierLine (a : Axis) (I : Inst) (g : ℕ) (l u : List Spot) (line row n : ℕ) : Type 0 where
  pub earlier : ℕ
  pub at_most : earlier ≤ line
  pub ends : SomeCase (λ s. real_finish a I g s ≡ earlier) l u
  pub counts : Counts a I g l u earlier
  pub run : IsRun a I g l u earlier row n

pub lines_left_out : (a : Axis) (I : Inst) (g : ℕ) (l u : List Spot) → IsGapOf I g → (line row n : ℕ) → Counts a I g l u line → IsRun a I g l u line row n → EarlierLine a I g l u line row n
lines_left_out a I g l u gap zero row n c r = absurd (omega (arith, c.positive))
lines_left_out a I g l u gap (suc line) row n c r =
    elim (some_case_or_none (λ s. real_finish a I g s ≡ suc line) (λ s. cases_eq (real_finish a I g s) (suc line)) l u) [
      | inl e ↦ record { earlier = suc line; at_most = omega arith; ends = e; counts = c; run = r }
      | inr none ↦
          let before : SomeCase (λ s. (real_finish a I g s ≤ line) × (0 < line)) l u =
          SomeCase-with (λ s. real_finish a I g s ≤ suc line) (λ s. real_finish a I g s ≢ suc line) (λ s. (real_finish a I g s ≤ line) × (0 < line)) (λ s x y. let z : 0 < real_extent a I g s.way = extent-some a I g s.way gap in (omega arith, omega arith)) l u c.some_before none in
          let positive : 0 < line = (the_case (λ s. (real_finish a I g s ≤ line) × (0 < line)) (λ s. Unit {0}) l u before (EachCase-any (λ s. Unit {0}) (λ s. tt) l u)).1.1 in
          let counts : Counts a I g l u line =
          record {
            positive = positive;
            within = omega (arith, c.within);
            some_before = SomeCase-with (λ s. (real_finish a I g s ≤ line) × (0 < line)) (λ s. Unit {0}) (λ s. real_finish a I g s ≤ line) (λ s x y. x.0) l u before (EachCase-any (λ s. Unit {0}) (λ s. tt) l u);
            some_after = SomeCase-with (λ s. suc line ≤ start a s) (λ s. Unit {0}) (λ s. line ≤ start a s) (λ s x y. omega arith) l u c.some_after (EachCase-any (λ s. Unit {0}) (λ s. tt) l u);
          } in
          let run : IsRun a I g l u line row n =
          record {
            within = r.within;
            uncrossed = λ k x y. EachCase-with (λ s. ¬ Crosses a I g (suc line) k s) (λ s. real_finish a I g s ≢ suc line) (λ s. ¬ Crosses a I g line k s) (λ s f ne cr. f (record { row_from = cr.row_from; row_to = cr.row_to; begins_before = omega (arith, cr.begins_before); ends_after = omega (arith, cr.ends_after) })) l u (r.uncrossed k x y) none;
          } in
          let z = lines_left_out a I g l u gap line row n counts run in
          record { earlier = z.earlier; at_most = omega (arith, z.at_most); ends = z.ends; counts = z.counts; run = z.run }
    ]

-- ---- the steps of the loops

-- what the code reads where a list has no element
abbrev pub corner : Spot
corner = record { x = 0; y = 0; way = Lying }

pub All-end : {T : Type 0} (P : T → Type 0) (xs : List T) (i : ℕ) → length xs ≤ i → All P (take i xs) → All P xs
All-end P xs i le h = λ k d p. rw (get_or-take i xs k d (omega arith)) at (h k d (omega (arith, length-take i xs)))

-- the greatest run alone decides a cut rule
pub cuts-kept : (a : Axis) (I : Inst) (g percent n : ℕ) (l u : List Spot) → IsGreatestRun a I g l u n → (n * 100 ≤ percent * real_side (other a) I g) ↔ KeepsCuts a I g l u percent
cuts-kept a I g percent n l u h = (
  λ le line row m c r. let z : m ≤ n = h.bound line row m c r in omega arith,
  λ k. elim h.reached [ inl z ↦ omega arith | inr r ↦ k r.line r.row n r.counts r.run ],
)

-- ---- the next line

pub EndsFrom-less : (a : Axis) (I : Inst) (g from next less : ℕ) (xs : List Spot) → less ≤ next → All (EndsFrom a I g from next) xs → All (EndsFrom a I g from less) xs
EndsFrom-less a I g from next less xs le h = λ k d p at. let z : next ≤ real_finish a I g (get_or xs k d) = h k d p at in omega arith

-- a line that is passed over is one at which no case ends
pub passed-over : (a : Axis) (I : Inst) (g here next : ℕ) (l u : List Spot) → EachCase (EndsFrom a I g here next) l u → here < next → SomeCase (λ s. real_finish a I g s ≡ here) l u → ⊥
passed-over a I g here next l u skips lt ends =
    let c = the_case (λ s. real_finish a I g s ≡ here) (EndsFrom a I g here next) l u ends skips in
    let z : next ≤ real_finish a I g c.0 = c.2 (omega (arith, c.1)) in
    omega (arith, c.1)

EndsFrom-later : (a : Axis) (I : Inst) (g here later next : ℕ) (l u : List Spot) → here ≤ later → EachCase (EndsFrom a I g here next) l u → EachCase (EndsFrom a I g later next) l u
EndsFrom-later a I g here later next l u le skips =
    (λ k d p at. skips.0 k d p (omega arith), λ k d p at. skips.1 k d p (omega arith))

-- ---- the greatest run so far

-- no line before this one at which a case ends has a longer run
pub record IsGreatestBefore (a : Axis) (I : Inst) (g : ℕ) (l u : List Spot) (here n : ℕ) : Type 0 where
  pub bound : (line row m : ℕ) → line < here → SomeCase (λ s. real_finish a I g s ≡ line) l u → Counts a I g l u line → IsRun a I g l u line row m → m ≤ n
  pub reached : (n ≡ 0) ⊎ SomeRun a I g l u n

pub greatest-none : (a : Axis) (I : Inst) (g : ℕ) (l u : List Spot) → IsGreatestBefore a I g l u 1 0
greatest-none a I g l u = record { bound = λ line row m lt at counts run. absurd (omega (arith, counts.positive)); reached = inl refl }

pub greatest-next : (a : Axis) (I : Inst) (g here most n : ℕ) (l u : List Spot) → 0 < here → here < real_side a I g → SomeCase (λ s. real_finish a I g s ≡ here) l u → IsGreatestBefore a I g l u here most → IsLongest a I g l u here most n → IsGreatestBefore a I g l u (here + 1) n
greatest-next a I g here most n l u positive within ends h new =
    record {
      bound = λ line row m lt at counts run.
          elim (cases_lt line here) [
            | inl before ↦ let z : m ≤ most = h.bound line row m before at counts run in omega (arith, new.grows)
            | inr from ↦
                let e : line ≡ here = omega arith in
                new.bound (subst (λ k. SomeCase (λ s. k ≤ start a s) l u) e counts.some_after) row m (subst (λ k. IsRun a I g l u k row m) e run)
          ];
      reached = elim new.reached [
        | inl e ↦ rw e h.reached
        | inr r ↦
            let counts : Counts a I g l u here =
            record { positive = positive; within = within; some_before = SomeCase-weaker (λ s. real_finish a I g s ≡ here) (λ s. real_finish a I g s ≤ here) (λ s x. omega arith) l u ends; some_after = r.0 } in
            inr (record { line = here; row = r.1.0; counts = counts; run = r.1.1 })
      ];
    }

-- lines that are passed over, up to the next at which a case ends
pub greatest-onward : (a : Axis) (I : Inst) (g here most next : ℕ) (l u : List Spot) → EachCase (EndsFrom a I g here next) l u → IsGreatestBefore a I g l u here most → IsGreatestBefore a I g l u next most
greatest-onward a I g here most next l u skips h =
    record {
      bound = λ line row m lt at counts run.
          elim (cases_lt line here) [
            | inl before ↦ h.bound line row m before at counts run
            | inr from ↦ absurd (passed-over a I g line next l u (EndsFrom-later a I g here line next l u from skips) lt at)
          ];
      reached = h.reached;
    }

pub greatest-whole : (a : Axis) (I : Inst) (g here most : ℕ) (l u : List Spot) → IsGapOf I g → real_side a I g ≤ here → IsGreatestBefore a I g l u here most → IsGreatestRun a I g l u most
greatest-whole a I g here most l u gap end h =
    record {
      bound = λ line row m counts run.
          let z = lines_left_out a I g l u gap line row m counts run in
          h.bound z.earlier row m (omega (arith, z.counts.within)) z.ends z.counts z.run;
      reached = h.reached;
    }
