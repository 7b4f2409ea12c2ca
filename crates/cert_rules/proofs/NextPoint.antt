-- The next normal place.
use Rattle.std.proofs.Common.{◌≡◌, ℕ, zero, suc, ◌+◌, ◌-◌, ◌*◌, ◌/◌, ◌%◌, ◌<◌, ◌≤◌, ◌⊎◌, inl, inr, Bool, true, false, arith, subst, sym, refl, ◌∙◌}
use Rattle.std.specs.Prelude.{nat_le, ◌==◌, ◌&&◌, ◌||◌, if◌then◌else◌}
use Rattle.std.proofs.lemmas.Bool.{cases_lt}
use Rattle.std.proofs.lemmas.Bool.Decides.{nat_tests}
use Rattle.std.proofs.lemmas.Nat.{div-add-mod'}
use Rattle.std.proofs.Math.Nat.{mul-mod_left, mul-le-mul_left}
use Rattle.plan_geometry.specs.declared.instances.Inst.{Inst}
use Rattle.partitions.specs.Partitions.{IsNormal}
use Rattle.raster_points.specs.Places.{IsNext}
use Rattle.cert_rules.specs.Next.{is_sum, normal_from, next}
use Rattle.cert_rules.specs.Laws.{NextIsNormal}

-- a whole number of long and of short sides
abbrev pub IsSum : Inst → ℕ → Type 0
IsSum i v = (a : ℕ) × (b : ℕ) × (a * i.long + b * i.short ≡ v)

no_rest : (b w v : ℕ) → b * w ≡ v → v % w ≡ 0
no_rest b w v e = rw (sym e) (mul-mod_left b w)

at_zero : (w v : ℕ) → v % w ≡ 0 → (v % w == 0) ≡ true
at_zero w v e = grind (arith, nat_tests)

is_zero : (w v : ℕ) → (v % w == 0) ≡ true → v % w ≡ 0
is_zero w v e = grind (arith, nat_tests)

or_left : (a b : Bool) → a ≡ true → (a || b) ≡ true
or_left a b e = rw e refl

or_right : (a b c : Bool) → b ≡ true → c ≡ true → (a || (b && c)) ≡ true
or_right true b c e f = refl
or_right false b c e f = rw (e, f) refl

le_true : (a b : ℕ) → a ≤ b → nat_le a b ≡ true
le_true a b h = grind (arith, nat_tests)

true_le : (a b : ℕ) → nat_le a b ≡ true → a ≤ b
true_le a b h = grind (arith, nat_tests)

either : (a b c : Bool) → (a || (b && c)) ≡ true → (a ≡ true) ⊎ ((b ≡ true) × (c ≡ true))
either true b c e = inl refl
either false true true e = inr (refl, refl)
either false true false e = absurd (cc)
either false false c e = absurd (cc)

short_sum : (i : Inst) (v : ℕ) → v % i.short ≡ 0 → IsSum i v
short_sum i v e =
    let parts : v / i.short * i.short + v % i.short ≡ v = div-add-mod' v i.short in
    (0, v / i.short, omega arith)

is_sum-sound : (i : Inst) (k v : ℕ) → is_sum i k v ≡ true → IsSum i v
is_sum-sound i zero v e = short_sum i v (is_zero i.short v e)
is_sum-sound i (suc k) v e =
    elim (either (v % i.short == 0) (nat_le i.long v) (is_sum i k (v - i.long)) e) [
      | inl short ↦ short_sum i v (is_zero i.short v short)
      | inr more ↦
          let before = is_sum-sound i k (v - i.long) more.1 in
          let sum : before.0 * i.long + before.1 * i.short ≡ v - i.long = before.2 in
          let long : i.long ≤ v = true_le i.long v more.0 in
          (suc before.0, before.1, omega arith)
    ]

pub is_sum-complete :
    (i : Inst) (k a b v : ℕ) → a ≤ k → a * i.long + b * i.short ≡ v → is_sum i k v ≡ true
is_sum-complete i zero a b v le e =
    let none : a ≡ 0 = omega arith in
    let flat : b * i.short ≡ v = subst (λ (x : ℕ). x * i.long + b * i.short ≡ v → b * i.short ≡ v) (sym none) (λ h. omega arith) e in
    at_zero i.short v (no_rest b i.short v flat)
is_sum-complete i (suc k) zero b v le e =
    or_left (v % i.short == 0) (nat_le i.long v && is_sum i k (v - i.long))
    (at_zero i.short v (no_rest b i.short v (omega arith)))
is_sum-complete i (suc k) (suc a) b v le e =
    or_right (v % i.short == 0) (nat_le i.long v) (is_sum i k (v - i.long)) (le_true i.long v (omega arith))
    (is_sum-complete i k a b (v - i.long) (omega arith) (omega arith))

first_or : (b : Bool) (x y u : ℕ) → (b ≡ true → x ≤ u) → (b ≡ false → y ≤ u) → (if b then x else y) ≤ u
first_or true x y u p q = p refl
first_or false x y u p q = q refl

normal_from-least : (i : Inst) (k v u : ℕ) → IsSum i u → v ≤ u → normal_from i k v ≤ u
normal_from-least i zero v u normal le = le
normal_from-least i (suc k) v u normal le =
    first_or (is_sum i v v) v (normal_from i k (v + 1)) u (λ _. le)
    (λ no.
    elim (cases_lt v u) [
      | inl lt ↦ normal_from-least i k (v + 1) u normal (omega arith)
      | inr ge ↦
          let same : v ≡ u = omega arith in
          let few : normal.0 ≤ v = few_long normal.0 normal.1 i.long i.short v i.sides.short_min i.sides.ordered (normal.2 ∙ sym same) in
          let yes : is_sum i v v ≡ true = is_sum-complete i v normal.0 normal.1 v few (normal.2 ∙ sym same) in
          absurd (cc)
    ])
  where
    few_long : (a b l w v : ℕ) → 1 ≤ w → w ≤ l → a * l + b * w ≡ v → a ≤ v
    few_long a b l w v p q e =
        let one : 1 ≤ l = omega arith in
        omega (arith, mul-le-mul_left a one)

-- a normal place is a sum
sum_of : (i : Inst) (side u : ℕ) → IsNormal side i.long i.short u → IsSum i u
sum_of i side u n = (n.i, n.j, sym n.sum)

pub next-least : (i : Inst) (side v u : ℕ) → IsNormal side i.long i.short u → v < u → next i side v ≤ u
next-least i side v u normal lt =
    let le : normal_from i (side - v) (v + 1) ≤ u = normal_from-least i (side - v) (v + 1) u (sum_of i side u normal) (omega arith) in
    omega arith

pub next-le : (i : Inst) (side v : ℕ) → next i side v ≤ side
next-le i side v = omega arith

normal_from-above : (i : Inst) (k v : ℕ) → v ≤ normal_from i k v
normal_from-above i zero v = omega arith
normal_from-above i (suc k) v =
    let later : v + 1 ≤ normal_from i k (v + 1) = normal_from-above i k (v + 1) in
    at_least (is_sum i v v) v (normal_from i k (v + 1)) (omega arith)
  where
    at_least : (b : Bool) (x y : ℕ) → x ≤ y → x ≤ (if b then x else y)
    at_least true x y le = omega arith
    at_least false x y le = le

pub next-above : (i : Inst) (side v : ℕ) → v < side → v < next i side v
next-above i side v lt =
    let le : v + 1 ≤ normal_from i (side - v) (v + 1) = normal_from-above i (side - v) (v + 1) in
    omega arith

pub next-from : (i : Inst) (side v : ℕ) → v ≤ side → v ≤ next i side v
next-from i side v le =
    let more : v + 1 ≤ normal_from i (side - v) (v + 1) = normal_from-above i (side - v) (v + 1) in
    omega arith

-- the search ends at a sum, or behind its last number
normal_from-found : (i : Inst) (k v : ℕ) → IsSum i (normal_from i k v) ⊎ (normal_from i k v ≡ v + k)
normal_from-found i zero v = inr (omega arith)
normal_from-found i (suc k) v =
    choose (is_sum i v v) v (normal_from i k (v + 1)) (v + suc k) (λ e. is_sum-sound i v v e)
    (elim (normal_from-found i k (v + 1)) [ inl s ↦ inl s | inr e ↦ inr (omega arith) ])
  where
    choose : (b : Bool) (x y last : ℕ) → (b ≡ true → IsSum i x) → IsSum i y ⊎ (y ≡ last) → IsSum i (if b then x else y) ⊎ ((if b then x else y) ≡ last)
    choose true x y last p q = inl (p refl)
    choose false x y last p q = q

-- the number is the next normal place, or the side
pub next_is_normal : NextIsNormal
next_is_normal i side v le =
    elim (cases_lt side (normal_from i (side - v) (v + 1))) [
      | inl past ↦ inr (
        (λ other normal.
            elim (cases_lt v other) [
              | inl above ↦
                  let most : normal_from i (side - v) (v + 1) ≤ other =
                  normal_from-least i (side - v) (v + 1) other (sum_of i side other normal) (omega arith) in
                  let within : other ≤ side = normal.within in
                  absurd (omega arith)
              | inr below ↦ below
            ]),
        omega arith,
      )
      | inr within ↦
          let here : next i side v ≡ normal_from i (side - v) (v + 1) = omega arith in
          let up : v + 1 ≤ normal_from i (side - v) (v + 1) = normal_from-above i (side - v) (v + 1) in
          elim (normal_from-found i (side - v) (v + 1)) [
            | inl sum ↦ inl (record {
              normal = record { i = sum.0; j = sum.1; sum = here ∙ sym sum.2; within = omega arith };
              above = omega arith;
              least = λ other normal above. next-least i side v other normal above;
            })
            | inr none ↦ absurd (omega arith)
          ]
    ]

-- a place has one next normal place
next-one : (side long short place a b : ℕ) → IsNext side long short place a → IsNext side long short place b → a ≡ b
next-one side long short place a b (inl p) (inl q) =
    let x : a ≤ b = p.least b q.normal q.above in
    let y : b ≤ a = q.least a p.normal p.above in
    omega arith
next-one side long short place a b (inl p) (inr q) =
    let none : a ≤ place = q.0 a p.normal in
    let above : place < a = p.above in
    absurd (omega arith)
next-one side long short place a b (inr p) (inl q) =
    let none : b ≤ place = p.0 b q.normal in
    let above : place < b = q.above in
    absurd (omega arith)
next-one side long short place a b (inr p) (inr q) = p.1 ∙ sym q.1

pub next-is : (i : Inst) (side place n : ℕ) → place ≤ side → IsNext side i.long i.short place n → n ≡ next i side place
next-is i side place n le h = next-one side i.long i.short place n (next i side place) h (next_is_normal i side place le)
