-- The place of a case can be read from its rectangle.
use Rattle.std.proofs.Common.{◌≡◌, ℕ, ◌+◌, ◌-◌, ◌*◌, ◌<◌, ◌≤◌, ◌^◌, true, List, [], ◌∷◌, ◌++◌, get_or, refl, sym, ap, ◌∙◌, arith, rules}
use Rattle.std.specs.Prelude.{codes, decimal, if◌then◌else◌}
use Rattle.std.specs.Char.{is_ascii_digit}
use Rattle.std.specs.List.{list_all}
use Rattle.std.proofs.lemmas.Bool.{and_parts}
use Rattle.std.proofs.lemmas.List.{append_cancel_left}
use Rattle.std.proofs.lemmas.Fmt.{digits_decimal, decimal_injective}
use Rattle.std.proofs.lemmas.Str.Parse.{IsNumeralModel, numerals_by_value}
use Rattle.std.specs.Str.Parse.{digits_value}
use Rattle.plan_geometry.specs.declared.spots.Way.{Way}
use Rattle.plan_geometry.specs.declared.spots.Way.TheVariants.{Lying, Standing}
use Rattle.plan_geometry.specs.declared.spots.Spot.{Spot}
use Rattle.page_figures.specs.declared.sides.Sides.{Sides}
use Rattle.page_figures.specs.Sides.{across, along, way_text}
use Rattle.page_figures.specs.Forms.{box_text, rect_text, upper_edge}
use Rattle.page_figures.specs.Laws.{RectanglesTellCases}

own : IsNumeralModel (λ ds. list_all is_ascii_digit ds ≡ true) (digits_value 10)
own = numerals_by_value _ (search rules)

-- the digits that stand in front of a text
abbrev front_of : List ℕ → List ℕ
front_of [] = []
front_of (b ∷ bs) = if is_ascii_digit b then b ∷ front_of bs else []

front_digits : (ds more : List ℕ) → list_all is_ascii_digit ds ≡ true → front_of (ds ++ 34 ∷ more) ≡ ds
front_digits [] more all = refl
front_digits (d ∷ ds) more all =
    let both = and_parts (is_ascii_digit d) (list_all is_ascii_digit ds) all in
    rw both.0 (ap (λ (t : List ℕ). d ∷ t) (front_digits ds more both.1))

digits_of_number : (n : ℕ) (more : List ℕ) → n < 2 ^ 64 → front_of (decimal n ++ 34 ∷ more) ≡ decimal n
digits_of_number n more h = front_digits (decimal n) more (digits_decimal own n h)

-- a number in front of a quotation mark, and what stands behind it
record Parted (m n : ℕ) (more rest : List ℕ) : Type 0 where
  pub number : m ≡ n
  pub behind : 34 ∷ more ≡ 34 ∷ rest

parted : (m n : ℕ) (more rest : List ℕ) → m < 2 ^ 64 → n < 2 ^ 64 → decimal m ++ 34 ∷ more ≡ decimal n ++ 34 ∷ rest → Parted m n more rest
parted m n more rest hm hn e =
    let same : decimal m ≡ decimal n = sym (digits_of_number m more hm) ∙ ap front_of e ∙ digits_of_number n rest hn in
    record {
      number = decimal_injective m n hm hn same;
      behind = append_cancel_left (decimal m) (34 ∷ more) (34 ∷ rest) (e ∙ ap (λ (t : List ℕ). t ++ 34 ∷ rest) (sym same));
    }

same_spot : (a b : Spot) → a.x ≡ b.x → a.y ≡ b.y → a.way ≡ b.way → a ≡ b
same_spot a b x y way =
    ap (λ (n : ℕ). record { x = n; y = a.y; way = a.way }) x
    ∙ ap (λ (n : ℕ). record { x = b.x; y = n; way = a.way }) y
    ∙ ap (λ (w : Way). record { x = b.x; y = b.y; way = w }) way

-- what stands behind the class, from the place along x on
abbrev place_text : ℕ → ℕ → List ℕ → List ℕ
place_text x y more = decimal (2 * x) ++ 34 ∷ (codes " y=\"" ++ (decimal (2 * y) ++ 34 ∷ more))

places : (x y u v : ℕ) (more rest : List ℕ) → x < 2 ^ 32 → u < 2 ^ 32 → y < 2 ^ 32 → v < 2 ^ 32 → place_text x y more ≡ place_text u v rest → (x ≡ u) × (y ≡ v)
places x y u v more rest hx hu hy hv e =
    let first = parted (2 * x) (2 * u) (codes " y=\"" ++ (decimal (2 * y) ++ 34 ∷ more)) (codes " y=\"" ++ (decimal (2 * v) ++ 34 ∷ rest)) (omega (arith, hx)) (omega (arith, hu)) e in
    let second = parted (2 * y) (2 * v) more rest (omega (arith, hy)) (omega (arith, hv)) (append_cancel_left (codes "\" y=\"") (decimal (2 * y) ++ 34 ∷ more) (decimal (2 * v) ++ 34 ∷ rest) first.behind) in
    (omega (arith, first.number), omega (arith, second.number))

-- the edge from which a case's upper end can be read
abbrev edge : Sides → ℕ → Way → ℕ
edge s y way = s.pallet_y - (y + along s way)

abbrev case_box : Sides → ℕ → ℕ → ℕ → Way → List ℕ
case_box s number x y way = box_text number (way_text way) x (edge s y way) (across s way) (along s way)

box_tells : (s : Sides) (number x y u v : ℕ) (way other : Way) → s.pallet_x < 2 ^ 32 → s.pallet_y < 2 ^ 32
    → x + across s way ≤ s.pallet_x → y + along s way ≤ s.pallet_y → u + across s other ≤ s.pallet_x → v + along s other ≤ s.pallet_y
    → case_box s number x y way ≡ case_box s number u v other → (x ≡ u) × ((y ≡ v) × (way ≡ other))
box_tells s number x y u v Lying Lying hx hy ax ay bx by e =
    let p = places x (edge s y Lying) u (edge s v Lying) _ _ (omega arith) (omega arith) (omega arith) (omega arith) (append_cancel_left (codes "<rect class=\"lying\" x=\"") _ _ e) in
    (p.0, (omega (arith, p.1), refl))
box_tells s number x y u v Standing Standing hx hy ax ay bx by e =
    let p = places x (edge s y Standing) u (edge s v Standing) _ _ (omega arith) (omega arith) (omega arith) (omega arith) (append_cancel_left (codes "<rect class=\"standing\" x=\"") _ _ e) in
    (p.0, (omega (arith, p.1), refl))
box_tells s number x y u v Lying Standing hx hy ax ay bx by e =
    let differ : 108 ≡ 115 = ap (λ (t : List ℕ). get_or t 13 0) e in
    absurd (omega (arith, differ))
box_tells s number x y u v Standing Lying hx hy ax ay bx by e =
    let differ : 115 ≡ 108 = ap (λ (t : List ℕ). get_or t 13 0) e in
    absurd (omega (arith, differ))

pub tells : RectanglesTellCases
unfolding rect_text upper_edge
tells s number a b hx hy on_a on_b e =
    let p = box_tells s number a.x a.y b.x b.y a.way b.way hx hy on_a.0 on_a.1 on_b.0 on_b.1 e in
    same_spot a b p.0 p.1.0 p.1.1
