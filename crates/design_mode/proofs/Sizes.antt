-- Each size and its entry.
use Rattle.std.proofs.Common.{◌≡◌, ◌∙◌, ◌⊎◌, ℕ, zero, suc, ◌+◌, ◌≤◌, ◌<◌, List, [], ◌∷◌, map, Option, Some, None, slice_get, arith, ap, refl, sym, subst, inl, inr}
use Rattle.std.specs.Prelude.{Bool, true, false, Contains, All, if◌then◌else◌}
use Rattle.std.specs.List.{enumerate_from}
use Rattle.std.proofs.lemmas.List.Elements.{All-head, All-tail}
use Rattle.std.proofs.lemmas.Bool.Decides.{nat_tests}
use Rattle.std.proofs.lemmas.Option.{same_Some}
use Rattle.plan_geometry.specs.declared.instances.Inst.{Inst}
use Rattle.plan_geometry.specs.declared.spots.Spot.{Spot}
use Rattle.plan_geometry.specs.declared.spots.Way.{Way}
use Rattle.plan_geometry.specs.declared.spots.Way.TheVariants.{Lying, Standing}
use Rattle.plan_geometry.specs.Layout.{IsInside}
use Rattle.order_reader.specs.Records.{Fields}
use Rattle.order_reader.specs.Orders.{OrderValue, pallet_x_of, pallet_y_of, long_of, short_of, gap_of}
use Rattle.order_reader.specs.Faults.{id_in, first_of, fits, is_small, fit_fault, case_count_fault, sides_fault}
use Rattle.order_reader.specs.Instances.{IsRealOf, IsLayerFor}
use Rattle.order_reader.specs.declared.rows.Row.{Row}
use Rattle.order_reader.specs.declared.faults.RowFault.TheVariants.{DoesNotFit, TooManyCases}
use Rattle.plan_entries.specs.declared.entries.Entry.{Entry}
use Rattle.plan_mode.specs.Entries.{IsEntryOf, AreEntriesFrom}
use Rattle.case_design.specs.declared.briefs.Brief.{Brief}
use Rattle.case_design.specs.declared.sizes.Size.{Size}
use Rattle.case_design.specs.Briefs.{IsBriefOf}
use Rattle.case_design.specs.Sizes.{IsSize, size_row}
use Rattle.case_design.specs.Laws.{size_order, row_with_fault}
use Rattle.case_design.proofs.SizeOrders.{size_rows_of_sides}
use Rattle.design_mode.specs.Laws.{HasOnlyEmptyLayer}
use Rattle.design_mode.proofs.EntryCovers.{further}

-- the rows of sizes, of which the first has this number
abbrev pub rows_from : List ℕ → Brief → ℕ → List Size → List Row
rows_from id brief n sizes = map (λ (p : ℕ × Size). size_row id brief p.0 p.1) (enumerate_from n sizes)

-- a size has its entry
pub entry-of : (id : List ℕ) (brief : Brief) (n : ℕ) (sizes : List Size) (es : List Entry) (k : ℕ) (size : Size) → AreEntriesFrom n (rows_from id brief n sizes) es → slice_get sizes k ≡ Some size → (e : Entry) × Contains es e × IsEntryOf (n + k) (size_row id brief (n + k) size) e
entry-of id brief n [] es k size are at = cc
entry-of id brief n (s ∷ sizes) [] k size are at = absurd are
entry-of id brief n (s ∷ sizes) (e ∷ es) zero size are at =
    let same : s ≡ size = same_Some s size at in
    let first : IsEntryOf n (size_row id brief n size) e = subst (λ (x : Size). IsEntryOf n (size_row id brief n x) e) same are.0 in
    let here : n ≡ n + 0 = omega arith in
    (e, (0, omega arith, refl), subst (λ (m : ℕ). IsEntryOf m (size_row id brief m size) e) here first)
entry-of id brief n (s ∷ sizes) (e ∷ es) (suc k) size are at =
    let (x, has, of_size) = entry-of id brief (n + 1) sizes es k size are.1 at in
    let there : n + 1 + k ≡ n + suc k = omega arith in
    (x, further e x es has, subst (λ (m : ℕ). IsEntryOf m (size_row id brief m size) x) there of_size)

-- and an entry is that of a size
pub size-of : (id : List ℕ) (brief : Brief) (n : ℕ) (sizes : List Size) (es : List Entry) (x : Entry) → AreEntriesFrom n (rows_from id brief n sizes) es → Contains es x → (k : ℕ) × (size : Size) × (slice_get sizes k ≡ Some size) × IsEntryOf (n + k) (size_row id brief (n + k) size) x
size-of id brief n sizes [] x are (k, lt, at) = absurd (omega (arith, lt))
size-of id brief n [] (e ∷ es) x are has = absurd are
size-of id brief n (s ∷ sizes) (e ∷ es) x are (zero, lt, at) =
    let first : IsEntryOf n (size_row id brief n s) x = subst (λ (y : Entry). IsEntryOf n (size_row id brief n s) y) at are.0 in
    let here : n ≡ n + 0 = omega arith in
    (0, s, refl, subst (λ (m : ℕ). IsEntryOf m (size_row id brief m s) x) here first)
size-of id brief n (s ∷ sizes) (e ∷ es) x are (suc k, lt, at) =
    let (j, size, stands, of_size) = size-of id brief (n + 1) sizes es x are.1 (k, omega (arith, lt), at) in
    let there : n + 1 + j ≡ n + suc j = omega arith in
    (suc j, size, stands, subst (λ (m : ℕ). IsEntryOf m (size_row id brief m size) x) there of_size)

-- each size of the list is one of the brief's
pub is-size : (brief : Brief) (sizes : List Size) (k : ℕ) (size : Size) → All (IsSize brief) sizes → slice_get sizes k ≡ Some size → IsSize brief size
is-size brief [] k size each at = cc
is-size brief (s ∷ sizes) zero size each at = subst (IsSize brief) (same_Some s size at) (All-head (IsSize brief) s sizes each)
is-size brief (s ∷ sizes) (suc k) size each at = is-size brief sizes k size (All-tail (IsSize brief) s sizes each) at

-- a size's row, by the tests of its sides
pub row-is : (row : Fields) (id : List ℕ) (brief : Brief) (number : ℕ) (size : Size) → id ≡ id_in row → IsBriefOf row brief → IsSize brief size → size_row id brief number size ≡ row_with_fault number (size_order id brief size) (sides_fault (size_order id brief size))
row-is row id brief number size same is_brief is_size =
    subst
    (λ (i : List ℕ). size_row i brief number size ≡ row_with_fault number (size_order i brief size) (sides_fault (size_order i brief size)))
    (sym same)
    (size_rows_of_sides row brief size number is_brief is_size)

-- ---- the tests of the sides

-- what they find: nothing, a case that does not fit, or too many cases
pub record DoesNotFitOn (o : OrderValue) : Type 0 where
  pub fault : sides_fault o ≡ Some DoesNotFit
  pub unfit : fits (pallet_x_of o) (pallet_y_of o) (long_of o) (short_of o) ≡ false

by-small : (o : OrderValue) (b : Bool) → fits (pallet_x_of o) (pallet_y_of o) (long_of o) (short_of o) ≡ true
    → is_small (pallet_x_of o + gap_of o) (pallet_y_of o + gap_of o) (long_of o + gap_of o) (short_of o + gap_of o) ≡ b
    → (sides_fault o ≡ None) ⊎ (DoesNotFitOn o ⊎ (sides_fault o ≡ Some TooManyCases))
by-small o true fit small =
    inl (
    ap (λ (x : Bool). first_of ((if x then None else Some DoesNotFit) ∷ case_count_fault o ∷ [])) fit
    ∙ ap (λ (x : Bool). first_of ((if x then None else Some TooManyCases) ∷ [])) small)
by-small o false fit small =
    inr (inr (
    ap (λ (x : Bool). first_of ((if x then None else Some DoesNotFit) ∷ case_count_fault o ∷ [])) fit
    ∙ ap (λ (x : Bool). first_of ((if x then None else Some TooManyCases) ∷ [])) small))

by-fit : (o : OrderValue) (b : Bool) → fits (pallet_x_of o) (pallet_y_of o) (long_of o) (short_of o) ≡ b → (sides_fault o ≡ None) ⊎ (DoesNotFitOn o ⊎ (sides_fault o ≡ Some TooManyCases))
by-fit o true fit = by-small o (is_small (pallet_x_of o + gap_of o) (pallet_y_of o + gap_of o) (long_of o + gap_of o) (short_of o + gap_of o)) fit refl
by-fit o false fit =
    inr (inl (record { fault = ap (λ (x : Bool). first_of ((if x then None else Some DoesNotFit) ∷ case_count_fault o ∷ [])) fit; unfit = fit }))

pub by-sides : (o : OrderValue) → (sides_fault o ≡ None) ⊎ (DoesNotFitOn o ⊎ (sides_fault o ≡ Some TooManyCases))
by-sides o = by-fit o (fits (pallet_x_of o) (pallet_y_of o) (long_of o) (short_of o)) refl

-- ---- no case lies on a pallet on which none fits

fits-lying : (x y l s : ℕ) → l ≤ x → s ≤ y → fits x y l s ≡ true
unfolding fits
fits-lying x y l s le_x le_y = grind (arith, nat_tests)

fits-standing : (x y l s : ℕ) → s ≤ x → l ≤ y → fits x y l s ≡ true
unfolding fits
fits-standing x y l s le_x le_y = grind (arith, nat_tests)

fitting : (o : OrderValue) (R : Inst) (x y : ℕ) (way : Way) → IsRealOf o R → IsInside R (record { x = x; y = y; way = way }) → fits (pallet_x_of o) (pallet_y_of o) (long_of o) (short_of o) ≡ true
fitting o R x y Lying real inside = fits-lying (pallet_x_of o) (pallet_y_of o) (long_of o) (short_of o) (omega (arith, inside.in_x, real.l_side, real.long)) (omega (arith, inside.in_y, real.w_side, real.short))
fitting o R x y Standing real inside = fits-standing (pallet_x_of o) (pallet_y_of o) (long_of o) (short_of o) (omega (arith, inside.in_x, real.l_side, real.short)) (omega (arith, inside.in_y, real.w_side, real.long))

pub only-empty : (o : OrderValue) → DoesNotFitOn o → HasOnlyEmptyLayer o
only-empty o unfit [] layer = refl
only-empty o unfit (s ∷ spots) layer =
    let inside = All-head (IsInside layer.real) s spots layer.layout.inside in
    let fit = fitting o layer.real s.x s.y s.way layer.is_real inside in
    absurd cc
