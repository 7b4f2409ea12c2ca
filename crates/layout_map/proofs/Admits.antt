use Rattle.std.proofs.Common.{◌≡◌, ℕ, List, length, ◌∙◌, arith}
use Rattle.plan_geometry.specs.declared.spots.Spot.{Spot}
use Rattle.plan_geometry.specs.declared.instances.Inst.{Inst}
use Rattle.plan_geometry.specs.Layout.{IsLayout, Admits, IsBounded}
use Rattle.partitions.specs.Partitions.{SameSides}
use Rattle.partitions.proofs.SameSides.{same_sides_symmetric, same_sides_reflexive}
use Rattle.layout_map.specs.Laws.{SameSidesAdmitAlike, SameSidesBoundAlike, LayoutsHaveNormalForm}
use Rattle.layout_map.proofs.ChainMap.{chain_map_law, normal_law}
use Rattle.layout_map.proofs.GreatestChains.{chain_map_exists}

pub mapped : (a b : Inst) (spots : List Spot) → SameSides a b → IsLayout a spots
    → (new : List Spot) × (length new ≡ length spots) × IsLayout b new
mapped a b spots same layout =
    let m = chain_map_exists a b spots in
    (m.0, m.1.count, chain_map_law a b spots m.0 same layout m.1)

admits_on : (a b : Inst) (n : ℕ) → SameSides a b → Admits a n → Admits b n
admits_on a b n same h =
    let m = mapped a b h.spots same h.layout in record { spots = m.0; layout = m.2; count = m.1 ∙ h.count }

bounded_on : (a b : Inst) (n : ℕ) → SameSides b a → IsBounded a n → IsBounded b n
bounded_on a b n same h = λ spots layout.
    let m = mapped b a spots same layout in
    let e = m.1 in let l = h m.0 m.2 in omega (arith, e, l)

pub admits_law : SameSidesAdmitAlike
admits_law a b n same = (admits_on a b n same, admits_on b a n (same_sides_symmetric a b same))

pub bounded_law : SameSidesBoundAlike
bounded_law a b n same = (bounded_on a b n (same_sides_symmetric a b same), bounded_on b a n same)

pub normal_form_law : LayoutsHaveNormalForm
normal_form_law inst spots layout =
    let m = chain_map_exists inst inst spots in
    (m.0, m.1.count, chain_map_law inst inst spots m.0 (same_sides_reflexive inst) layout m.1, normal_law inst spots m.0 layout m.1)
