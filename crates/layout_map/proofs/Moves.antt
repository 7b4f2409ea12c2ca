use Rattle.std.proofs.Common.{◌≡◌, ℕ, ◌+◌, ◌<◌, inl, inr, List, [], ◌∷◌, ◌++◌, length, get_or, sym, ap, ◌∙◌, subst, arith, Result, Ok, Err}
use Rattle.std.specs.Prelude.{IfOk}
use Rattle.std.proofs.Math.Seq.{get_or-append_seam}
use Rattle.std.proofs.lemmas.Bool.{cases_lt}
use Rattle.std.proofs.lemmas.List.{get_or_default, get_or_append_left}
use Rattle.std.proofs.lemmas.List.Sorted.{length_permutation, All-permutation}
use Rattle.plan_geometry.specs.Placed.{Placed}
use Rattle.plan_geometry.specs.declared.spots.Spot.{Spot}
use Rattle.plan_geometry.specs.declared.instances.Inst.{Inst}
use Rattle.plan_geometry.specs.Layout.{IsLayout}
use Rattle.layout_map.specs.Chains.{IsMoved, IsMapped}
use Rattle.partitions.specs.Partitions.{IsNormalSpot, AreNormal}
use Rattle.layout_map.proofs.ChainMap.{normal_law}
use Rattle.layout_map.proofs.GreatestChains.{corner}

-- one more case of the map
pub moved_more : (from to : Inst) (spots new : List Spot) (moved : Spot) (n : ℕ)
    → length new ≡ n → n < length spots
    → ((k : ℕ) → k < n → (d e : Spot) → IsMoved from to spots (get_or spots k d) (get_or new k e))
    → IsMoved from to spots (get_or spots n corner) moved
    → (k : ℕ) → k < n + 1 → (d e : Spot) → IsMoved from to spots (get_or spots k d) (get_or (new ++ moved ∷ []) k e)
moved_more from to spots new moved n len at each last k h d e = elim (cases_lt k n) [
  | inl lt ↦ subst (IsMoved from to spots (get_or spots k d))
      (sym (get_or_append_left new (moved ∷ []) e k (omega arith))) (each k lt d e)
  | inr ge ↦
      let same : k ≡ length new = omega arith in
      let r : get_or (new ++ moved ∷ []) k e ≡ moved = ap (λ i. get_or (new ++ moved ∷ []) i e) same ∙ get_or-append_seam new moved [] e in
      let is : k ≡ n = omega arith in
      let s : get_or spots n corner ≡ get_or spots k d = get_or_default spots n corner d at ∙ ap (λ i. get_or spots i d) (sym is) in
      subst (IsMoved from to spots (get_or spots k d)) (sym r) (subst (λ (t : Spot). IsMoved from to spots t moved) s last)
]

-- the map keeps the count, in any order
pub mapped_count : (from to : Inst) (spots new : List Spot) → IsMapped from spots to new → length new ≡ length spots
mapped_count from to spots new m = length_permutation m.image new m.reordered ∙ m.mapped.count

-- the map onto the same instance has normal places, in any order
pub normal_mapped : (inst : Inst) (spots new : List Spot) → IsLayout inst spots → IsMapped inst spots inst new → AreNormal inst new
normal_mapped inst spots new layout m =
    All-permutation (IsNormalSpot inst) m.image new m.reordered (normal_law inst spots m.image layout m.mapped)

pub normal_result : {E : Type 0} (inst : Inst) (spots : List Spot) (r : Result Placed E) → IsLayout inst spots
    → IfOk r (λ m. IsMapped inst spots inst m.spots) → IfOk r (λ m. AreNormal inst m.spots)
normal_result inst spots (Ok m) layout h = normal_mapped inst spots m.spots layout h
normal_result inst spots (Err e) layout h = h
