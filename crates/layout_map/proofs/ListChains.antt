use Rattle.std.proofs.Common.{◌≡◌, ℕ, ◌+◌, List, [], ◌∷◌, refl, sym, subst, arith}
use Rattle.std.proofs.lemmas.List.Sums.{sum_by-cons}
use Rattle.plan_geometry.specs.declared.spots.Axis.{Axis}
use Rattle.plan_geometry.specs.declared.spots.Spot.{Spot}
use Rattle.plan_geometry.specs.declared.instances.Inst.{Inst}
use Rattle.plan_geometry.specs.Layout.{extent, start}
use Rattle.layout_map.specs.Chains.{Chain, empty, link, IsChain, chain_total, ListedChain}
use Rattle.layout_map.specs.Laws.{ChainsAreLists}

pub listed : (a : Axis) (from to : Inst) (spots : List Spot) (edge total : ℕ)
    → Chain a from to spots edge total → ListedChain a from to spots edge total
listed a from to spots edge total (empty e) = record { chain = []; is_chain = tt; total_is = refl }
listed a from to spots edge total (link e t last m c h) =
    let before = listed a from to spots (start a last) t c in
    let sum = before.total_is in
    record {
      chain = last ∷ before.chain;
      is_chain = (m, h, before.is_chain);
      total_is = omega (arith, sum, sum_by-cons (λ (spot : Spot). extent a to spot.way) last before.chain);
    }

pub unlisted : (a : Axis) (from to : Inst) (spots : List Spot) (edge : ℕ) (chain : List Spot)
    → IsChain a from spots edge chain → Chain a from to spots edge (chain_total a to chain)
unlisted a from to spots edge [] c = empty edge
unlisted a from to spots edge (last ∷ before) (m, h, c) =
    let e : chain_total a to before + extent a to last.way ≡ chain_total a to (last ∷ before) = omega (arith, sum_by-cons (λ (spot : Spot). extent a to spot.way) last before) in
    subst (Chain a from to spots edge) e
    (link edge (chain_total a to before) last m (unlisted a from to spots (start a last) before c) h)

pub chain_is_listed : ChainsAreLists
chain_is_listed a from to spots edge total = (
  λ c. listed a from to spots edge total c,
  λ l. subst (Chain a from to spots edge) (sym l.total_is) (unlisted a from to spots edge l.chain l.is_chain),
)
