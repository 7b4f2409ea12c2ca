use Rattle.std.proofs.Common.{◌≡◌, false, true}
use Rattle.layout_map.specs.Chains.{IsChainMap}
use Rattle.layout_map.proofs.ChainMap.{chain_map_law}
use Rattle.layout_map.proofs.Moves.{mapped_count}
use Rattle.layout_map.proofs.map.map_layer.Goals as goal

pub unreachable-requires : goal.unreachable-requires
unreachable-requires c =
    let view = c.args.layer.now in
    let new = c.in_ok-new.new.items in
    let m : IsChainMap view.inst view.spots c.args.to new = rw (← c.inst.ensures.value, ← c.spots.ensures.value) c.in_ok-new.ensures in
    let some : false ≡ true = c.in-None.ensures.accepted.1 (chain_map_law view.inst c.args.to view.spots new c.requires c.spots.ensures.layer.layout m) in
    cc

pub returns-clause-count : goal.returns-clause-count
returns-clause-count c =
    let view = c.args.layer.now in
    let new = c.in_ok-new.new.items in
    let m : IsChainMap view.inst view.spots c.args.to new = rw (← c.inst.ensures.value, ← c.spots.ensures.value) c.in_ok-new.ensures in
    mapped_count view.inst c.args.to view.spots c.in-Some.layer.spots (record { image = new; mapped = m; reordered = c.in-Some.ensures.same })
