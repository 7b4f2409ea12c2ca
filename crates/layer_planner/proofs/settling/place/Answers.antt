use Rattle.std.proofs.Common.{length, arith}
use Rattle.layer_planner.proofs.SideLemmas.{bounds-reduced}
use Rattle.layer_planner.proofs.KnownLemmas.{patterns-of, patterns-more}
use Rattle.layer_planner.proofs.settling.place.Goals as goal

pub layer_by_blocks-requires-clause-most : goal.layer_by_blocks-requires-clause-most
layer_by_blocks-requires-clause-most c = bounds-reduced c.args.given c.args.reduced c.args.known c.requires.known

pub layer_by_regions-requires-clause-most : goal.layer_by_regions-requires-clause-most
layer_by_regions-requires-clause-most c = bounds-reduced c.args.given c.args.reduced c.in_ok-first.first.known c.in_ok-first.ensures.found.known

pub returns : goal.returns
returns c =
    let blocks = c.in_ok-layer.ensures in
    let regions = c.in_ok-layer-2.ensures in
    let first = c.in_ok-first.ensures in
    let last = c.in_ok-last.ensures in
    let dual = c.in_ok-known.ensures in
    let here = length c.in_ok-last.last.layer.spots in
    record {
      inst = last.found.inst;
      layer = last.found.layer;
      known = dual.known;
      less = omega (arith, first.better.less, last.better.less, dual.less);
      dual = dual.dual;
      patterns = patterns-more c.args.reduced (length c.in_ok-layer-2.layer.spots) here last.better.grown
          (patterns-of c.args.reduced (length c.in_ok-layer.layer.spots) (length c.in_ok-layer-2.layer.spots) (omega (arith, first.better.grown, regions.grown)) blocks.blocks regions.ell);
    }
