use Rattle.contact_rules.proofs.SweepSteps.{near-read, behind-read}
use Rattle.contact_rules.proofs.shares.near_places.Goals as goal

pub returns : goal.returns
returns c =
    let I = c.inst-inst.result in
    let K = c.args.lower.now.inst in
    let read = c.spots-spots.result.now in
    let xs = c.args.lower.now.spots in
    record {
      first = near-read I K c.args.gap c.args.upper.y c.first_near.result read xs c.inst-inst.ensures.value c.spots-spots.ensures.value c.first_near.ensures;
      last = behind-read I K c.args.gap c.args.upper c.real_finish_along-end.result c.first_behind.result read xs c.inst-inst.ensures.value c.spots-spots.ensures.value c.real_finish_along-end.ensures.value c.first_behind.ensures;
    }
