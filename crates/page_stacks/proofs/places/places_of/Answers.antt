use Rattle.page_stacks.proofs.PlaceSteps.{places_more}
use Rattle.page_stacks.proofs.places.places_of.Goals as goal

pub loop-place-preserved : goal.loop-place-preserved
loop-place-preserved c = places_more c.args.asked c.loop-place.places.items c.add_place.new.places.items c.loop-place.place c.args.numbers.now 0 c.loop-place-test.true c.loop-place.invariant c.in_ok-add_place.ensures
