use Rattle.std.proofs.Common.{◌≡◌, take}
use Rattle.page_stacks.specs.Places.{places_of}
use Rattle.page_stacks.proofs.places.places_of.Given as goal

abbrev pub invariant-loop-place : goal.invariant-loop-place
invariant-loop-place l = l.places.items ≡ places_of l.asked (take l.place l.numbers)
