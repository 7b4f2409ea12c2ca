use Rattle.std.proofs.Common.{◌≡◌, ℕ, ◌<◌, length, get_or}
use Rattle.cert_rules.specs.Next.{next}
use Rattle.cert_rules.proofs.next_places.NextPlaces.of.Given as goal

abbrev pub invariant-loop-place : goal.invariant-loop-place
invariant-loop-place l = record {
  count : length l.places.items ≡ l.place;
  each : (k : ℕ) → k < length l.places.items → get_or l.places.items k 0 ≡ next l.inst l.side k;
}
