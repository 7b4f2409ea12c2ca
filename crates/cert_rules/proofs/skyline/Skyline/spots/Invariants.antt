use Rattle.std.proofs.Common.{◌≡◌}
use Rattle.cert_rules.specs.Corner.{state_of}
use Rattle.cert_rules.specs.Frames.{steps_of}
use Rattle.cert_rules.proofs.Paths.{front}
use Rattle.cert_rules.proofs.skyline.Skyline.spots.Given as goal

abbrev pub invariant-loop-frame : goal.invariant-loop-frame
invariant-loop-frame l =
    l.spots.items ≡ (state_of l.self.inst (steps_of (front l.frame-items l.frame-index))).spots
