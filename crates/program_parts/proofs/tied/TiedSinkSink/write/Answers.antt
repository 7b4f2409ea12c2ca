use Rattle.std.proofs.Math.Logic.{∥∥₁_map}
use Rattle.plan_io.specs.StdStreams.{sink_past}
use Rattle.program_parts.proofs.Ties.{has_write}
use Rattle.program_parts.proofs.tied.TiedSinkSink.write.Goals as goal

pub invariant_of-self : goal.invariant_of-self
invariant_of-self g c = record { fed = ∥∥₁_map c.args.self.now.fed (λ fed. has_write _ _ _ (sink_past c.args.self.now.sink) _ _ _ fed c.write.ensures.told c.write.ensures.past) }
