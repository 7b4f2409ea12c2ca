use Rattle.std.proofs.Math.Logic.{∥∥₁_map}
use Rattle.program_parts.proofs.Ties.{fed_read}
use Rattle.program_parts.proofs.tied.TiedSourceSource.read.Goals as goal

pub invariant_of-self : goal.invariant_of-self
invariant_of-self g c = record { fed = ∥∥₁_map c.args.self.now.fed (λ fed. fed_read _ _ _ _ _ _ _ fed c.read.ensures.told c.read.ensures.past) }
