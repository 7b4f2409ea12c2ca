use Rattle.std.proofs.Common.{◌≡◌, ℕ, ◌<◌, get_or}
use Rattle.plan_geometry.specs.Placed.{Placed}
use Rattle.layer_symmetry.specs.declared.symmetries.Move.{Move}
use Rattle.stack_builder.proofs.forms.same_lists.Given as goal

abbrev pub invariant-loop-k : goal.invariant-loop-k
invariant-loop-k l = (i : ℕ) (d : Move × Placed) → i < l.k → get_or l.a i d ≡ get_or l.b i d
