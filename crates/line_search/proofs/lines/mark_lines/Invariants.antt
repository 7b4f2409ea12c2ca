use Rattle.std.proofs.Common.{◌≡◌, ℕ, ◌⊎◌, ◌↔◌, length}
use Rattle.plan_geometry.specs.Layout.{side}
use Rattle.line_search.specs.Starts.{IsMarked, IsLineOfSome}
use Rattle.line_search.proofs.lines.mark_lines.Given as goal

abbrev pub invariant-loop-place : goal.invariant-loop-place
invariant-loop-place l = record {
  count : length l.marks ≡ side l.starts.axis l.starts.inst;
  marks : (v : ℕ) → IsMarked l.marks v
      ↔ (IsMarked l.initial.marks v ⊎ IsLineOfSome l.starts.axis l.starts.inst l.places l.place-index v);
}
