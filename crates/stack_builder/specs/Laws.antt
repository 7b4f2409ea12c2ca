-- The laws on stacks that other parts rest on.
use Rattle.std.specs.Prelude.{ℕ, ◌≤◌, ◌↔◌, List, length}
use Rattle.plan_geometry.specs.declared.spots.Spot.{Spot}
use Rattle.plan_geometry.specs.declared.instances.Inst.{Inst}
use Rattle.plan_geometry.specs.Layout.{IsLayout}
use Rattle.plan_geometry.specs.Placed.{Placed, IsLayer}
use Rattle.layer_symmetry.specs.declared.symmetries.Move.{Move}
use Rattle.layer_symmetry.specs.Moves.{IsLawfulMove, IsImage}
use Rattle.layer_symmetry.specs.Variants.{IsVariants}
use Rattle.contact_rules.specs.declared.rules.Rule.{Rule}
use Rattle.contact_rules.specs.Real.{IsGapOf}
use Rattle.contact_rules.specs.Rules.{Meets}
use Rattle.stack_builder.specs.Stack.{HasStack}
use Rattle.stack_builder.specs.Pairs.{GoTogether, Interlocks}

-- two layouts meet a rule exactly where their images under one lawful move meet it
abbrev pub MovesKeepRules : Type 0
MovesKeepRules =
    (I : Inst) (gap : ℕ) (m : Move) (rule : Rule) (lower upper lower_image upper_image : List Spot) → IsGapOf I gap → IsLawfulMove I m → IsLayout I lower → IsLayout I upper → IsImage I m lower lower_image → IsImage I m upper upper_image → Meets I gap rule lower upper ↔ Meets I gap rule lower_image upper_image

-- two or more layers of a layer's variants can be stacked exactly where the first variant and one of
-- them, maybe the first itself, go together
abbrev pub StacksAreKnownByFirstPairs : Type 0
StacksAreKnownByFirstPairs =
    (I : Inst) (gap : ℕ) (rules : List Rule) (spots : List Spot) (variants : List (Move × Placed)) (n : ℕ) → IsGapOf I gap → IsLayer I spots → IsVariants I spots variants → 2 ≤ n → HasStack (GoTogether I gap rules variants) (length variants) n ↔ Interlocks I gap rules variants
