use Rattle.std.specs.Prelude.{◌≡◌, ℕ, ◌*◌, ◌/◌, min, List}
use Rattle.plan_geometry.specs.declared.instances.Inst.{Inst}
use Rattle.plan_geometry.specs.Placed.{Placed}
use Rattle.layer_symmetry.specs.declared.symmetries.Move.{Move}
use Rattle.contact_rules.specs.declared.rules.Rule.{Rule}
use Rattle.order_reader.specs.Orders.{OrderValue, case_z_of, weight_of, max_height_of, max_weight_of, contact_of, support_of, cut_of, gap_of}
use Rattle.order_reader.specs.Instances.{IsGivenOf}
use Rattle.stack_builder.specs.declared.lists.StackAnswer.{StackAnswer}
use Rattle.stack_builder.specs.Answers.{rules_asked, IsStackAnswer}

-- how many layers of count cases the greatest height and the greatest weight allow
abbrev pub allowed_of : OrderValue → ℕ → ℕ
allowed_of o count = min (max_height_of o / case_z_of o) (max_weight_of o / (count * weight_of o))

-- the rules that an order asks for, in order
abbrev pub rules_of : OrderValue → List Rule
rules_of o = rules_asked (contact_of o) (support_of o) (cut_of o)

-- the answer for an order, by its instance, each number of which contains its gap
pub record IsStackOf (o : OrderValue) (variants : List (Move × Placed)) (n : ℕ) (answer : StackAnswer) : Type 0 where
  pub inst : Inst
  pub given : IsGivenOf o inst
  pub right : IsStackAnswer inst (gap_of o) (rules_of o) variants n answer

-- it is the only one
abbrev pub IsOnlyStackOf : OrderValue → List (Move × Placed) → ℕ → StackAnswer → Type 0
IsOnlyStackOf o variants n answer =
    (other : StackAnswer) → IsStackOf o variants n other → other ≡ answer
