-- The ranges within which listed layers and an answer on the stack have a text.
use Rattle.std.specs.Prelude.{ℕ, ◌≡◌, nat_le, Bool, true, ◌&&◌, List}
use Rattle.order_reader.specs.Orders.{OrderValue}
use Rattle.stack_builder.specs.declared.lists.StackAnswer.{StackAnswer}
use Rattle.plan_entries.specs.declared.listed.Listed.{Listed}
use Rattle.plan_entries.specs.Ranges.{layers_in_range, stack_in_range}

-- the layers have a text, each of so many cases
abbrev pub AreLayersInRange : ℕ → List Listed → Type 0
AreLayersInRange count layers = layers_in_range count layers ≡ true

-- at most 10,000 layers are allowed, and the stack is one of so many variants, or all rules of the order are unmet
abbrev pub answer_in_range : OrderValue → ℕ → ℕ × StackAnswer → Bool
answer_in_range o variants answer = nat_le answer.0 10000 && stack_in_range o variants answer.1

-- the answer has a text under the order
abbrev pub IsAnswerInRange : OrderValue → ℕ → ℕ × StackAnswer → Type 0
IsAnswerInRange o variants answer = answer_in_range o variants answer ≡ true
