-- The one spelling of listed layers, and of an allowed number with the answer on the stack.
use Rattle.std.specs.Prelude.{ℕ, ◌+◌, List, [], ◌∷◌, ◌++◌, length, map, Bool, true, false, codes, decimal}
use Rattle.texts.specs.Lines.{spaced, text_of}
use Rattle.plan_geometry.specs.declared.spots.Way.{Way}
use Rattle.plan_geometry.specs.declared.spots.Way.TheVariants.{Lying, Standing}
use Rattle.plan_geometry.specs.declared.spots.Spot.{Spot}
use Rattle.layer_symmetry.specs.declared.symmetries.Move.{Move}
use Rattle.layer_symmetry.specs.Moves.{move_name}
use Rattle.contact_rules.specs.declared.rules.Rule.{Rule}
use Rattle.contact_rules.specs.declared.rules.Rule.TheVariants.{Contact, Support, Cut}
use Rattle.stack_builder.specs.declared.lists.UnmetRule.{UnmetRule}
use Rattle.stack_builder.specs.declared.lists.StackAnswer.{StackAnswer}
use Rattle.stack_builder.specs.declared.lists.StackAnswer.TheVariants.{Stack, Unmet}
use Rattle.plan_entries.specs.declared.listed.Listed.{Listed}

-- ---- layers

-- L for a case that lies, S for one that stands
abbrev pub way_word : Way → List ℕ
way_word Lying = codes "L"
way_word Standing = codes "S"

-- a case by its place and way, as 3 0 S
abbrev pub case_words : Spot → List (List ℕ)
case_words s = decimal s.x ∷ decimal s.y ∷ way_word s.way ∷ []

-- a line for each case
abbrev pub case_lines : List Spot → List (List ℕ)
case_lines spots = map (λ s. spaced (case_words s)) spots

-- a layer's number and move, as layer 2 mirror-x
abbrev pub turn_words : ℕ → Move → List (List ℕ)
turn_words number m = codes "layer" ∷ decimal number ∷ move_name m ∷ []

-- a layer: its number and move, and its cases
abbrev pub layer_lines : ℕ → Listed → List (List ℕ)
layer_lines number l = spaced (turn_words number l.turn) ∷ case_lines l.spots

-- layers from this number on
abbrev pub listed_lines : ℕ → List Listed → List (List ℕ)
listed_lines number [] = []
listed_lines number (l ∷ ls) = layer_lines number l ++ listed_lines (number + 1) ls

-- how many layers, as layers 2
abbrev pub layer_count_words : ℕ → List (List ℕ)
layer_count_words n = codes "layers" ∷ decimal n ∷ []

-- how many layers, and each, numbered from 1
unfoldable pub layers_lines : List Listed → List (List ℕ)
layers_lines layers = spaced (layer_count_words (length layers)) ∷ listed_lines 1 layers

abbrev pub layers_text : List Listed → List ℕ
layers_text layers = text_of (layers_lines layers)

-- ---- the allowed number and the stack

-- the printed name of a rule; its percentage is the order's
abbrev pub rule_name : Rule → List ℕ
rule_name (Contact p) = codes "contact"
rule_name Support = codes "support"
rule_name (Cut p) = codes "cut"

-- alone where no two variants meet the rule by itself, else together
abbrev pub alone_word : Bool → List ℕ
alone_word true = codes "alone"
alone_word false = codes "together"

-- an unmet rule, as rule cut alone
abbrev pub rule_words : UnmetRule → List (List ℕ)
rule_words u = codes "rule" ∷ rule_name u.rule ∷ alone_word u.alone ∷ []

-- a line for each unmet rule
abbrev pub rule_lines : List UnmetRule → List (List ℕ)
rule_lines unmet = map (λ u. spaced (rule_words u)) unmet

-- the numbers of a stack, as stack 1 2
abbrev pub stack_words : List ℕ → List (List ℕ)
stack_words numbers = codes "stack" ∷ map decimal numbers

abbrev pub stack_lines : StackAnswer → List (List ℕ)
stack_lines (Stack numbers) = spaced (stack_words numbers) ∷ []
stack_lines (Unmet unmet) = codes "unmet" ∷ rule_lines unmet

-- how many layers are allowed, as allowed 2
abbrev pub allowed_words : ℕ → List (List ℕ)
allowed_words n = codes "allowed" ∷ decimal n ∷ []

-- how many layers are allowed, and the stack or the rules that are unmet
unfoldable pub answer_lines : ℕ × StackAnswer → List (List ℕ)
answer_lines answer = spaced (allowed_words answer.0) ∷ stack_lines answer.1

abbrev pub answer_text : ℕ × StackAnswer → List ℕ
answer_text answer = text_of (answer_lines answer)
