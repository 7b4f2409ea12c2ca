-- Reading layers and an answer on the stack line by line.
use Rattle.std.specs.Prelude.{ℕ, zero, suc, ◌+◌, List, [], ◌∷◌, Ok}
use Rattle.texts.specs.Grammar.{Reading, ◌>>=◌, first_by}
use Rattle.plan_geometry.specs.declared.spots.Spot.{Spot}
use Rattle.contact_rules.specs.declared.rules.Rule.{Rule}
use Rattle.order_reader.specs.Orders.{OrderValue}
use Rattle.stack_builder.specs.Orders.{rules_of}
use Rattle.stack_builder.specs.declared.lists.UnmetRule.{UnmetRule}
use Rattle.stack_builder.specs.declared.lists.StackAnswer.{StackAnswer}
use Rattle.stack_builder.specs.declared.lists.StackAnswer.TheVariants.{Stack, Unmet}
use Rattle.plan_entries.specs.declared.listed.Listed.{Listed}
use Rattle.listing_text.specs.Words.{case_of, turn_of, layer_count_of, allowed_of, reply_of, rule_of}
use Rattle.listing_text.specs.declared.stack_words.Reply.{Reply}
use Rattle.listing_text.specs.declared.stack_words.Reply.TheVariants as replies

-- so many cases
unfoldable pub cases_from : ℕ → List (List ℕ) → Reading (List ℕ) (List Spot)
cases_from zero ls = Ok ([], ls)
cases_from (suc n) ls = do
  s ← first_by case_of ls
  others ← cases_from n s.1
  Ok (s.0 ∷ others.0, others.1)

-- the layer of this number, with so many cases
unfoldable pub layer_from : ℕ → ℕ → List (List ℕ) → Reading (List ℕ) Listed
layer_from count number ls = do
  turn ← first_by (turn_of number) ls
  cases ← cases_from count turn.1
  Ok (record { turn = turn.0; spots = cases.0 }, cases.1)

-- so many layers, from this number on
unfoldable pub listed_from : ℕ → ℕ → ℕ → List (List ℕ) → Reading (List ℕ) (List Listed)
listed_from count zero number ls = Ok ([], ls)
listed_from count (suc n) number ls = do
  l ← layer_from count number ls
  others ← listed_from count n (number + 1) l.1
  Ok (l.0 ∷ others.0, others.1)

-- the layers, each of so many cases
unfoldable pub layers_at : ℕ → List (List ℕ) → Reading (List ℕ) (List Listed)
layers_at count ls = do
  n ← first_by layer_count_of ls
  listed_from count n.0 1 n.1

-- a line for each of these rules
unfoldable pub unmet_from : List Rule → List (List ℕ) → Reading (List ℕ) (List UnmetRule)
unmet_from [] ls = Ok ([], ls)
unmet_from (rule ∷ rules) ls = do
  u ← first_by (rule_of rule) ls
  others ← unmet_from rules u.1
  Ok (u.0 ∷ others.0, others.1)

-- the answer whose first line was read
unfoldable pub stack_behind : List Rule → Reply → List (List ℕ) → Reading (List ℕ) StackAnswer
stack_behind rules (replies.Stack numbers) ls = Ok (Stack numbers, ls)
stack_behind rules replies.Unmet ls = do
  unmet ← unmet_from rules ls
  Ok (Unmet unmet.0, unmet.1)

-- the answer on a stack of so many variants, under these rules
unfoldable pub stack_from : ℕ → List Rule → List (List ℕ) → Reading (List ℕ) StackAnswer
stack_from variants rules ls = do
  reply ← first_by (reply_of variants rules) ls
  stack_behind rules reply.0 reply.1

-- how many layers are allowed, and the answer on a stack of so many variants under the order's rules
unfoldable pub answer_at : OrderValue → ℕ → List (List ℕ) → Reading (List ℕ) (ℕ × StackAnswer)
answer_at o variants ls = do
  allowed ← first_by allowed_of ls
  stack ← stack_from variants (rules_of o) allowed.1
  Ok ((allowed.0, stack.0), stack.1)
