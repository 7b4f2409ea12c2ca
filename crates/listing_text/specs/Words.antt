-- Reading the lines of layers and of an answer on the stack, each by itself.
use Rattle.std.specs.Prelude.{ℕ, List, [], ◌∷◌, length, codes, Option, Some, None, option_map, find, Bool, true, false, nat_le, if◌then◌else◌}
use Rattle.std.specs.Str.{bytes_eq}
use Rattle.plan_io.specs.Numbers.{number_of}
use Rattle.texts.specs.Lines.{words_of}
use Rattle.texts.specs.Words.{◌>>=◌, word_by, behind, number_up_to, this_number, all_words}
use Rattle.plan_geometry.specs.declared.spots.Way.{Way}
use Rattle.plan_geometry.specs.declared.spots.Way.TheVariants.{Lying, Standing}
use Rattle.plan_geometry.specs.declared.spots.Spot.{Spot}
use Rattle.layer_symmetry.specs.declared.symmetries.Move.{Move}
use Rattle.layer_symmetry.specs.declared.symmetries.Move.TheVariants.{Same, MirrorX, MirrorY, HalfTurn, Diagonal, Anti, Left, Right}
use Rattle.layer_symmetry.specs.Moves.{move_name}
use Rattle.contact_rules.specs.declared.rules.Rule.{Rule}
use Rattle.stack_builder.specs.declared.lists.UnmetRule.{UnmetRule}
use Rattle.plan_entries.specs.Ranges.{is_within}
use Rattle.listing_text.specs.Text.{rule_name}
use Rattle.listing_text.specs.declared.stack_words.Reply.{Reply}
use Rattle.listing_text.specs.declared.stack_words.Reply.TheVariants as replies

-- ---- layers

abbrev pub way_of : List ℕ → Option Way
way_of w = if bytes_eq w (codes "L") then Some Lying else if bytes_eq w (codes "S") then Some Standing else None

unfoldable pub case_at : List (List ℕ) → Option (Spot × List (List ℕ))
case_at ws = do
  x ← word_by (number_up_to 4000) ws
  y ← word_by (number_up_to 4000) x.1
  way ← word_by way_of y.1
  Some (record { x = x.0; y = y.0; way = way.0 }, way.1)

unfoldable pub case_of : List ℕ → Option Spot
case_of line = all_words (case_at (words_of line))

abbrev pub every_move : List Move
every_move = Same ∷ MirrorX ∷ MirrorY ∷ HalfTurn ∷ Diagonal ∷ Anti ∷ Left ∷ Right ∷ []

-- the move of a name
unfoldable pub move_of : List ℕ → Option Move
move_of w = find (λ m. bytes_eq w (move_name m)) every_move

unfoldable pub turn_at : ℕ → List (List ℕ) → Option (Move × List (List ℕ))
turn_at number ws = do
  rest ← behind (codes "layer") ws
  here ← word_by (this_number number) rest
  word_by move_of here.1

unfoldable pub turn_of : ℕ → List ℕ → Option Move
turn_of number line = all_words (turn_at number (words_of line))

-- a number from 1 on, at most so great
abbrev pub within : ℕ → ℕ → Option ℕ
within most n = if is_within most n then Some n else None

abbrev pub number_within : ℕ → List ℕ → Option ℕ
number_within most word = number_of word >>= within most

unfoldable pub layer_count_at : List (List ℕ) → Option (ℕ × List (List ℕ))
layer_count_at ws = do
  rest ← behind (codes "layers") ws
  word_by (number_within 8) rest

unfoldable pub layer_count_of : List ℕ → Option ℕ
layer_count_of line = all_words (layer_count_at (words_of line))

-- ---- the allowed number and the stack

unfoldable pub allowed_at : List (List ℕ) → Option (ℕ × List (List ℕ))
allowed_at ws = do
  rest ← behind (codes "allowed") ws
  word_by (number_up_to 10000) rest

unfoldable pub allowed_of : List ℕ → Option ℕ
allowed_of line = all_words (allowed_at (words_of line))

-- all words as numbers of variants, of which there are so many
unfoldable pub numbers_within : ℕ → List (List ℕ) → Option (List ℕ)
numbers_within variants [] = Some []
numbers_within variants (w ∷ ws) = do
  n ← number_within variants w
  others ← numbers_within variants ws
  Some (n ∷ others)

-- at most 10,000 numbers
abbrev pub few_of : List ℕ → Option (List ℕ)
few_of numbers = if nat_le (length numbers) 10000 then Some numbers else None

unfoldable pub stack_of : ℕ → List ℕ → Option (List ℕ)
stack_of variants line = do
  rest ← behind (codes "stack") (words_of line)
  numbers ← numbers_within variants rest
  few_of numbers

-- the line of a stack, or the line before the unmet rules, where rules are asked for
unfoldable pub reply_of : ℕ → List Rule → List ℕ → Option Reply
reply_of variants rules line =
    if bytes_eq line (codes "unmet")
    then (if nat_le 1 (length rules) then Some replies.Unmet else None)
    else option_map (λ numbers. replies.Stack numbers) (stack_of variants line)

abbrev pub alone_of : List ℕ → Option Bool
alone_of w = if bytes_eq w (codes "alone") then Some true else if bytes_eq w (codes "together") then Some false else None

unfoldable pub rule_at : Rule → List (List ℕ) → Option (UnmetRule × List (List ℕ))
rule_at rule ws = do
  rest ← behind (codes "rule") ws
  rest ← behind (rule_name rule) rest
  alone ← word_by alone_of rest
  Some (record { rule = rule; alone = alone.0 }, alone.1)

unfoldable pub rule_of : Rule → List ℕ → Option UnmetRule
rule_of rule line = all_words (rule_at rule (words_of line))
