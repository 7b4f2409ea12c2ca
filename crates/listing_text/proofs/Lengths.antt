-- How long the text of layers and of an answer can be.
use Rattle.std.proofs.Common.{◌≡◌, ℕ, suc, ◌+◌, ◌*◌, ◌≤◌, List, [], ◌∷◌, ◌++◌, length, refl, ap, ◌∙◌, arith, true, Bool, false, cond, leb, ltb, eqb}
use Rattle.std.specs.Prelude.{decimal, map, codes}
use Rattle.std.specs.List.{list_all, flat_map}
use Rattle.std.proofs.lemmas.Bool.{leb-true}
use Rattle.std.proofs.lemmas.List.{length-append}
use Rattle.std.proofs.lemmas.List.Concat.{flat_map-cons}
use Rattle.std.proofs.lemmas.Nat.{mul-le}
use Rattle.std.proofs.lemmas.Fmt.{length-decimal-le}
use Rattle.texts.specs.Lines.{ended, spaced, text_of}
use Rattle.texts.proofs.Parsers.{both_true}
use Rattle.plan_geometry.specs.declared.spots.Way.{Way}
use Rattle.plan_geometry.specs.declared.spots.Way.TheVariants.{Lying, Standing}
use Rattle.plan_geometry.specs.declared.spots.Spot.{Spot}
use Rattle.layer_symmetry.specs.declared.symmetries.Move.{Move}
use Rattle.layer_symmetry.specs.declared.symmetries.Move.TheVariants.{Same, MirrorX, MirrorY, HalfTurn, Diagonal, Anti, Left, Right}
use Rattle.layer_symmetry.specs.Moves.{move_name}
use Rattle.contact_rules.specs.declared.rules.Rule.{Rule}
use Rattle.contact_rules.specs.declared.rules.Rule.TheVariants.{Contact, Support, Cut}
use Rattle.order_reader.specs.Orders.{OrderValue, contact_of, support_of, cut_of}
use Rattle.stack_builder.specs.Answers.{rules_asked}
use Rattle.stack_builder.specs.Orders.{rules_of}
use Rattle.stack_builder.specs.declared.lists.UnmetRule.{UnmetRule}
use Rattle.stack_builder.specs.declared.lists.StackAnswer.{StackAnswer}
use Rattle.stack_builder.specs.declared.lists.StackAnswer.TheVariants.{Stack, Unmet}
use Rattle.plan_entries.specs.declared.listed.Listed.{Listed}
use Rattle.plan_entries.specs.Ranges.{is_within, is_place, listed_in_range}
use Rattle.listing_text.specs.Text.{way_word, case_words, case_lines, turn_words, layer_lines, listed_lines, layer_count_words, layers_lines, layers_text, rule_name, alone_word, rule_words, rule_lines, stack_words, stack_lines, allowed_words, answer_lines, answer_text}
use Rattle.listing_text.specs.Ranges.{AreLayersInRange, IsAnswerInRange}
use Rattle.listing_text.proofs.CaseLines.{GoodCase, small_case, within_le}
use Rattle.listing_text.proofs.LayerReaders.{GoodListed, listed_cases, in_layers, few_layers}
use Rattle.listing_text.proofs.RuleLines.{AreWithin}
use Rattle.listing_text.proofs.AnswerReaders.{StackFits, told_are, as_many, in_answer}
use Rattle.listing_text.proofs.Pieces.{text_both}

-- the bytes of words, each behind a space
abbrev behind_len : List (List ℕ) → ℕ
behind_len [] = 0
behind_len (w ∷ ws) = suc (length w) + behind_len ws

length-behind : (ws : List (List ℕ)) → length (flat_map (λ v. 32 ∷ v) ws) ≡ behind_len ws
length-behind [] = refl
length-behind (w ∷ ws) = ap length (flat_map-cons (λ (v : List ℕ). 32 ∷ v) w ws) ∙ length-append (32 ∷ w) (flat_map (λ v. 32 ∷ v) ws) ∙ ap (λ (n : ℕ). suc (length w) + n) (length-behind ws)

-- a line of words, with its end
length-line : (w : List ℕ) (ws : List (List ℕ)) → length (ended (spaced (w ∷ ws))) ≡ (length w + behind_len ws) + 1
length-line w ws = length-append (spaced (w ∷ ws)) (10 ∷ []) ∙ ap (λ (n : ℕ). n + 1) (length-append w (flat_map (λ v. 32 ∷ v) ws) ∙ ap (λ (n : ℕ). length w + n) (length-behind ws))

length-text : (line : List ℕ) (lines : List (List ℕ)) → length (text_of (line ∷ lines)) ≡ length (ended line) + length (text_of lines)
length-text line lines = ap length (flat_map-cons ended line lines) ∙ length-append (ended line) (text_of lines)

-- each line has a byte at least
pub lines_within : (lines : List (List ℕ)) → length lines ≤ length (text_of lines)
lines_within [] = omega arith
lines_within (l ∷ ls) =
    let e = length-text l ls in
    let one = length-append l (10 ∷ []) in
    let rest = lines_within ls in
    omega arith

-- ---- layers

way_len : (k : Way) → length (way_word k) ≡ 1
way_len Lying = refl
way_len Standing = refl

name_len : (m : Move) → length (move_name m) ≤ 9
name_len Same = omega arith
name_len MirrorX = omega arith
name_len MirrorY = omega arith
name_len HalfTurn = omega arith
name_len Diagonal = omega arith
name_len Anti = omega arith
name_len Left = omega arith
name_len Right = omega arith

side_len : (n : ℕ) → n ≤ 4000 → length (decimal n) ≤ 4
side_len n le = length-decimal-le 4 n (omega arith) (omega arith) (omega arith)

digit_len : (n : ℕ) → n ≤ 9 → length (decimal n) ≤ 1
digit_len n le = length-decimal-le 1 n (omega arith) (omega arith) (omega arith)

case_short : (s : Spot) → GoodCase s → length (ended (spaced (case_words s))) ≤ 12
case_short s f =
    let small = small_case s f in
    let x = side_len s.x small.x_le in
    let y = side_len s.y small.y_le in
    let way = way_len s.way in
    let e = length-line (decimal s.x) (decimal s.y ∷ way_word s.way ∷ []) in
    omega arith

cases_short : (ss : List Spot) → list_all is_place ss ≡ true → length (text_of (case_lines ss)) ≤ length ss * 12
cases_short [] f = omega arith
cases_short (s ∷ ss) f =
    let p = both_true (is_place s) (list_all is_place ss) f in
    let first = case_short s p.0 in
    let others = cases_short ss p.1 in
    let e = length-text (spaced (case_words s)) (case_lines ss) in
    omega arith

turn_short : (number : ℕ) (m : Move) → number ≤ 9 → length (ended (spaced (turn_words number m))) ≤ 20
turn_short number m le =
    let n = digit_len number le in
    let name = name_len m in
    let e = length-line (codes "layer") (decimal number ∷ move_name m ∷ []) in
    omega arith

layer_short : (count number : ℕ) (l : Listed) → number ≤ 9 → GoodListed count l → length (text_of (layer_lines number l)) ≤ count * 12 + 20
layer_short count number l le f =
    let c = listed_cases count l f in
    let many = c.0 in
    let first = turn_short number l.turn le in
    let others = cases_short l.spots c.1 in
    let e = length-text (spaced (turn_words number l.turn)) (case_lines l.spots) in
    let same : length l.spots * 12 ≡ count * 12 = ap (λ (n : ℕ). n * 12) many in
    omega arith

listed_short : (count number : ℕ) (layers : List Listed) → number + length layers ≤ 10 → list_all (listed_in_range count) layers ≡ true → length (text_of (listed_lines number layers)) ≤ length layers * (count * 12 + 20)
listed_short count number [] le f = omega arith
listed_short count number (l ∷ ls) le f =
    let p = both_true (listed_in_range count l) (list_all (listed_in_range count) ls) f in
    let first = layer_short count number l (omega arith) p.0 in
    let others = listed_short count (number + 1) ls (omega arith) p.1 in
    let e = ap length (text_both (layer_lines number l) (listed_lines (number + 1) ls)) ∙ length-append (text_of (layer_lines number l)) (text_of (listed_lines (number + 1) ls)) in
    let sum : suc (length ls) * (count * 12 + 20) ≡ (count * 12 + 20) + length ls * (count * 12 + 20) = omega arith in
    omega arith

pub layers_short : (count : ℕ) (layers : List Listed) → AreLayersInRange count layers → length (layers_text layers) ≤ 8 * (count * 12 + 20) + 10
unfolding layers_lines
layers_short count layers f =
    let few = few_layers count layers f in
    let others = listed_short count 1 layers (omega arith) (in_layers count layers f).all in
    let n = digit_len (length layers) (omega arith) in
    let first = length-line (codes "layers") (decimal (length layers) ∷ []) in
    let e = length-text (spaced (layer_count_words (length layers))) (listed_lines 1 layers) in
    let most : length layers * (count * 12 + 20) ≤ 8 * (count * 12 + 20) = mul-le (length layers) (count * 12 + 20) 8 (count * 12 + 20) few (omega arith) in
    omega arith

-- ---- answers

numbers_short : (variants : ℕ) (ns : List ℕ) → variants ≤ 8 → AreWithin variants ns → behind_len (map decimal ns) ≤ length ns * 2
numbers_short variants [] le f = omega arith
numbers_short variants (n ∷ ns) le f =
    let p = both_true (is_within variants n) (list_all (is_within variants) ns) f in
    let small = within_le variants n p.0 in
    let first = digit_len n (omega arith) in
    let others = numbers_short variants ns le p.1 in
    omega arith

rule_len : (r : Rule) → length (rule_name r) ≤ 7
rule_len (Contact p) = omega arith
rule_len Support = omega arith
rule_len (Cut p) = omega arith

alone_len : (b : Bool) → length (alone_word b) ≤ 8
alone_len true = omega arith
alone_len false = omega arith

rules_short : (us : List UnmetRule) → length (text_of (rule_lines us)) ≤ length us * 22
rules_short [] = omega arith
rules_short (u ∷ us) =
    let name = rule_len u.rule in
    let word = alone_len u.alone in
    let first = length-line (codes "rule") (rule_name u.rule ∷ alone_word u.alone ∷ []) in
    let others = rules_short us in
    let e = length-text (spaced (rule_words u)) (rule_lines us) in
    omega arith

one_at_most : (b : Bool) (r : Rule) → length (cond b (r ∷ []) []) ≤ 1
one_at_most true r = omega arith
one_at_most false r = omega arith

few_rules : (contact support cut : ℕ) → length (rules_asked contact support cut) ≤ 3
few_rules contact support cut =
    let a = one_at_most (ltb 0 contact) (Contact contact) in
    let b = one_at_most (eqb support 1) Support in
    let c = one_at_most (ltb cut 100) (Cut cut) in
    let e : length (rules_asked contact support cut) ≡ length (cond (ltb 0 contact) (Contact contact ∷ []) [] ++ cond (eqb support 1) (Support ∷ []) []) + length (cond (ltb cut 100) (Cut cut ∷ []) []) = length-append (cond (ltb 0 contact) (Contact contact ∷ []) [] ++ cond (eqb support 1) (Support ∷ []) []) (cond (ltb cut 100) (Cut cut ∷ []) []) in
    let d = length-append (cond (ltb 0 contact) (Contact contact ∷ []) []) (cond (eqb support 1) (Support ∷ []) []) in
    omega arith

stack_short : (o : OrderValue) (variants : ℕ) (a : StackAnswer) → variants ≤ 8 → StackFits variants (rules_of o) a → length (text_of (stack_lines a)) ≤ 20010
stack_short o variants (Stack ns) le f =
    let p = both_true (leb (length ns) 10000) (list_all (is_within variants) ns) f in
    let few = leb-true (length ns) 10000 p.0 in
    let short = numbers_short variants ns le p.1 in
    let first = length-line (codes "stack") (map decimal ns) in
    let e = length-text (spaced (stack_words ns)) [] in
    omega arith
stack_short o variants (Unmet us) le f =
    let many = as_many (rules_of o) us (told_are variants (rules_of o) us f) in
    let few = few_rules (contact_of o) (support_of o) (cut_of o) in
    let short = rules_short us in
    let e = length-text (codes "unmet") (rule_lines us) in
    omega arith

pub answer_short : (o : OrderValue) (variants : ℕ) → variants ≤ 8 → (answer : ℕ × StackAnswer) → IsAnswerInRange o variants answer → length (answer_text answer) ≤ 20100
unfolding answer_lines
answer_short o variants le answer f =
    let s = in_answer o variants answer f in
    let small = s.allowed in
    let n = length-decimal-le 5 answer.0 (omega arith) (omega arith) (omega arith) in
    let first = length-line (codes "allowed") (decimal answer.0 ∷ []) in
    let short = stack_short o variants answer.1 le s.stack in
    let e = length-text (spaced (allowed_words answer.0)) (stack_lines answer.1) in
    omega arith
