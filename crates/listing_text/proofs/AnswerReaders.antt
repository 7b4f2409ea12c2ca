-- An allowed number and an answer on the stack are read exactly, line by line.
use Rattle.std.proofs.Common.{◌≡◌, ℕ, ◌≤◌, List, [], ◌∷◌, ◌++◌, length, Ok, refl, sym, ap, subst, ◌∙◌, arith, Bool, true, leb, eq-eqb}
use Rattle.std.specs.Prelude.{◌&&◌}
use Rattle.std.specs.List.{AllByRecursion}
use Rattle.std.proofs.lemmas.Bool.{leb-true, le-leb, eqb-true}
use Rattle.std.proofs.lemmas.List.{append-nil, length-map}
use Rattle.texts.specs.Lines.{spaced}
use Rattle.texts.specs.Grammar.{Reads, ◌>>=◌, first_by}
use Rattle.texts.proofs.LineEnds.{IsPlain}
use Rattle.texts.proofs.Readers.{reads_none, reads_then, reads_as}
use Rattle.texts.proofs.Parsers.{both_true, plain_spaced}
use Rattle.contact_rules.specs.declared.rules.Rule.{Rule}
use Rattle.contact_rules.specs.declared.rules.Rule.TheVariants.{Contact, Support, Cut}
use Rattle.order_reader.specs.Orders.{OrderValue}
use Rattle.stack_builder.specs.Orders.{rules_of}
use Rattle.stack_builder.specs.declared.lists.UnmetRule.{UnmetRule}
use Rattle.stack_builder.specs.declared.lists.StackAnswer.{StackAnswer}
use Rattle.stack_builder.specs.declared.lists.StackAnswer.TheVariants.{Stack, Unmet}
use Rattle.plan_entries.specs.Ranges.{same_rule, same_rules, rules_told, stack_in_range}
use Rattle.listing_text.specs.Text.{rule_words, rule_lines, stack_lines, allowed_words, answer_lines}
use Rattle.listing_text.specs.Ranges.{IsAnswerInRange}
use Rattle.listing_text.specs.Words.{allowed_of, reply_of, rule_of}
use Rattle.listing_text.specs.Lines.{unmet_from, stack_behind, stack_from, answer_at}
use Rattle.listing_text.specs.declared.stack_words.Reply.{Reply}
use Rattle.listing_text.specs.declared.stack_words.Reply.TheVariants as replies
use Rattle.listing_text.proofs.LayerReaders.{by_line}
use Rattle.listing_text.proofs.RuleLines.{allowed_reads, allowed_solid, IsOfRule, rule_reads, rule_solid, GoodStack, reply_text, GoodReply, reply_reads, reply_plain}

-- ---- the same rules

same_rule_is : (r s : Rule) → same_rule r s ≡ true → r ≡ s
same_rule_is (Contact p) (Contact q) e = ap (λ (n : ℕ). Contact n) (eqb-true p q e)
same_rule_is (Contact p) Support e = absurd cc
same_rule_is (Contact p) (Cut q) e = absurd cc
same_rule_is Support (Contact q) e = absurd cc
same_rule_is Support Support e = refl
same_rule_is Support (Cut q) e = absurd cc
same_rule_is (Cut p) (Contact q) e = absurd cc
same_rule_is (Cut p) Support e = absurd cc
same_rule_is (Cut p) (Cut q) e = ap (λ (n : ℕ). Cut n) (eqb-true p q e)

same_rule_itself : (r : Rule) → same_rule r r ≡ true
same_rule_itself (Contact p) = eq-eqb p p refl
same_rule_itself Support = refl
same_rule_itself (Cut p) = eq-eqb p p refl

pub same_rules_are : (rs ss : List Rule) → same_rules rs ss ≡ true → rs ≡ ss
same_rules_are [] [] e = refl
same_rules_are [] (s ∷ ss) e = absurd cc
same_rules_are (r ∷ rs) [] e = absurd cc
same_rules_are (r ∷ rs) (s ∷ ss) e =
    let p = both_true (same_rule r s) (same_rules rs ss) e in
    ap (λ (t : Rule). t ∷ rs) (same_rule_is r s p.0) ∙ ap (λ (ts : List Rule). s ∷ ts) (same_rules_are rs ss p.1)

same_rules_themselves : (rs : List Rule) → same_rules rs rs ≡ true
same_rules_themselves [] = refl
same_rules_themselves (r ∷ rs) = rw (same_rule_itself r, same_rules_themselves rs) refl

-- ---- unmet rules

abbrev unmet_of : Rule → Bool → UnmetRule
unmet_of rule alone = record { rule = rule; alone = alone }

abbrev first_unmet : List UnmetRule → UnmetRule
first_unmet [] = unmet_of Support true
first_unmet (u ∷ us) = u

abbrev other_unmet : List UnmetRule → List UnmetRule
other_unmet [] = []
other_unmet (u ∷ us) = us

abbrev pub AreOfRules : List Rule → List UnmetRule → Type 0
AreOfRules rules us = rules_told us ≡ rules

-- the other rules, where the first is known
unmet_behind : (rule : Rule) (rules : List Rule) (u : UnmetRule) → IsOfRule rule u → Reads rule_lines (AreOfRules rules) (unmet_from rules)
    → Reads (λ us. rule_lines (other_unmet us)) (λ us. AreOfRules (rule ∷ rules) us × (first_unmet us ≡ u)) (λ ls. unmet_from rules ls >>= λ x. Ok (u ∷ x.0, x.1))
unmet_behind rule rules u good P =
    reads_as (λ us. rule_lines (other_unmet us) ++ []) (λ us. rule_lines (other_unmet us)) Fits Fits
    (λ ls. unmet_from rules ls >>= λ x. Ok (u ∷ x.0, x.1)) (λ ls. unmet_from rules ls >>= λ x. Ok (u ∷ x.0, x.1))
    (reads_then rule_lines (AreOfRules rules) (unmet_from rules) other_unmet (λ us. []) Fits (λ us ls. Ok (u ∷ us, ls)) P
    (λ us f. reads_none (λ all. Fits all × (other_unmet all ≡ us)) (u ∷ us) ((made us f, refl), refl) (one us))
    keyed)
    (λ us f. f) (λ us f. f) (λ us f. sym (append-nil (rule_lines (other_unmet us)))) (λ ls. refl)
  where
    Fits : List UnmetRule → Type 0
    Fits us = AreOfRules (rule ∷ rules) us × (first_unmet us ≡ u)

    made : (us : List UnmetRule) → AreOfRules rules us → AreOfRules (rule ∷ rules) (u ∷ us)
    made us f = ap (λ (r : Rule). r ∷ rules_told us) good ∙ ap (λ (rs : List Rule). rule ∷ rs) f

    one : (us all : List UnmetRule) → Fits all × (other_unmet all ≡ us) → all ≡ u ∷ us
    one us [] f = let e = f.0.0 in absurd cc
    one us (d ∷ ds) f = ap (λ (x : UnmetRule). x ∷ ds) f.0.1 ∙ ap (λ (xs : List UnmetRule). u ∷ xs) f.1

    keyed : (all : List UnmetRule) → Fits all → AreOfRules rules (other_unmet all)
    keyed [] f = let e = f.0 in absurd cc
    keyed (d ∷ ds) f = let e = f.0 in cc

pub unmet_read : (rules : List Rule) → Reads rule_lines (AreOfRules rules) (unmet_from rules)
unfolding unmet_from
unmet_read [] =
    reads_as (λ us. []) rule_lines (AreOfRules []) (AreOfRules []) (λ ls. Ok ([], ls)) (unmet_from [])
    (reads_none (AreOfRules []) [] refl none) (λ us f. f) (λ us f. f) (λ us f. ap rule_lines (none us f)) (λ ls. refl)
  where
    none : (us : List UnmetRule) → AreOfRules [] us → us ≡ []
    none [] f = refl
    none (u ∷ us) f = absurd cc
unmet_read (rule ∷ rules) =
    reads_as (λ us. spaced (rule_words (first_unmet us)) ∷ rule_lines (other_unmet us)) rule_lines (AreOfRules (rule ∷ rules)) (AreOfRules (rule ∷ rules))
    (λ ls. first_by (rule_of rule) ls >>= λ u. unmet_from rules u.1 >>= λ x. Ok (u.0 ∷ x.0, x.1)) (unmet_from (rule ∷ rules))
    (reads_then (λ u. spaced (rule_words u) ∷ []) (IsOfRule rule) (first_by (rule_of rule)) first_unmet (λ us. rule_lines (other_unmet us)) (AreOfRules (rule ∷ rules)) (λ u ls. unmet_from rules ls >>= λ x. Ok (u ∷ x.0, x.1))
    (by_line (λ u. spaced (rule_words u)) (IsOfRule rule) (rule_of rule) (rule_reads rule) (unmet_of rule true) refl)
    (λ u good. unmet_behind rule rules u good (unmet_read rules))
    keyed)
    (λ us f. f) (λ us f. f) texts (λ ls. refl)
  where
    keyed : (us : List UnmetRule) → AreOfRules (rule ∷ rules) us → IsOfRule rule (first_unmet us)
    keyed [] f = absurd cc
    keyed (u ∷ us) f = cc

    texts : (us : List UnmetRule) → AreOfRules (rule ∷ rules) us → rule_lines us ≡ spaced (rule_words (first_unmet us)) ∷ rule_lines (other_unmet us)
    texts [] f = absurd cc
    texts (u ∷ us) f = refl

-- ---- the answer on the stack

-- the answer is within the ranges, under these rules
abbrev pub StackFits : ℕ → List Rule → StackAnswer → Type 0
StackFits variants rules (Stack ns) = GoodStack variants ns
StackFits variants rules (Unmet us) = (leb 1 (length us) && same_rules (rules_told us) rules) ≡ true

abbrev reply_key : StackAnswer → Reply
reply_key (Stack ns) = replies.Stack ns
reply_key (Unmet us) = replies.Unmet

abbrev lines_behind : StackAnswer → List (List ℕ)
lines_behind (Stack ns) = []
lines_behind (Unmet us) = rule_lines us

abbrev unmet_key : StackAnswer → List UnmetRule
unmet_key (Stack ns) = []
unmet_key (Unmet us) = us

abbrev IsStackBy : ℕ → List Rule → Reply → StackAnswer → Type 0
IsStackBy variants rules r a = StackFits variants rules a × (reply_key a ≡ r)

pub told_are : (variants : ℕ) (rules : List Rule) (us : List UnmetRule) → StackFits variants rules (Unmet us) → AreOfRules rules us
told_are variants rules us f = same_rules_are (rules_told us) rules (both_true (leb 1 (length us)) (same_rules (rules_told us) rules) f).1

pub as_many : (rules : List Rule) (us : List UnmetRule) → AreOfRules rules us → length us ≡ length rules
as_many rules us f = sym (length-map us (λ u. u.rule)) ∙ ap length f

stack_behind_stack : (variants : ℕ) (rules : List Rule) (ns : List ℕ) → GoodStack variants ns → Reads lines_behind (IsStackBy variants rules (replies.Stack ns)) (stack_behind rules (replies.Stack ns))
unfolding stack_behind
stack_behind_stack variants rules ns good =
    reads_as (λ a. []) lines_behind (IsStackBy variants rules (replies.Stack ns)) (IsStackBy variants rules (replies.Stack ns)) (λ ls. Ok (Stack ns, ls)) (stack_behind rules (replies.Stack ns))
    (reads_none (IsStackBy variants rules (replies.Stack ns)) (Stack ns) (good, refl) one) (λ a f. f) (λ a f. f) (λ a f. ap lines_behind (one a f)) (λ ls. refl)
  where
    one : (a : StackAnswer) → IsStackBy variants rules (replies.Stack ns) a → a ≡ Stack ns
    one (Stack ms) f =
        let e = f.1 in
        let same : ms ≡ ns = cc in
        ap (λ (ks : List ℕ). Stack ks) same
    one (Unmet us) f = let e = f.1 in absurd cc

stack_behind_unmet : (variants : ℕ) (rules : List Rule) → leb 1 (length rules) ≡ true → Reads lines_behind (IsStackBy variants rules replies.Unmet) (stack_behind rules replies.Unmet)
unfolding stack_behind
stack_behind_unmet variants rules some =
    reads_as (λ a. rule_lines (unmet_key a) ++ []) lines_behind (IsStackBy variants rules replies.Unmet) (IsStackBy variants rules replies.Unmet)
    (λ ls. unmet_from rules ls >>= λ us. Ok (Unmet us.0, us.1)) (stack_behind rules replies.Unmet)
    (reads_then rule_lines (AreOfRules rules) (unmet_from rules) unmet_key (λ a. []) (IsStackBy variants rules replies.Unmet) (λ us ls. Ok (Unmet us, ls))
    (unmet_read rules)
    (λ us f. reads_none (λ a. IsStackBy variants rules replies.Unmet a × (unmet_key a ≡ us)) (Unmet us) ((made us f, refl), refl) (one us))
    keyed)
    (λ a f. f) (λ a f. f) texts (λ ls. refl)
  where
    made : (us : List UnmetRule) → AreOfRules rules us → StackFits variants rules (Unmet us)
    made us f =
        let many : leb 1 (length us) ≡ true = subst (λ (n : ℕ). leb 1 n ≡ true) (sym (as_many rules us f)) some in
        let same : same_rules (rules_told us) rules ≡ true = ap (λ (rs : List Rule). same_rules rs rules) f ∙ same_rules_themselves rules in
        rw (many, same) refl

    one : (us : List UnmetRule) (a : StackAnswer) → IsStackBy variants rules replies.Unmet a × (unmet_key a ≡ us) → a ≡ Unmet us
    one us (Stack ns) f = let e = f.0.1 in absurd cc
    one us (Unmet vs) f = ap (λ (ws : List UnmetRule). Unmet ws) f.1

    keyed : (a : StackAnswer) → IsStackBy variants rules replies.Unmet a → AreOfRules rules (unmet_key a)
    keyed (Stack ns) f = let e = f.1 in absurd cc
    keyed (Unmet us) f = told_are variants rules us f.0

    texts : (a : StackAnswer) → IsStackBy variants rules replies.Unmet a → lines_behind a ≡ rule_lines (unmet_key a) ++ []
    texts (Stack ns) f = refl
    texts (Unmet us) f = sym (append-nil (rule_lines us))

behind_reads : (variants : ℕ) (rules : List Rule) (r : Reply) → GoodReply variants rules r → Reads lines_behind (IsStackBy variants rules r) (stack_behind rules r)
behind_reads variants rules (replies.Stack ns) f = stack_behind_stack variants rules ns f
behind_reads variants rules replies.Unmet f = stack_behind_unmet variants rules f

good_reply : (variants : ℕ) (rules : List Rule) (a : StackAnswer) → StackFits variants rules a → GoodReply variants rules (reply_key a)
good_reply variants rules (Stack ns) f = f
good_reply variants rules (Unmet us) f =
    subst (λ (n : ℕ). leb 1 n ≡ true) (as_many rules us (told_are variants rules us f)) (both_true (leb 1 (length us)) (same_rules (rules_told us) rules) f).0

pub stack_reads : (variants : ℕ) (rules : List Rule) → variants ≤ 8 → Reads stack_lines (StackFits variants rules) (stack_from variants rules)
unfolding stack_from
stack_reads variants rules le =
    reads_as (λ a. reply_text (reply_key a) ∷ lines_behind a) stack_lines (StackFits variants rules) (StackFits variants rules)
    (λ ls. first_by (reply_of variants rules) ls >>= λ r. stack_behind rules r.0 r.1) (stack_from variants rules)
    (reads_then (λ r. reply_text r ∷ []) (GoodReply variants rules) (first_by (reply_of variants rules)) reply_key lines_behind (StackFits variants rules) (stack_behind rules)
    (by_line reply_text (GoodReply variants rules) (reply_of variants rules) (reply_reads variants rules le) (replies.Stack []) refl)
    (behind_reads variants rules) (good_reply variants rules))
    (λ a f. f) (λ a f. f) texts (λ ls. refl)
  where
    texts : (a : StackAnswer) → StackFits variants rules a → stack_lines a ≡ reply_text (reply_key a) ∷ lines_behind a
    texts (Stack ns) f = refl
    texts (Unmet us) f = refl

-- ---- the whole answer

pub fits_from_range : (o : OrderValue) (variants : ℕ) (a : StackAnswer) → stack_in_range o variants a ≡ true → StackFits variants (rules_of o) a
fits_from_range o variants (Stack ns) f = f
fits_from_range o variants (Unmet us) f = f

range_from_fits : (o : OrderValue) (variants : ℕ) (a : StackAnswer) → StackFits variants (rules_of o) a → stack_in_range o variants a ≡ true
range_from_fits o variants (Stack ns) f = f
range_from_fits o variants (Unmet us) f = f

pub record InAnswer (o : OrderValue) (variants : ℕ) (answer : ℕ × StackAnswer) : Type 0 where
  pub allowed : answer.0 ≤ 10000
  pub stack : StackFits variants (rules_of o) answer.1

pub in_answer : (o : OrderValue) (variants : ℕ) (answer : ℕ × StackAnswer) → IsAnswerInRange o variants answer → InAnswer o variants answer
in_answer o variants answer f =
    let p = both_true (leb answer.0 10000) (stack_in_range o variants answer.1) f in
    record { allowed = leb-true answer.0 10000 p.0; stack = fits_from_range o variants answer.1 p.1 }

-- the stack, where the allowed number is known
stack_part : (o : OrderValue) (variants n : ℕ) → variants ≤ 8 → n ≤ 10000
    → Reads (λ answer. stack_lines answer.1) (λ answer. IsAnswerInRange o variants answer × (answer.0 ≡ n)) (λ ls. stack_from variants (rules_of o) ls >>= λ stack. Ok ((n, stack.0), stack.1))
stack_part o variants n le small =
    reads_as (λ answer. stack_lines answer.1 ++ []) (λ answer. stack_lines answer.1) Fits Fits
    (λ ls. stack_from variants (rules_of o) ls >>= λ stack. Ok ((n, stack.0), stack.1)) (λ ls. stack_from variants (rules_of o) ls >>= λ stack. Ok ((n, stack.0), stack.1))
    (reads_then stack_lines (StackFits variants (rules_of o)) (stack_from variants (rules_of o)) (λ answer. answer.1) (λ answer. []) Fits (λ a ls. Ok ((n, a), ls))
    (stack_reads variants (rules_of o) le)
    (λ a f. reads_none (λ answer. Fits answer × (answer.1 ≡ a)) (n, a) ((made a f, refl), refl) (one a))
    (λ answer f. (in_answer o variants answer f.0).stack))
    (λ answer f. f) (λ answer f. f) (λ answer f. sym (append-nil (stack_lines answer.1))) (λ ls. refl)
  where
    Fits : ℕ × StackAnswer → Type 0
    Fits answer = IsAnswerInRange o variants answer × (answer.0 ≡ n)

    made : (a : StackAnswer) → StackFits variants (rules_of o) a → IsAnswerInRange o variants (n, a)
    made a f = rw (le-leb n 10000 small, range_from_fits o variants a f) refl

    one : (a : StackAnswer) (answer : ℕ × StackAnswer) → Fits answer × (answer.1 ≡ a) → answer ≡ (n, a)
    one a answer f = ap (λ (m : ℕ). (m, answer.1)) f.0.1 ∙ ap (λ (b : StackAnswer). (n, b)) f.1

-- an allowed number and an answer are read exactly
pub answer_reads : (o : OrderValue) (variants : ℕ) → variants ≤ 8 → Reads answer_lines (IsAnswerInRange o variants) (answer_at o variants)
unfolding answer_at answer_lines
answer_reads o variants le =
    reads_then (λ n. spaced (allowed_words n) ∷ []) (λ n. n ≤ 10000) (first_by allowed_of) (λ answer. answer.0) (λ answer. stack_lines answer.1) (IsAnswerInRange o variants) (λ n ls. stack_from variants (rules_of o) ls >>= λ stack. Ok ((n, stack.0), stack.1))
    (by_line (λ n. spaced (allowed_words n)) (λ n. n ≤ 10000) allowed_of allowed_reads 0 (omega arith))
    (λ n small. stack_part o variants n le small)
    (λ answer f. (in_answer o variants answer f).allowed)

-- ---- no line of a text has an end inside

rule_lines_plain : (us : List UnmetRule) → AllByRecursion IsPlain (rule_lines us)
rule_lines_plain [] = tt
rule_lines_plain (u ∷ us) = (plain_spaced (rule_words u) (rule_solid u), rule_lines_plain us)

stack_plain : (variants : ℕ) (rules : List Rule) (a : StackAnswer) → variants ≤ 8 → StackFits variants rules a → AllByRecursion IsPlain (stack_lines a)
stack_plain variants rules (Stack ns) le f = (reply_plain variants rules (replies.Stack ns) le f, tt)
stack_plain variants rules (Unmet us) le f = (reply_plain variants rules replies.Unmet le (good_reply variants rules (Unmet us) f), rule_lines_plain us)

pub answer_plain : (o : OrderValue) (variants : ℕ) → variants ≤ 8 → (answer : ℕ × StackAnswer) → IsAnswerInRange o variants answer → AllByRecursion IsPlain (answer_lines answer)
unfolding answer_lines
answer_plain o variants le answer f =
    let s = in_answer o variants answer f in
    (plain_spaced (allowed_words answer.0) (allowed_solid answer.0 s.allowed), stack_plain variants (rules_of o) answer.1 le s.stack)
