-- The lines of an allowed number, of a stack and of unmet rules are read exactly.
use Rattle.std.proofs.Common.{◌≡◌, ℕ, ◌≤◌, List, [], ◌∷◌, length, Some, None, refl, sym, ap, subst, ◌∙◌, arith, Bool, true, cond, leb, inl, inr}
use Rattle.std.specs.Prelude.{decimal, codes, map, option_map, ◌&&◌}
use Rattle.std.specs.Str.{bytes_eq}
use Rattle.std.specs.List.{list_all, AllByRecursion}
use Rattle.std.proofs.lemmas.Slice.Eq.{bytes_eq-Decides}
use Rattle.texts.specs.Lines.{spaced, words_of}
use Rattle.texts.specs.Words.{◌>>=◌, word_by, behind, number_up_to}
use Rattle.texts.proofs.LineEnds.{IsPlain}
use Rattle.texts.proofs.Parsers.{Parses, both_true, bind_some, map_some, guard_some, some_is, parses_behind, parses_none, parses_then, parses_as, parses_number, IsWord, few_wide, words_spaced, spaced_words, plain_spaced, ReadsLine, reads_line}
use Rattle.contact_rules.specs.declared.rules.Rule.{Rule}
use Rattle.contact_rules.specs.declared.rules.Rule.TheVariants.{Contact, Support, Cut}
use Rattle.stack_builder.specs.declared.lists.UnmetRule.{UnmetRule}
use Rattle.plan_entries.specs.Ranges.{is_within}
use Rattle.listing_text.specs.Text.{rule_name, alone_word, rule_words, stack_words, allowed_words}
use Rattle.listing_text.specs.Words.{allowed_at, allowed_of, number_within, numbers_within, few_of, stack_of, reply_of, alone_of, rule_at, rule_of}
use Rattle.listing_text.specs.declared.stack_words.Reply.{Reply}
use Rattle.listing_text.specs.declared.stack_words.Reply.TheVariants as replies
use Rattle.listing_text.proofs.OneWord.{Any, pick, alone_parses, alone_solid}
use Rattle.listing_text.proofs.CaseLines.{within_le, within_back, within_only}

-- ---- the allowed number

allowed_parses : Parses allowed_words (λ n. n ≤ 10000) allowed_at
unfolding allowed_at
allowed_parses = parses_behind (codes "allowed") (λ n. decimal n ∷ []) (λ n. n ≤ 10000) (word_by (number_up_to 10000)) (parses_number 10000 (omega arith))

pub allowed_solid : (n : ℕ) → n ≤ 10000 → AllByRecursion IsWord (allowed_words n)
allowed_solid n le = (refl, (few_wide n (omega arith), tt))

pub allowed_reads : ReadsLine (λ n. spaced (allowed_words n)) (λ n. n ≤ 10000) allowed_of
unfolding allowed_of
allowed_reads = reads_line allowed_words (λ n. n ≤ 10000) allowed_at allowed_parses (λ n f. words_spaced (codes "allowed") (decimal n ∷ []) (allowed_solid n f))

-- ---- a rule

rule_made : Rule → Bool → UnmetRule
rule_made rule alone = record { rule = rule; alone = alone }

abbrev pub IsOfRule : Rule → UnmetRule → Type 0
IsOfRule rule u = u.rule ≡ rule

rule_parses : (rule : Rule) → Parses rule_words (IsOfRule rule) (rule_at rule)
unfolding rule_at rule_made
rule_parses rule =
    parses_behind (codes "rule") (λ u. rule_name u.rule ∷ alone_word u.alone ∷ []) (IsOfRule rule) (λ ws. behind (rule_name rule) ws >>= λ rest. word_by alone_of rest >>= λ alone. Some (rule_made rule alone.0, alone.1))
    (parses_as (λ u. rule_name rule ∷ alone_word u.alone ∷ []) (λ u. rule_name u.rule ∷ alone_word u.alone ∷ []) (IsOfRule rule) (IsOfRule rule)
    (λ ws. behind (rule_name rule) ws >>= λ rest. word_by alone_of rest >>= λ alone. Some (rule_made rule alone.0, alone.1))
    (λ ws. behind (rule_name rule) ws >>= λ rest. word_by alone_of rest >>= λ alone. Some (rule_made rule alone.0, alone.1))
    (parses_behind (rule_name rule) (λ u. alone_word u.alone ∷ []) (IsOfRule rule) (λ rest. word_by alone_of rest >>= λ alone. Some (rule_made rule alone.0, alone.1))
    (parses_then (λ k. alone_word k ∷ []) Any (word_by alone_of) (λ u. u.alone) (λ u. []) (IsOfRule rule) (λ alone ws. Some (rule_made rule alone, ws)) alone_parses
    (λ alone h. parses_none (λ u. IsOfRule rule u × (u.alone ≡ alone)) (rule_made rule alone) (refl, refl) (one alone))
    (λ u f. tt)))
    (λ u f. f) (λ u f. f) (λ u f. ap (λ (r : Rule). rule_name r ∷ alone_word u.alone ∷ []) f) (λ ws. refl))
  where
    one : (alone : Bool) (u : UnmetRule) → IsOfRule rule u × (u.alone ≡ alone) → u ≡ rule_made rule alone
    one alone u f = ap (λ (r : Rule). rule_made r u.alone) f.0 ∙ ap (λ (b : Bool). rule_made rule b) f.1

rule_name_solid : (rule : Rule) → IsWord (rule_name rule)
rule_name_solid (Contact p) = refl
rule_name_solid Support = refl
rule_name_solid (Cut p) = refl

pub rule_solid : (u : UnmetRule) → AllByRecursion IsWord (rule_words u)
rule_solid u = (refl, (rule_name_solid u.rule, (alone_solid u.alone, tt)))

pub rule_reads : (rule : Rule) → ReadsLine (λ u. spaced (rule_words u)) (IsOfRule rule) (rule_of rule)
unfolding rule_of
rule_reads rule = reads_line rule_words (IsOfRule rule) (rule_at rule) (rule_parses rule) (λ u f. words_spaced (codes "rule") (rule_name u.rule ∷ alone_word u.alone ∷ []) (rule_solid u))

-- ---- numbers to a line's end

abbrev pub AreWithin : ℕ → List ℕ → Type 0
AreWithin variants ns = list_all (is_within variants) ns ≡ true

numbers_back : (variants : ℕ) (ns : List ℕ) → variants ≤ 8 → AreWithin variants ns → numbers_within variants (map decimal ns) ≡ Some ns
unfolding numbers_within
numbers_back variants [] le f = refl
numbers_back variants (n ∷ ns) le f =
    let p = both_true (is_within variants n) (list_all (is_within variants) ns) f in
    rw (within_back variants n (omega arith) p.0, numbers_back variants ns le p.1) refl

numbers_only : (variants : ℕ) (ws : List (List ℕ)) (ns : List ℕ) → numbers_within variants ws ≡ Some ns → AreWithin variants ns × (ws ≡ map decimal ns)
unfolding numbers_within
numbers_only variants [] ns e =
    let same = some_is [] ns e in
    (subst (AreWithin variants) same refl, ap (map decimal) same)
numbers_only variants (w ∷ ws) ns e =
    let b = bind_some (number_within variants w) (λ n. numbers_within variants ws >>= λ others. Some (n ∷ others)) ns e in
    let d = bind_some (numbers_within variants ws) (λ others. Some (b.0 ∷ others)) ns b.2 in
    let first = within_only variants w b.0 b.1 in
    let others = numbers_only variants ws d.0 d.1 in
    let same : b.0 ∷ d.0 ≡ ns = some_is (b.0 ∷ d.0) ns d.2 in
    let all : AreWithin variants (b.0 ∷ d.0) = rw (first.0, others.0) refl in
    (subst (AreWithin variants) same all, ap (λ (t : List ℕ). t ∷ ws) first.1 ∙ ap (λ (t : List (List ℕ)). decimal b.0 ∷ t) others.1 ∙ ap (map decimal) same)

pub numbers_solid_within : (variants : ℕ) (ns : List ℕ) → variants ≤ 8 → AreWithin variants ns → AllByRecursion IsWord (map decimal ns)
numbers_solid_within variants [] le f = tt
numbers_solid_within variants (n ∷ ns) le f =
    let p = both_true (is_within variants n) (list_all (is_within variants) ns) f in
    let small = within_le variants n p.0 in
    (few_wide n (omega arith), numbers_solid_within variants ns le p.1)

-- ---- a stack

-- at most 10,000 numbers of variants
abbrev pub GoodStack : ℕ → List ℕ → Type 0
GoodStack variants ns = (leb (length ns) 10000 && list_all (is_within variants) ns) ≡ true

pub stack_solid : (variants : ℕ) (ns : List ℕ) → variants ≤ 8 → GoodStack variants ns → AllByRecursion IsWord (stack_words ns)
stack_solid variants ns le f = (refl, numbers_solid_within variants ns le (both_true (leb (length ns) 10000) (list_all (is_within variants) ns) f).1)

stack_words_back : (variants : ℕ) (ns : List ℕ) → variants ≤ 8 → GoodStack variants ns → words_of (spaced (stack_words ns)) ≡ stack_words ns
stack_words_back variants ns le f = words_spaced (codes "stack") (map decimal ns) (stack_solid variants ns le f)

stack_back : (variants : ℕ) (ns : List ℕ) → variants ≤ 8 → GoodStack variants ns → stack_of variants (spaced (stack_words ns)) ≡ Some ns
unfolding stack_of
stack_back variants ns le f =
    let p = both_true (leb (length ns) 10000) (list_all (is_within variants) ns) f in
    let e : (behind (codes "stack") (stack_words ns) >>= λ rest. numbers_within variants rest >>= few_of) ≡ Some ns = rw (numbers_back variants ns le p.1) (rw p.0 refl) in
    ap (λ (ws : List (List ℕ)). behind (codes "stack") ws >>= λ rest. numbers_within variants rest >>= few_of) (stack_words_back variants ns le f) ∙ e

behind_is : (word : List ℕ) (ws rest : List (List ℕ)) → behind word ws ≡ Some rest → ws ≡ word ∷ rest
behind_is word [] rest e = absurd cc
behind_is word (w ∷ ws) rest e =
    let g = guard_some (bytes_eq w word) ws rest e in
    ap (λ (t : List ℕ). t ∷ ws) ((bytes_eq-Decides w word).0 g.0) ∙ ap (λ (t : List (List ℕ)). word ∷ t) g.1

stack_only : (variants : ℕ) (line : List ℕ) (ns : List ℕ) → stack_of variants line ≡ Some ns → GoodStack variants ns × (line ≡ spaced (stack_words ns))
unfolding stack_of
stack_only variants line ns e =
    let b = bind_some (behind (codes "stack") (words_of line)) (λ rest. numbers_within variants rest >>= few_of) ns e in
    let d = bind_some (numbers_within variants b.0) few_of ns b.2 in
    let g = guard_some (leb (length d.0) 10000) d.0 ns d.2 in
    let n = numbers_only variants b.0 d.0 d.1 in
    (subst (GoodStack variants) g.1 (rw (g.0, n.0) refl), sym (spaced_words line) ∙ ap spaced (behind_is (codes "stack") (words_of line) b.0 b.1 ∙ ap (λ (t : List (List ℕ)). codes "stack" ∷ t) (n.1 ∙ ap (map decimal) g.1)))

-- ---- the first line of an answer

abbrev pub reply_text : Reply → List ℕ
reply_text (replies.Stack ns) = spaced (stack_words ns)
reply_text replies.Unmet = codes "unmet"

abbrev pub GoodReply : ℕ → List Rule → Reply → Type 0
GoodReply variants rules (replies.Stack ns) = GoodStack variants ns
GoodReply variants rules replies.Unmet = leb 1 (length rules) ≡ true

pub reply_reads : (variants : ℕ) (rules : List Rule) → variants ≤ 8 → ReadsLine reply_text (GoodReply variants rules) (reply_of variants rules)
unfolding reply_of
reply_reads variants rules le = record { back = back; only = only }
  where
    back : (r : Reply) → GoodReply variants rules r → reply_of variants rules (reply_text r) ≡ Some r
    back (replies.Stack ns) f = ap (option_map (λ numbers. replies.Stack numbers)) (stack_back variants ns le f)
    back replies.Unmet f = rw f refl

    only : (line : List ℕ) (r : Reply) → reply_of variants rules line ≡ Some r → GoodReply variants rules r × (line ≡ reply_text r)
    only line r e = elim (pick (bytes_eq line (codes "unmet")) (cond (leb 1 (length rules)) (Some replies.Unmet) None) (option_map (λ numbers. replies.Stack numbers) (stack_of variants line)) (Some r) e) [
      | inl p ↦
          let g = guard_some (leb 1 (length rules)) replies.Unmet r p.1 in
          (subst (GoodReply variants rules) g.1 g.0, (bytes_eq-Decides line (codes "unmet")).0 p.0 ∙ ap reply_text g.1)
      | inr q ↦
          let m = map_some (stack_of variants line) (λ numbers. replies.Stack numbers) r q.1 in
          let s = stack_only variants line m.0 m.1 in
          (subst (GoodReply variants rules) m.2 s.0, s.1 ∙ ap reply_text m.2)
    ]

pub reply_plain : (variants : ℕ) (rules : List Rule) (r : Reply) → variants ≤ 8 → GoodReply variants rules r → IsPlain (reply_text r)
reply_plain variants rules (replies.Stack ns) le f = plain_spaced (stack_words ns) (stack_solid variants ns le f)
reply_plain variants rules replies.Unmet le f = (refl, (refl, (refl, (refl, (refl, tt)))))
