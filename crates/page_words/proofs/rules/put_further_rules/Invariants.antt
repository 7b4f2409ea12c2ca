use Rattle.std.proofs.Common.{◌≡◌, ◌++◌, take}
use Rattle.page_words.specs.Rules.{further_rules}
use Rattle.page_words.proofs.rules.put_further_rules.Given as goal

abbrev pub invariant-loop-rule : goal.invariant-loop-rule
invariant-loop-rule l = l.out.items ≡ l.fn.out.items ++ further_rules (take l.rule-index l.rules)
