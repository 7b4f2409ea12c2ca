use Rattle.std.proofs.Common.{◌≡◌, ◌++◌, take}
use Rattle.texts.specs.Lines.{text_of}
use Rattle.listing_text.specs.Text.{rule_lines}
use Rattle.listing_text.proofs.stack_puts.put_rules.Given as goal

abbrev pub invariant-loop-told : goal.invariant-loop-told
invariant-loop-told l = l.out.items ≡ l.fn.out.items ++ text_of (rule_lines (take l.told-index l.unmet))
