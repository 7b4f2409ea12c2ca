-- The rules of contact that an order asks for, in words.
use Rattle.std.specs.Prelude.{ℕ, List, [], ◌∷◌, ◌++◌, codes, decimal}
use Rattle.std.specs.List.{flat_map}
use Rattle.contact_rules.specs.declared.rules.Rule.{Rule}
use Rattle.contact_rules.specs.declared.rules.Rule.TheVariants.{Contact, Support, Cut}

-- what a rule asks for
unfoldable pub rule_words : Rule → List ℕ
rule_words (Contact percent) = codes "contact of " ++ (decimal percent ++ codes " percent")
rule_words Support = codes "support by two cases"
rule_words (Cut percent) = codes "no cut over " ++ (decimal percent ++ codes " percent")

-- a rule behind another one
unfoldable pub further_rule : Rule → List ℕ
further_rule rule = codes "; " ++ rule_words rule

abbrev pub further_rules : List Rule → List ℕ
further_rules rules = flat_map further_rule rules

-- each rule in turn, or that there is none
abbrev pub rules_words : List Rule → List ℕ
rules_words [] = codes "none"
rules_words (first ∷ further) = rule_words first ++ further_rules further
