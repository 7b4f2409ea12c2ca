-- The rules that no stack meets.
use Rattle.std.specs.Prelude.{ℕ, Bool, true, false, List, ◌++◌, codes}
use Rattle.std.specs.List.{flat_map}
use Rattle.stack_builder.specs.declared.lists.UnmetRule.{UnmetRule}
use Rattle.page_words.specs.Rules.{rule_words}

-- what is said of a rule that no two forms meet, and of one that some two meet
abbrev pub alone_words : Bool → List ℕ
alone_words true = codes "no two of the forms shown meet it, and none does on itself"
alone_words false = codes "some two of the forms shown, or one on itself, meet it, but none meet all rules together"

unfoldable pub unmet_line : UnmetRule → List ℕ
unmet_line u = codes "<li>" ++ (rule_words u.rule ++ (codes ": " ++ (alone_words u.alone ++ codes "</li>\n")))

-- before the rules and after them
abbrev pub unmet_head : List ℕ
unmet_head = codes "<h3>No stack meets the rules</h3>\n<ul class=\"unmet\">\n"

abbrev pub unmet_end : List ℕ
unmet_end = codes "</ul>\n<p>This is said of the forms shown here. Nothing is said of layers that are not shown.</p>\n"

-- the rules, each with what is said of it
unfoldable pub unmet_text : List UnmetRule → List ℕ
unmet_text us = unmet_head ++ (flat_map unmet_line us ++ unmet_end)
