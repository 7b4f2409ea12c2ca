-- The line of a verdict.
use Rattle.std.specs.Prelude.{ℕ, List, [], ◌∷◌, codes, decimal}
use Rattle.texts.specs.Lines.{ended, spaced}
use Rattle.report_checker.specs.declared.verdicts.Clause.{Clause}
use Rattle.report_checker.specs.declared.verdicts.Clause.TheVariants.{Reduced, Layout, Variants, Bound, Status, Allowed, Stack}
use Rattle.report_checker.specs.declared.verdicts.Verdict.{Verdict}
use Rattle.report_checker.specs.declared.verdicts.Verdict.TheVariants.{Yes, Refused, No}

abbrev pub clause_name : Clause → List ℕ
clause_name Reduced = codes "reduced"
clause_name Layout = codes "layout"
clause_name Variants = codes "variants"
clause_name Bound = codes "bound"
clause_name Status = codes "status"
clause_name Allowed = codes "allowed"
clause_name Stack = codes "stack"

-- the words behind the entry's number
abbrev pub said_words : Verdict → List (List ℕ)
said_words Yes = codes "yes" ∷ []
said_words Refused = codes "refused" ∷ []
said_words (No clause item) = codes "no" ∷ clause_name clause ∷ decimal item ∷ []

-- the words of the line
abbrev pub verdict_words : ℕ → Verdict → List (List ℕ)
verdict_words number v = codes "entry" ∷ decimal number ∷ said_words v

-- the line, with its end
abbrev pub verdict_text : ℕ → Verdict → List ℕ
verdict_text number v = ended (spaced (verdict_words number v))
