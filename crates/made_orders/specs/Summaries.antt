-- The text of a trial's summary: seven lines, each a name and a number.
use Rattle.std.specs.Prelude.{ℕ, List, ◌++◌, codes, decimal}
use Rattle.made_orders.specs.declared.summaries.Summary.{Summary}

-- a name, a number, and the line's end
unfoldable pub line_text : List ℕ → ℕ → List ℕ
line_text name number = name ++ decimal number ++ codes "\n"

unfoldable pub summary_text : Summary → List ℕ
summary_text s =
    line_text (codes "trial ") s.number ++ line_text (codes "rows ") s.rows ++ line_text (codes "planned ") s.planned
    ++ line_text (codes "cases ") s.cases ++ line_text (codes "optimal ") s.optimal ++ line_text (codes "stacks ") s.stacks
    ++ line_text (codes "yes ") s.yes
