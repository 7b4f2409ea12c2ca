-- What stands behind the sheets: the summary, and what the page does not say.
use Rattle.std.specs.Prelude.{ℕ, List, ◌++◌, codes, decimal}
use Rattle.page_text.specs.declared.counts.Counts.{Counts}

-- how many entries of each kind there are
unfoldable pub counts_text : Counts → List ℕ
counts_text c =
    codes "<section id=\"summary\"><h1>Pallet pattern sheets</h1>\n<dl class=\"counts\"><div><dt>Orders</dt><dd>" ++ (decimal c.orders
    ++ (codes "</dd></div><div><dt>Planned</dt><dd>" ++ (decimal c.planned
    ++ (codes "</dd></div><div><dt>Layer proved greatest</dt><dd>" ++ (decimal c.greatest
    ++ (codes "</dd></div><div><dt>Greatest still open</dt><dd>" ++ (decimal c.still_open
    ++ (codes "</dd></div><div><dt>Rules unmet</dt><dd>" ++ (decimal c.unmet
    ++ (codes "</dd></div><div><dt>Refused</dt><dd>" ++ (decimal c.refused
    ++ codes "</dd></div></dl>\n")))))))))))

unfoldable pub table_head : List ℕ
table_head =
    codes "<table><caption>The orders, and where their sheets are</caption>\n"
    ++ (codes "<tr><th scope=\"col\">Row</th><th scope=\"col\">Order</th><th scope=\"col\">Cases a layer</th>"
    ++ codes "<th scope=\"col\">Greatest</th><th scope=\"col\">Stack</th></tr>\n")

-- a table of these rows
unfoldable pub table_text : List ℕ → List ℕ
table_text rows = table_head ++ (rows ++ codes "</table>\n</section>\n")

-- the page shows a report, and judges nothing
unfoldable pub foot_text : List ℕ
foot_text =
    codes "<footer><p>This page shows what the report says, and says nothing of whether it is right: "
    ++ codes "<code>pallet check</code> tells that.</p></footer>\n</main>\n</body></html>\n"

-- the summary of so many entries and of these rows, and the end of the page
unfoldable pub summary_text : Counts → List ℕ → List ℕ
summary_text counts rows = counts_text counts ++ (table_text rows ++ foot_text)
