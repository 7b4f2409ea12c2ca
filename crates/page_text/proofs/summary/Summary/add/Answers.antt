use Rattle.std.proofs.Common.{◌≡◌, ◌∙◌, ◌+◌, ◌++◌, ◌∷◌, [], ℕ, List, length, ap, arith, sym}
use Rattle.std.proofs.lemmas.List.{length-append}
use Rattle.page_text.specs.Counts.{counts_of}
use Rattle.page_text.specs.Rows.{row_text, rows_text}
use Rattle.page_text.specs.Page.{IsSummaryOf}
use Rattle.page_text.proofs.Numbered.{numbered-more}
use Rattle.page_text.proofs.summary.Summary.add.Goals as goal

pub returns : goal.returns
unfolding IsSummaryOf
returns c = λ es is.
    let e = c.args.entry.now in
    let number = c.with-self.result.orders in
    let counts : c.with-self.result ≡ counts_of (es ++ e ∷ []) = c.with-self.ensures es is.0 in
    let next : number ≡ length es + 1 = omega (arith, ap (λ k. k.orders) counts, length-append es (e ∷ [])) in
    let rows : c.put_row.new.out.items ≡ rows_text (es ++ e ∷ []) =
    c.in_ok-put_row.ensures ∙ ap (λ (t : List ℕ). t ++ row_text number e) is.1 ∙ ap (λ (k : ℕ). rows_text es ++ row_text k e) next
    ∙ sym (numbered-more row_text 1 es e) in
    (counts, rows)
