use Rattle.std.proofs.Common.{◌∙◌, sym, ap, subst, ℕ, List}
use Rattle.texts.specs.Puts.{Puts}
use Rattle.cert_text.specs.Text.{cert_text, cert_lines}
use Rattle.cert_text.proofs.Pieces.{weighted_text, strip_text}
use Rattle.cert_text.proofs.puts.put_all.Goals as goal

pub returns-in-GivenArea : goal.returns-in-GivenArea
unfolding cert_lines
returns-in-GivenArea c = rw c.in-GivenArea.is c.put_text.ensures

pub returns-in-Weighted : goal.returns-in-Weighted
returns-in-Weighted c = subst (λ (t : List ℕ). Puts c.args.out.now.items c.put_weighted.new.out.items t c.put_weighted.result) (weighted_text _ _ ∙ ap cert_text (sym c.in-Weighted.is)) (rw c.as_slice.ensures at c.put_weighted.ensures)

pub returns-in-Strip : goal.returns-in-Strip
returns-in-Strip c = subst (λ (t : List ℕ). Puts c.args.out.now.items c.put_strip.new.out.items t c.put_strip.result) (strip_text _ ∙ ap cert_text (sym c.in-Strip.is)) (rw c.cuts.ensures at c.put_strip.ensures)
