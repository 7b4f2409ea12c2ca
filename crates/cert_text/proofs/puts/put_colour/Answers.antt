use Rattle.std.proofs.Common.{◌≡◌, ◌++◌, append_assoc}
use Rattle.std.specs.Prelude.{codes, decimal}
use Rattle.texts.specs.Lines.{ended, spaced}
use Rattle.texts.specs.Puts.{Puts}
use Rattle.texts.proofs.Growth.{then_puts, puts_as}
use Rattle.weightings.specs.declared.kinds.Weighting.TheVariants as weightings
use Rattle.cert_text.specs.Text.{weighting_words}
use Rattle.cert_text.proofs.puts.put_colour.Goals as goal

pub returns : goal.returns
returns c =
    let a = c.args in
    let e0 : c.put_named.new.out.items ≡ a.out.now.items ++ (codes "weighting colour " ++ decimal a.k) = rw c.from.ensures at c.in_ok-put_named.ensures in
    let e1 : c.put_named-2.new.out.items ≡ c.put_named.new.out.items ++ (codes " " ++ decimal a.c) = rw c.from-2.ensures at c.in_ok-put_named-2.ensures in
    let p : Puts a.out.now.items c.put_text.new.out.items ((codes "weighting colour " ++ decimal a.k) ++ ((codes " " ++ decimal a.c) ++ (codes "\n"))) c.put_text.result = then_puts (a.out.now.items) (c.put_named.new.out.items) (c.put_text.new.out.items) (codes "weighting colour " ++ decimal a.k) ((codes " " ++ decimal a.c) ++ (codes "\n")) c.put_text.result e0 (then_puts (c.put_named.new.out.items) (c.put_named-2.new.out.items) (c.put_text.new.out.items) (codes " " ++ decimal a.c) (codes "\n") c.put_text.result e1 (c.put_text.ensures)) in
    puts_as a.out.now.items c.put_text.new.out.items ((codes "weighting colour " ++ decimal a.k) ++ ((codes " " ++ decimal a.c) ++ (codes "\n"))) (ended (spaced (weighting_words (weightings.Colour a.k a.c)))) c.put_text.result p (simp append_assoc)
