use Rattle.std.proofs.Common.{◌≡◌, ◌++◌, length, append_assoc}
use Rattle.std.specs.Prelude.{codes, decimal}
use Rattle.texts.specs.Lines.{text_of}
use Rattle.texts.specs.Puts.{Puts}
use Rattle.texts.proofs.Growth.{then_puts, puts_as}
use Rattle.listing_text.specs.Text.{listed_lines, layers_lines, layers_text}
use Rattle.listing_text.proofs.layer_puts.put_layers.Goals as goal

pub returns : goal.returns
unfolding layers_lines
returns c =
    let a = c.args in
    let ls = a.layers.now in
    let e0 : c.put_named.new.out.items ≡ a.out.now.items ++ (codes "layers " ++ decimal (length ls)) = rw c.as_slice-layers.ensures at c.in_ok-put_named.ensures in
    let e1 : c.put_text.new.out.items ≡ c.put_named.new.out.items ++ codes "\n" = c.in_ok-put_text.ensures in
    let e2 : Puts c.put_text.new.out.items c.put_listed.new.out.items (text_of (listed_lines 1 ls)) c.put_listed.result = rw c.as_slice-layers.ensures at c.put_listed.ensures in
    let p = then_puts a.out.now.items c.put_named.new.out.items c.put_listed.new.out.items (codes "layers " ++ decimal (length ls)) (codes "\n" ++ text_of (listed_lines 1 ls)) c.put_listed.result e0
    (then_puts c.put_named.new.out.items c.put_text.new.out.items c.put_listed.new.out.items (codes "\n") (text_of (listed_lines 1 ls)) c.put_listed.result e1 e2) in
    puts_as a.out.now.items c.put_listed.new.out.items ((codes "layers " ++ decimal (length ls)) ++ (codes "\n" ++ text_of (listed_lines 1 ls))) (layers_text ls) c.put_listed.result p (simp append_assoc)
