use Rattle.std.proofs.Common.{◌≡◌, ◌++◌, append_assoc}
use Rattle.std.specs.Prelude.{codes, decimal}
use Rattle.texts.specs.Lines.{text_of}
use Rattle.texts.proofs.Growth.{then_puts, puts_as}
use Rattle.listing_text.specs.Text.{stack_lines, answer_lines, answer_text}
use Rattle.listing_text.proofs.stack_puts.put_answer.Goals as goal

pub returns : goal.returns
unfolding answer_lines
returns c =
    let a = c.args in
    let rest = text_of (stack_lines a.stack.now) in
    let e0 : c.put_named.new.out.items ≡ a.out.now.items ++ (codes "allowed " ++ decimal a.allowed) = rw c.from.ensures at c.in_ok-put_named.ensures in
    let e1 : c.put_text.new.out.items ≡ c.put_named.new.out.items ++ codes "\n" = c.in_ok-put_text.ensures in
    let p = then_puts a.out.now.items c.put_named.new.out.items c.put_reply.new.out.items (codes "allowed " ++ decimal a.allowed) (codes "\n" ++ rest) c.put_reply.result e0
    (then_puts c.put_named.new.out.items c.put_text.new.out.items c.put_reply.new.out.items (codes "\n") rest c.put_reply.result e1 c.put_reply.ensures) in
    puts_as a.out.now.items c.put_reply.new.out.items ((codes "allowed " ++ decimal a.allowed) ++ (codes "\n" ++ rest)) (answer_text (a.allowed, a.stack.now)) c.put_reply.result p (simp append_assoc)
