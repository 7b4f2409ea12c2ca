use Rattle.std.proofs.Common.{◌≡◌, ◌++◌, map, sym}
use Rattle.std.proofs.lemmas.List.Concat.{flat_map-cons}
use Rattle.texts.specs.Lines.{ended, spaced, text_of}
use Rattle.texts.specs.Puts.{Puts}
use Rattle.texts.proofs.Growth.{then_puts, puts_as}
use Rattle.pallet_choice.specs.Text.{chosen_words, rival_line, tail_lines, tail_text, told_by}
use Rattle.pallet_choice.proofs.puts.put_all.Goals as goal

pub returns : goal.returns
unfolding tail_lines
returns c =
    let a = c.args in
    let t = told_by a.choice.now in
    let first = spaced (chosen_words t.chosen) in
    let e0 : c.put_chosen.new.out.items ≡ a.out.now.items ++ ended first = c.in_ok-put_chosen.ensures in
    let e1 : Puts c.put_chosen.new.out.items c.put_rivals.new.out.items (text_of (map rival_line t.rivals)) c.put_rivals.result = rw c.deref.ensures.value at c.put_rivals.ensures in
    puts_as a.out.now.items c.put_rivals.new.out.items (ended first ++ text_of (map rival_line t.rivals)) (tail_text t) c.put_rivals.result
    (then_puts a.out.now.items c.put_chosen.new.out.items c.put_rivals.new.out.items (ended first) (text_of (map rival_line t.rivals)) c.put_rivals.result e0 e1)
    (sym (flat_map-cons ended first (map rival_line t.rivals)))
