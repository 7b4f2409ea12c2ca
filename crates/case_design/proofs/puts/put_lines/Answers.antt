use Rattle.std.proofs.Common.{◌≡◌, ◌++◌, map, sym}
use Rattle.std.proofs.lemmas.List.Concat.{flat_map-cons}
use Rattle.texts.specs.Lines.{ended, spaced, text_of}
use Rattle.texts.specs.Puts.{Puts}
use Rattle.texts.proofs.Growth.{then_puts, puts_as}
use Rattle.case_design.specs.Text.{best_words, rival_line, best_lines, best_text}
use Rattle.case_design.proofs.puts.put_lines.Goals as goal

pub returns : goal.returns
unfolding best_lines
returns c =
    let out = c.args.out.now.items in
    let best = c.args.best.now.best in
    let rivals = c.args.best.now.rivals.items in
    let first = spaced (best_words best) in
    let e0 : c.put_best_line.new.out.items ≡ out ++ ended first = c.in_ok-put_best_line.ensures in
    let e1 : Puts c.put_best_line.new.out.items c.put_rivals.new.out.items (text_of (map rival_line rivals)) c.put_rivals.result = rw c.deref.ensures.value at c.put_rivals.ensures in
    puts_as out c.put_rivals.new.out.items (ended first ++ text_of (map rival_line rivals)) (best_text best rivals) c.put_rivals.result
    (then_puts out c.put_best_line.new.out.items c.put_rivals.new.out.items (ended first) (text_of (map rival_line rivals)) c.put_rivals.result e0 e1)
    (sym (flat_map-cons ended first (map rival_line rivals)))
