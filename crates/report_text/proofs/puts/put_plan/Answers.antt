use Rattle.std.proofs.Common.{◌++◌, ◌∷◌}
use Rattle.std.specs.Prelude.{codes}
use Rattle.texts.specs.Lines.{ended, spaced, text_of}
use Rattle.texts.proofs.Growth.{then_puts, puts_as}
use Rattle.cert_text.specs.Text.{cert_lines, cert_text}
use Rattle.cert_text.specs.declared.forms.Form.TheVariants.{Two}
use Rattle.listing_text.specs.Text.{layers_lines, answer_lines, layers_text, answer_text}
use Rattle.report_text.specs.LineTexts.{number_words}
use Rattle.report_text.specs.Text.{front_lines, plan_lines}
use Rattle.report_text.proofs.EntryPieces.{plan_text}
use Rattle.report_text.proofs.puts.put_plan.Goals as goal

pub returns : goal.returns
returns c =
    let p = c.args.plan.now in
    let r = c.put_plan_tail.result in
    puts_as c.args.out.now.items c.put_plan_tail.new.out.items (ended (spaced (number_words p.number)) ++ (text_of (front_lines Two p) ++ (cert_text p.cert ++ (layers_text p.layers ++ (answer_text (p.allowed, p.stack) ++ codes "end\n"))))) (text_of (spaced (number_words p.number) ∷ plan_lines Two p)) r
    (then_puts c.args.out.now.items c.put_number.new.out.items c.put_plan_tail.new.out.items (ended (spaced (number_words p.number))) (text_of (front_lines Two p) ++ (cert_text p.cert ++ (layers_text p.layers ++ (answer_text (p.allowed, p.stack) ++ codes "end\n")))) r c.in_ok-put_number.ensures
    (then_puts c.put_number.new.out.items c.put_plan_head.new.out.items c.put_plan_tail.new.out.items (text_of (front_lines Two p)) (cert_text p.cert ++ (layers_text p.layers ++ (answer_text (p.allowed, p.stack) ++ codes "end\n"))) r c.in_ok-put_plan_head.ensures c.put_plan_tail.ensures))
    (plan_text (spaced (number_words p.number)) (front_lines Two p) (cert_lines p.cert) (layers_lines p.layers) (answer_lines (p.allowed, p.stack)))
