use Rattle.std.proofs.Common.{◌++◌}
use Rattle.std.specs.Prelude.{codes}
use Rattle.texts.proofs.Growth.{then_puts}
use Rattle.cert_text.specs.Text.{cert_text}
use Rattle.cert_text.specs.declared.forms.Form.TheVariants.{Two}
use Rattle.listing_text.specs.Text.{layers_text, answer_text}
use Rattle.listing_text.proofs.LayerReaders.{few_layers}
use Rattle.report_text.proofs.EntryReaders.{plan_parts}
use Rattle.report_text.proofs.puts.put_plan_tail.Goals as goal

pub put_certificate-requires : goal.put_certificate-requires
put_certificate-requires c = (plan_parts Two c.args.plan.now c.requires).cert

pub put_layers-requires : goal.put_layers-requires
put_layers-requires c = few_layers c.args.plan.now.count c.args.plan.now.layers (plan_parts Two c.args.plan.now c.requires).layers

pub returns : goal.returns
returns c =
    let p = c.args.plan.now in
    then_puts c.args.out.now.items c.put_certificate.new.out.items c.put_text.new.out.items (cert_text p.cert) (layers_text p.layers ++ (answer_text (p.allowed, p.stack) ++ codes "end\n")) c.put_text.result c.in_ok-put_certificate.ensures
    (then_puts c.put_certificate.new.out.items c.put_layers.new.out.items c.put_text.new.out.items (layers_text p.layers) (answer_text (p.allowed, p.stack) ++ codes "end\n") c.put_text.result c.in_ok-put_layers.ensures
    (then_puts c.put_layers.new.out.items c.put_answer.new.out.items c.put_text.new.out.items (answer_text (p.allowed, p.stack)) (codes "end\n") c.put_text.result c.in_ok-put_answer.ensures c.put_text.ensures))
