use Rattle.std.proofs.Common.{◌≤◌, length, sym, subst, List}
use Rattle.texts.specs.Lines.{whole_lines}
use Rattle.plan_entries.specs.declared.listed.Listed.{Listed}
use Rattle.report_text.proofs.EntryReaders.{layers_few}
use Rattle.report_text.proofs.entries.plan_from.Goals as goal

pub answer_from-requires : goal.answer_from-requires
answer_from-requires c =
    subst (λ (l : List Listed). length l ≤ 8) (sym c.as_slice-variants.ensures) (layers_few c.in_ok-head.head.count (whole_lines c.in_ok-cert.rest.now) c.in_ok-layers.layers (whole_lines c.in_ok-layers.rest.now) c.in_ok-layers.ensures.read)
