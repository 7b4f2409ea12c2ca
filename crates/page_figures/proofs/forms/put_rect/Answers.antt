use Rattle.std.proofs.Common.{sym}
use Rattle.page_figures.specs.Forms.{rect_text}
use Rattle.page_figures.proofs.forms.put_rect.Goals as goal

pub returns : goal.returns
unfolding rect_text
returns c =
    rw (sym c.across-wide.ensures) (rw (sym c.along-deep.ensures) (rw (sym c.upper_edge-y.ensures) (rw (sym c.way_name.ensures) c.in_ok-put_box.ensures)))
