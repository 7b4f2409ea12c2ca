use Rattle.page_figures.proofs.Rectangles.{tells}
use Rattle.page_figures.proofs.laws.rectangles_tell_cases.Goals as goal

pub returns : goal.returns
returns c = tells
