use Rattle.std.proofs.Common.{◌<◌}
use Rattle.weightings.specs.Weighting.{IsCaseSide}
use Rattle.weightings.proofs.WeightSteps.{IsLeastOfWay-area, IsLeastOfWay-colour}
use Rattle.line_tables.specs.Lines.{weight_at}
use Rattle.weightings.proofs.LineLeast.{IsLeastOfWay-of}
use Rattle.weightings.proofs.kinds.Weighting.least_of_way.Goals as goal

pub returns-in-Area : goal.returns-in-Area
returns-in-Area c = rw (c.in-Area.is, c.from.ensures, c.from-in-Area.ensures) (IsLeastOfWay-area c.args.inst c.args.way c.requires.fits)

pub returns-in-Colour : goal.returns-in-Colour
returns-in-Colour c =
    let w = c.in-Colour in
    let m : IsCaseSide c.args.inst w.k × (w.c < w.k) = rw w.is at c.requires.member in
    rw (w.is, c.from-in-Colour.ensures) (IsLeastOfWay-colour c.args.inst c.args.way w.k w.c m.0 m.1 c.requires.fits)

pub returns-in-Lines : goal.returns-in-Lines
returns-in-Lines c =
    rw c.in-Lines.is (IsLeastOfWay-of c.args.inst (weight_at c.in-Lines.table) c.args.way c.least_of_way.result c.least_of_way.ensures)
