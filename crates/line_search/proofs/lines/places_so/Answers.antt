use Rattle.plan_geometry.specs.declared.spots.Way.TheVariants.{Lying, Standing}
use Rattle.line_search.proofs.StartSteps.{starts-few}
use Rattle.line_search.proofs.lines.places_so.Goals as goal

pub returns-in-Lying-clause-few : goal.returns-in-Lying-clause-few
returns-in-Lying-clause-few c =
    rw c.as_slice.ensures.value (starts-few c.args.starts.now.axis c.args.starts.now.inst Lying _ c.requires.lying)

pub returns-in-Standing-clause-few : goal.returns-in-Standing-clause-few
returns-in-Standing-clause-few c =
    rw c.as_slice-in-Standing.ensures.value (starts-few c.args.starts.now.axis c.args.starts.now.inst Standing _ c.requires.standing)
