use Rattle.std.proofs.lemmas.Result.{IfOk-weaker}
use Rattle.partitions.proofs.SameSides.{still_fits}
use Rattle.bound_checker.proofs.Soundness.{given_bound, weighted_bounds}
use Rattle.bound_checker.proofs.checks.check_bound.Goals as goal

pub accepts_weighted-requires-clause-fits : goal.accepts_weighted-requires-clause-fits
accepts_weighted-requires-clause-fits c =
    still_fits c.args.given c.args.reduced (c.same_sides.ensures.0 c.if-not-same_sides.false) c.requires.fits

pub returns-in-Weighted-clause-bounds : goal.returns-in-Weighted-clause-bounds
returns-in-Weighted-clause-bounds c =
    IfOk-weaker c.accepts_weighted.result _ _
    (λ b e t.
    given_bound c.args.given c.args.reduced c.args.n (c.same_sides.ensures.0 c.if-not-same_sides.false)
    (weighted_bounds c.args.reduced _ c.args.n _ (e.0 t)))
    c.accepts_weighted.ensures

pub returns-in-Strip-clause-bounds : goal.returns-in-Strip-clause-bounds
returns-in-Strip-clause-bounds c =
    λ t.
    given_bound c.args.given c.args.reduced c.args.n (c.same_sides.ensures.0 c.if-not-same_sides.false) (c.accepts_strip.ensures.bounds t)
