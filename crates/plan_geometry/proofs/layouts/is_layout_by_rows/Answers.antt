use Rattle.std.proofs.Common.{arith, sym, ◌∙◌}
use Rattle.std.proofs.lemmas.Bool.{false≢true}
use Rattle.plan_geometry.proofs.LayoutSteps.{IsLayout-more, FitsAt-layout, AreFarFrom, near-apart, near-far-apart, far-more}
use Rattle.plan_geometry.proofs.layouts.is_layout_by_rows.Goals as goal

pub returns-then-not-fits_among : goal.returns-then-not-fits_among
returns-then-not-fits_among c = (
  λ e. absurd (false≢true e),
  λ h.
      let f = FitsAt-layout c.args.inst c.args.spots.now c.loop-i.i _ c.loop-i-test.true h in
      let near = near-apart c.args.inst c.args.spots.now c.first_near-first.result c.loop-i.i _ c.first_near-first.ensures.most (omega (arith, c.loop-i-test.true)) f.apart in
      sym c.if-not-fits_among.true ∙ c.fits_among.ensures.1 (f.inside, (f.lawful, near)),
)

pub loop-i-preserved : goal.loop-i-preserved
loop-i-preserved c =
    let xs = c.args.spots.now in
    let i = c.loop-i.i in
    let e = c.first_near-first.ensures in
    let f = c.fits_among.ensures.0 c.if-not-fits_among.false in
    let far : AreFarFrom c.args.inst xs c.first_near-first.result i =
    far-more c.args.inst xs c.loop-i.first c.first_near-first.result i c.requires.rows c.loop-i.invariant.1.1 e.far in
    let all = near-far-apart c.args.inst xs c.first_near-first.result i _ e.most c.loop-i-test.true far f.1.1 in (
      omega (arith, e.most),
      (
        IsLayout-more c.args.inst xs i _ c.loop-i-test.true c.loop-i.invariant.1.0 f.0 f.1.0 all,
        λ k j d p q lt. far k j d p (omega (arith, q)) lt,
      ),
    )
