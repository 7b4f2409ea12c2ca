use Rattle.dual_search.proofs.Least.{lying-least, standing-least, lying-only, standing-only, some-position}
use Rattle.dual_search.proofs.positions.lightest_of_all.Goals as goal

pub unreachable-requires : goal.unreachable-requires
unreachable-requires c = some-position c.args.inst c.requires.fits c.in-None.ensures.none c.in-None-lightest_of_way-2.ensures.none

pub returns-then-other-one : goal.returns-then-other-one
returns-then-other-one c = λ g lying standing.
    standing-least c.args.inst g c.in-Some.one c.in-Some-lightest_of_way.other (c.in-Some.ensures.least g lying)
    (c.in-Some-lightest_of_way.ensures.least g standing) c.if-other-one.true

pub returns-else-other-one : goal.returns-else-other-one
returns-else-other-one c = λ g lying standing.
    lying-least c.args.inst g c.in-Some.one c.in-Some-lightest_of_way.other (c.in-Some.ensures.least g lying)
    (c.in-Some-lightest_of_way.ensures.least g standing) c.if-other-one.false

pub returns-in-None-lightest_of_way : goal.returns-in-None-lightest_of_way
returns-in-None-lightest_of_way c = λ g lying standing.
    lying-only c.args.inst g c.in-Some.one (c.in-Some.ensures.least g lying) c.in-None-lightest_of_way.ensures.none

pub returns-in-Some-lightest_of_way-2 : goal.returns-in-Some-lightest_of_way-2
returns-in-Some-lightest_of_way-2 c = λ g lying standing.
    standing-only c.args.inst g c.in-Some-lightest_of_way-2.other (c.in-Some-lightest_of_way-2.ensures.least g standing) c.in-None.ensures.none
