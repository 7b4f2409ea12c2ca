use Rattle.std.proofs.Common.{◌≡◌, ◌-◌, length, ap, arith}
use Rattle.layer_planner.proofs.KnownLemmas.{strip-known}
use Rattle.layer_planner.proofs.StripLemmas.{strip-one}
use Rattle.layer_planner.proofs.bounds.or_strip.Goals as goal

pub returns-then-known-bound-clause-strip : goal.returns-then-known-bound-clause-strip
returns-then-known-bound-clause-strip c = λ n h.
    let f = strip-one c.args.reduced (length c.in_ok-strip.strip - 2) n c.in_ok-strip.ensures.greatest h in
    let e : length c.cuts.result.now ≡ length c.in_ok-strip.strip = ap length c.cuts.ensures in
    omega (arith, f, e, c.if-known-bound.true)

pub returns-clause-known : goal.returns-clause-known
returns-clause-known c =
    let s = c.in_ok-strip.ensures in
    strip-known c.args.given c.args.reduced c.in_ok-strip.strip (length c.cuts.result.now - 2) c.requires.same s.certificate s.accepted s.some
    (let e : length c.cuts.result.now ≡ length c.in_ok-strip.strip = ap length c.cuts.ensures in omega (arith, e))

pub returns-clause-strip : goal.returns-clause-strip
returns-clause-strip c = λ n h.
    let f = strip-one c.args.reduced (length c.in_ok-strip.strip - 2) n c.in_ok-strip.ensures.greatest h in
    let e : length c.cuts.result.now ≡ length c.in_ok-strip.strip = ap length c.cuts.ensures in
    omega (arith, f, e)
