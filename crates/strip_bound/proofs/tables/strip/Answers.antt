use Rattle.std.proofs.Common.{◌-◌, length, subst, sym}
use Rattle.strip_cuts.proofs.Bounds.{bound}
use Rattle.strip_bound.specs.Kept.{StandsFor}
use Rattle.strip_bound.proofs.Pairs.{IsShown, strip-is, kept-area}
use Rattle.strip_bound.proofs.tables.strip.Goals as goal

pub greatest_sum-n-requires-clause-area : goal.greatest_sum-n-requires-clause-area
greatest_sum-n-requires-clause-area c =
    let e = c.in_ok-cuts.ensures in
    kept-area c.args.inst e.0 c.as_slice-kept.result.now e.1 (subst (λ xs. StandsFor c.args.inst e.0 xs) (sym c.as_slice-kept.ensures.value) e.2)

shown : (c : goal.After-drop-cuts-2) → IsShown c.args.inst c.new.result
shown c =
    let e = c.in_ok-cuts.ensures in
    rw c.new.ensures
    (strip-is c.args.inst e.0 c.in_ok-cuts.cuts.items c.as_slice-kept.result.now c.in_ok-found.found.items c.greatest_sum-n.result e.1 e.2 c.as_slice-kept.ensures.value
    c.greatest_sum-n.ensures.bound c.in_ok-found.ensures)

pub returns-clause-certificate : goal.returns-clause-certificate
returns-clause-certificate c = (shown c).certificate

pub returns-clause-accepted : goal.returns-clause-accepted
returns-clause-accepted c = (shown c).accepted

pub returns-clause-bounds : goal.returns-clause-bounds
returns-clause-bounds c = bound c.args.inst (length c.new.result - 2) c.new.result (shown c).accepted

pub returns-clause-greatest : goal.returns-clause-greatest
returns-clause-greatest c = (shown c).greatest
