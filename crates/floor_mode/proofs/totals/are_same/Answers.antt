use Rattle.std.proofs.Common.{◌≡◌, true, rules}
use Rattle.floor_mode.proofs.totals.are_same.Goals as goal

pub returns : goal.returns
returns c =
    let same : c.eq.result ≡ true → c.args.a.now ≡ c.args.b.now = search rules in
    let back : c.args.a.now ≡ c.args.b.now → c.eq.result ≡ true = λ is. search (rules, is, c.eq.ensures) in
    (same, back)
