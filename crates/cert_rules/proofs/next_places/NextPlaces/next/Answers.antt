use Rattle.std.proofs.Common.{◌≡◌, ◌≤◌, ◌<◌, ◌+◌, length, get_or, ap, arith}
use Rattle.std.proofs.lemmas.List.{get_or_read}
use Rattle.cert_rules.specs.Next.{next}
use Rattle.cert_rules.specs.Tables.{SideOf}
use Rattle.cert_rules.proofs.NextPoint.{next-from}
use Rattle.cert_rules.proofs.next_places.NextPlaces.next.Goals as goal

pub returns-clause-from : goal.returns-clause-from
returns-clause-from c =
    let s = c.self.inside in
    let same : s.side ≡ c.args.self.now.side = ap (λ (p : SideOf). p.side) c.self.view_is in
    let count : length s.places.items ≡ s.side + 1 = c.self.invariant.count in
    let le : c.args.place ≤ c.args.self.now.side = c.requires in
    let lt : c.args.place < length s.places.items = omega arith in
    let read : c.index.result.now ≡ get_or s.places.items c.args.place 0 = get_or_read s.places.items c.args.place c.index.result.now lt c.index.ensures 0 in
    let is : get_or s.places.items c.args.place 0 ≡ next s.inst s.side c.args.place = c.self.invariant.each c.args.place lt in
    let from : c.args.place ≤ next s.inst s.side c.args.place = next-from s.inst s.side c.args.place (omega arith) in
    omega arith
