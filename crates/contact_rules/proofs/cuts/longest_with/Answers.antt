use Rattle.std.proofs.Common.{◌≡◌, ◌≤◌, max, inl, inr, arith}
use Rattle.std.proofs.lemmas.Bool.{cases_lt}
use Rattle.contact_rules.proofs.cuts.longest_with.Goals as goal

pub returns-then-some_begins_from-clause-longest : goal.returns-then-some_begins_from-clause-longest
returns-then-some_begins_from-clause-longest c =
    let most = c.args.most in
    let r = c.run_at.result in
    let new = c.max.result in
    let e : new ≡ max most r = cc in
    let some = c.some_begins_from.ensures.0 c.if-some_begins_from.true in
    record {
      grows = omega arith;
      bound = λ starts row m run. let z : m ≤ r = c.run_at.ensures.bound row m run in omega arith;
      reached = elim (cases_lt most r) [
        | inl lt ↦ let z : new ≡ r = omega arith in rw z (inr (some, c.run_at.ensures.reached))
        | inr ge ↦ let z : new ≡ most = omega arith in inl z
      ];
    }
