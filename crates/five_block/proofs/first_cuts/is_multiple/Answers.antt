use Rattle.std.proofs.Common.{arith, ◌≡◌, ◌%◌, ◌/◌, ap, ◌∙◌}
use Rattle.std.proofs.lemmas.Bool.{eqb-true, eq-eqb}
use Rattle.std.proofs.Math.Nat.{mul-mod_left, div-add-mod'}
use Rattle.five_block.proofs.first_cuts.is_multiple.Goals as goal

pub returns : goal.returns
returns c =
    let x = c.args.x in
    let n = c.args.step in (
      λ h. (let e : x % n ≡ 0 = eqb-true (x % n) 0 h in (x / n, omega (arith, div-add-mod' x n))),
      λ h. eq-eqb (x % n) 0 (ap (λ z. z % n) h.1 ∙ mul-mod_left h.0 n),
    )
