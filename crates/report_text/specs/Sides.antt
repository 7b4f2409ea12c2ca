-- The instance of four numbers, where they are those of one.
use Rattle.std.specs.Prelude.{ℕ, ◌≡◌, nat_le, Bool, true, false, ◌&&◌, Option, Some, None}
use Rattle.std.proofs.Common.{refl, leb}
use Rattle.std.proofs.lemmas.Bool.{leb-true}
use Rattle.texts.proofs.Parsers.{both_true}
use Rattle.plan_geometry.specs.Sides.{AreSides}
use Rattle.plan_geometry.specs.declared.instances.Inst.{Inst}

-- each number from 1 to 4,000, and the short side no longer than the long one
abbrev pub are_sides : ℕ → ℕ → ℕ → ℕ → Bool
are_sides l_side w_side long short =
    nat_le 1 short && (nat_le short long && (nat_le long 4000 && (nat_le 1 l_side && (nat_le l_side 4000 && (nat_le 1 w_side && nat_le w_side 4000)))))

pub sides_hold : (l_side w_side long short : ℕ) → are_sides l_side w_side long short ≡ true → AreSides l_side w_side long short
sides_hold l_side w_side long short passed =
    let a = both_true (leb 1 short) _ passed in
    let b = both_true (leb short long) _ a.1 in
    let c = both_true (leb long 4000) _ b.1 in
    let d = both_true (leb 1 l_side) _ c.1 in
    let e = both_true (leb l_side 4000) _ d.1 in
    let f = both_true (leb 1 w_side) (leb w_side 4000) e.1 in
    record {
      short_min = leb-true 1 short a.0;
      ordered = leb-true short long b.0;
      long_max = leb-true long 4000 c.0;
      l_min = leb-true 1 l_side d.0;
      l_max = leb-true l_side 4000 e.0;
      w_min = leb-true 1 w_side f.0;
      w_max = leb-true w_side 4000 f.1;
    }

-- the instance, where the test is passed
abbrev pub inst_by : (l_side w_side long short : ℕ) (passed : Bool) → (passed ≡ true → AreSides l_side w_side long short) → Option Inst
inst_by l_side w_side long short true sides = Some (record { l_side = l_side; w_side = w_side; long = long; short = short; sides = sides refl })
inst_by l_side w_side long short false sides = None

unfoldable pub inst_of : ℕ → ℕ → ℕ → ℕ → Option Inst
inst_of l_side w_side long short = inst_by l_side w_side long short (are_sides l_side w_side long short) (sides_hold l_side w_side long short)
