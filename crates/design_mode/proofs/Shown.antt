-- What was written shows in what the sink took.
use Rattle.std.proofs.Common.{◌≡◌, ◌<◌, ℕ, List, ◌++◌, length, ap, arith}
use Rattle.std.proofs.lemmas.List.{length-append}
use Rattle.plan_io.specs.Streams.{Outlet}
use Rattle.run_parts.specs.Written.{Wrote}
use Rattle.case_design.specs.declared.designs.Design.{Design}
use Rattle.case_design.specs.declared.designs.Design.TheVariants.{Nothing, Refused, Rows}
use Rattle.case_design.specs.Text.{head_text}

some-head : (design : Design) → 0 < length (head_text design)
some-head Nothing = omega arith
some-head (Refused fault) = omega arith
some-head (Rows id rows) = omega arith

-- a sink that took a text that begins with a head is not as it was
pub head-shows : (design : Design) (rest : List ℕ) (to to' : Outlet) → Wrote to to' (head_text design ++ rest) → to' ≡ to → ⊥
head-shows design rest to to' wrote same =
    omega (
      arith,
      some-head design,
      length-append to.taken (head_text design ++ rest),
      length-append (head_text design) rest,
      ap (λ p. length p.taken) wrote,
      ap (λ p. length p.taken) same,
    )
