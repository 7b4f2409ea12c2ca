-- What was written shows in what the sink took.
use Rattle.std.proofs.Common.{◌≡◌, ◌<◌, ℕ, List, ◌++◌, length, ap, arith}
use Rattle.std.specs.Prelude.{Bool, true, false}
use Rattle.std.proofs.lemmas.List.{length-append}
use Rattle.plan_io.specs.Streams.{Outlet}
use Rattle.run_parts.specs.Written.{Wrote}
use Rattle.choice_text.specs.Text.{head_text}
use Rattle.choice_mode.specs.Judging.{choice_line}

-- a sink that took a text that begins with the first line is not as it was
pub head-shows : (rest : List ℕ) (to to' : Outlet) → Wrote to to' (head_text ++ rest) → to' ≡ to → ⊥
head-shows rest to to' wrote same =
    omega (arith, length-append to.taken (head_text ++ rest), length-append head_text rest, ap (λ p. length p.taken) wrote, ap (λ p. length p.taken) same)

some-line : (right : Bool) → 0 < length (choice_line right)
some-line true = omega arith
some-line false = omega arith

-- nor is one that took the line that says whether a choice is right
pub end-shows : (lines rest : List ℕ) (right : Bool) (to to' : Outlet) → Wrote to to' (lines ++ (choice_line right ++ rest)) → to' ≡ to → ⊥
end-shows lines rest right to to' wrote same =
    omega (
      arith,
      some-line right,
      length-append to.taken (lines ++ (choice_line right ++ rest)),
      length-append lines (choice_line right ++ rest),
      length-append (choice_line right) rest,
      ap (λ p. length p.taken) wrote,
      ap (λ p. length p.taken) same,
    )
