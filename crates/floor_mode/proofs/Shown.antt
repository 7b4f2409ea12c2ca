-- What was written shows in what the sink took.
use Rattle.std.proofs.Common.{◌≡◌, ◌<◌, ℕ, List, ◌++◌, length, ap, arith}
use Rattle.std.specs.Prelude.{Bool, true, false}
use Rattle.std.proofs.lemmas.List.{length-append}
use Rattle.plan_io.specs.Streams.{Outlet}
use Rattle.run_parts.specs.Written.{Wrote}
use Rattle.check_mode.specs.Verdicts.{line_of}
use Rattle.report_text.specs.Reports.{done_text}
use Rattle.floor_text.specs.declared.rows.FloorRow.{FloorRow}
use Rattle.floor_text.specs.Text.{head_text}
use Rattle.floor_mode.specs.declared.judging.RowJudgement.{RowJudgement}
use Rattle.floor_mode.specs.Judging.{total_said, row_judged}

-- a sink that took a text that begins with the first line is not as it was
pub head-shows : (rest : List ℕ) (to to' : Outlet) → Wrote to to' (head_text ++ rest) → to' ≡ to → ⊥
head-shows rest to to' wrote same =
    omega (arith, length-append to.taken (head_text ++ rest), length-append head_text rest, ap (λ p. length p.taken) wrote, ap (λ p. length p.taken) same)

some-said : (right : Bool) → 0 < length (total_said right)
some-said true = omega arith
some-said false = omega arith

some-judged : (r : FloorRow) (j : RowJudgement) → 0 < length (row_judged r j)
some-judged r j =
    omega (arith, some-said j.right, length-append (line_of r.floor j.floor) (line_of r.load j.load ++ total_said j.right), length-append (line_of r.load j.load) (total_said j.right))

-- the lines of a row show
pub row-shows : {K : Type 0} (past : K → Outlet) (a b : K) (r : FloorRow) (j : RowJudgement) → Wrote (past a) (past b) (row_judged r j) → past b ≡ past a → b ≡ a
row-shows past a b r j wrote same =
    absurd (omega (arith, some-judged r j, length-append (past a).taken (row_judged r j), ap (λ p. length p.taken) wrote, ap (λ p. length p.taken) same))

-- so does the last line
pub done-shows : (lines : List ℕ) (count : ℕ) (to to' : Outlet) → Wrote to to' (lines ++ done_text count) → to' ≡ to → ⊥
done-shows lines count to to' wrote same =
    omega (arith, length-append to.taken (lines ++ done_text count), length-append lines (done_text count), some-done count, ap (λ p. length p.taken) wrote, ap (λ p. length p.taken) same)
  where
    some-done : (n : ℕ) → 0 < length (done_text n)
    some-done n = omega arith
