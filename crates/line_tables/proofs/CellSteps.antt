-- What single cells weigh.
use Rattle.std.proofs.Common.{◌≡◌, ℕ, ◌+◌, ◌-◌, ◌*◌, ◌<◌, List, length, get_or, Option, Some, None, ap, ◌∙◌, refl, inl, inr, arith}
use Rattle.std.specs.List.{Contains}
use Rattle.std.proofs.lemmas.List.{get_or_default}
use Rattle.line_tables.specs.Lines.{crossing, from_end, half, line_at, on_line}
use Rattle.line_tables.specs.Laws.{CellsWeighTheirCrossings, OtherCellsWeighNothing, BothEndsWeighTheSame}
use Rattle.line_tables.proofs.LineSteps.{line_at-some, line_at-none, on_line-same}

pub cell-crossing : CellsWeighTheirCrossings
cell-crossing t h i j p q =
    let y = get_or t.rows j 0 in
    let column = line_at-some t.columns (get_or t.columns i 0) i h.columns.rising p refl in
    let row = line_at-some t.rows y j h.rows.rising q refl in
    ap (λ o. on_line o (λ k. on_line (line_at t.rows y) (λ m. crossing t k m))) column ∙ ap (λ o. on_line o (λ m. crossing t i m)) row

line_at-absent : (lines : List ℕ) (v : ℕ) → ¬ Contains lines v → line_at lines v ≡ None
line_at-absent lines v absent = line_at-none lines v (λ k p e. absent (k, p, get_or_default lines k v 0 p ∙ e))

on_line-zero : (o : Option ℕ) → on_line o (λ k. 0) ≡ 0
on_line-zero None = refl
on_line-zero (Some k) = refl

pub cell-other : OtherCellsWeighNothing
cell-other t x y (inl absent) =
    ap (λ o. on_line o (λ k. on_line (line_at t.rows y) (λ m. crossing t k m))) (line_at-absent t.columns x absent)
cell-other t x y (inr absent) =
    on_line-same (line_at t.columns x) (λ k. on_line (line_at t.rows y) (λ m. crossing t k m)) (λ k. 0) (λ k. ap (λ o. on_line o (λ m. crossing t k m)) (line_at-absent t.rows y absent)) ∙ on_line-zero (line_at t.columns x)

from_end-turned : (n k : ℕ) → k < n → from_end n (n - 1 - k) ≡ from_end n k
from_end-turned n k p = omega arith

pub crossing-ends : BothEndsWeighTheSame
crossing-ends t i j p q =
    let across : ℕ = half (length t.columns) in
    (ap (λ n. get_or t.quarter (from_end (length t.rows) j * across + n) 0) (from_end-turned (length t.columns) i p), ap (λ n. get_or t.quarter (n * across + from_end (length t.columns) i) 0) (from_end-turned (length t.rows) j q))
