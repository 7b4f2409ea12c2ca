-- The weights of all positions of a way, kept while the cells change.
use Rattle.std.proofs.Common.{◌≡◌, ℕ, zero, suc, ◌+◌, ◌*◌, ◌/◌, ◌%◌, ◌<◌, inl, inr, List, length, get_or, set, replicate, arith, sym, ◌∙◌, refl}
use Rattle.std.proofs.lemmas.List.{length-replicate}
use Rattle.std.proofs.lemmas.Nat.{div-add-mod', mod_below}
use Rattle.plan_geometry.specs.declared.spots.Axis.TheVariants.{X, Y}
use Rattle.plan_geometry.specs.declared.spots.Way.{Way}
use Rattle.plan_geometry.specs.declared.instances.Inst.{Inst}
use Rattle.plan_geometry.specs.Layout.{x_extent, y_extent}
use Rattle.plan_geometry.specs.Weight.{sum_below, block_weight, total_weight}
use Rattle.plan_geometry.proofs.Counting.{sum_below-none}
use Rattle.plan_geometry.proofs.GridSteps.{factor-some, row-lt}
use Rattle.weightings.specs.Table.{cell_in}
use Rattle.dual_search.specs.declared.positions.Window.{Window}
use Rattle.dual_search.specs.Raising.{Raises, IsInBlock}
use Rattle.dual_search.specs.Positions.{places, IsWindow, HoldWeights}
use Rattle.dual_search.proofs.Cells.{IsCell, block-more, block-same, cases_block}

abbrev pub zeros : ℕ → List ℕ
zeros n = replicate n 0

pub zeros-at : (n k : ℕ) → get_or (zeros n) k 0 ≡ 0
zeros-at zero k = refl
zeros-at (suc n) zero = refl
zeros-at (suc n) (suc k) = zeros-at n k

pub zeros-block : (L n x y a b : ℕ) → block_weight (cell_in L (zeros n)) x y a b ≡ 0
zeros-block L n x y a b =
    sum_below-none a (λ i. sum_below b (λ j. cell_in L (zeros n) (x + i) (y + j)))
    (λ i p. sum_below-none b (λ j. cell_in L (zeros n) (x + i) (y + j)) (λ j q. zeros-at n ((y + j) * L + (x + i))))

pub zeros-total : (I : Inst) (n : ℕ) → total_weight (cell_in I.l_side (zeros n)) I ≡ 0
zeros-total I n =
    sum_below-none I.l_side (λ i. sum_below I.w_side (λ j. cell_in I.l_side (zeros n) i j))
    (λ i p. sum_below-none I.w_side (λ j. cell_in I.l_side (zeros n) i j) (λ j q. zeros-at n (j * I.l_side + i)))

pub held-start : (I : Inst) (way : Way) (n : ℕ) → HoldWeights I way (cell_in I.l_side (zeros n)) (zeros (places X I way * places Y I way))
held-start I way n = record {
  count = length-replicate (places X I way * places Y I way) 0;
  at = λ x y p q. zeros-at (places X I way * places Y I way) (y * places X I way + x) ∙ sym (zeros-block I.l_side n x y (x_extent I way) (y_extent I way));
}

-- the cell at a place
pub cell-at : (I : Inst) (n : ℕ) → n < I.l_side * I.w_side → IsCell I.l_side n (n % I.l_side) (n / I.l_side) × (n / I.l_side < I.w_side)
cell-at I n lt = (record { column = mod_below n I.l_side (factor-some n I.l_side I.w_side lt); place = div-add-mod' n I.l_side }, row-lt n I.l_side I.w_side lt)

pub held-raised :
    (I : Inst) (way : Way) (n c r : ℕ) (across along : Window) (cells old new : List ℕ)
    → IsCell I.l_side n c r
    → n < length cells
    → IsWindow X I way c across
    → IsWindow Y I way r along
    → Raises (places X I way) (IsInBlock across.from along.from across.count along.count) old new
    → HoldWeights I way (cell_in I.l_side cells) old
    → HoldWeights I way (cell_in I.l_side (set cells n (get_or cells n 0 + 1))) new
held-raised I way n c r across along cells old new is lt in_x in_y raised held = record {
  count = raised.count ∙ held.count;
  at = λ x y p q. elim (cases_block across.from along.from across.count along.count x y) [
    | inl within ↦
        let over_x = (in_x x p).0 (within.0, within.1) in
        let over_y = (in_y y q).0 (within.2, within.3) in
        let more = block-more I.l_side n c r cells x y (x_extent I way) (y_extent I way) is lt (omega (arith, p)) (over_x.0, over_x.1, over_y.0, over_y.1) in
        omega (arith, raised.more x y p within, held.at x y p q, more)
    | inr out ↦
        let same = block-same I.l_side n c r cells (get_or cells n 0 + 1) x y (x_extent I way) (y_extent I way) is (omega (arith, p))
        (λ over.
        let within_x = (in_x x p).1 (over.0, over.1) in
        let within_y = (in_y y q).1 (over.2, over.3) in
        out (within_x.0, within_x.1, within_y.0, within_y.1)) in
        omega (arith, raised.same x y p out, held.at x y p q, same)
  ];
}
