-- A row of cells as it is put, and rows behind one another.
use Rattle.std.proofs.Common.{◌≡◌, ℕ, suc, ◌+◌, ◌*◌, ◌<◌, List, ◌++◌, length, map, take, drop, sym, ap, ◌∙◌, append_assoc, arith}
use Rattle.std.specs.List.{range_with_len}
use Rattle.std.proofs.lemmas.List.{ext_get_or, length-take, length-drop, get_or-take, get_or-drop}
use Rattle.std.proofs.lemmas.List.Concat.{flat_map-cons}
use Rattle.std.proofs.lemmas.List.FromFn.{get_or-map-range_with_len, length-map-range_with_len}
use Rattle.texts.specs.Lines.{ended, text_of}
use Rattle.texts.specs.Puts.{Grows}
use Rattle.plan_geometry.specs.declared.spots.Spot.{Spot}
use Rattle.plan_geometry.specs.declared.instances.Inst.{Inst}
use Rattle.layer_drawing.specs.Drawing.{cell_character, row_of, rows_below}
use Rattle.layer_drawing.specs.Cells.{IsDrawn}
use Rattle.layer_drawing.proofs.Painting.{run_within}

pub row_is : (I : Inst) (spots : List Spot) (cells : List ℕ) (y : ℕ) → IsDrawn I spots cells → y < I.w_side → take I.l_side (drop (y * I.l_side) cells) ≡ row_of I spots y
row_is I spots cells y drawn within =
    let w = I.l_side in
    let f : ℕ → ℕ = λ x. cell_character I spots x y in
    let all = drawn.all in
    let room = run_within w I.w_side y w within (omega arith) in
    let long : length (take w (drop (y * w) cells)) ≡ w = omega (arith, length-take w (drop (y * w) cells), length-drop (y * w) cells) in
    ext_get_or 0 (take w (drop (y * w) cells)) (map f (range_with_len 0 w)) (long ∙ sym (length-map-range_with_len f 0 w))
    (λ i lt.
    let here : i < w = omega arith in
    let zero_on : 0 + i ≡ i = omega arith in
    get_or-take w (drop (y * w) cells) i 0 here ∙ get_or-drop (y * w) cells i 0 ∙ drawn.each i y here within ∙ sym (get_or-map-range_with_len f 0 w i i 0 here zero_on))

-- what was put before, and what is still to be put
pub row_less : (out new : List ℕ) (I : Inst) (spots : List Spot) (y : ℕ) (whole : List ℕ) → out ++ text_of (rows_below I spots (suc y)) ≡ whole → new ≡ out ++ ended (row_of I spots y) → new ++ text_of (rows_below I spots y) ≡ whole
row_less out new I spots y whole before now =
    ap (λ (t : List ℕ). t ++ text_of (rows_below I spots y)) now ∙ append_assoc out (ended (row_of I spots y)) (text_of (rows_below I spots y))
    ∙ ap (λ (t : List ℕ). out ++ t) (sym (flat_map-cons ended (row_of I spots y) (rows_below I spots y))) ∙ before

-- a text that grew, and grew once more
pub grows_on : (start out new more : List ℕ) → Grows start out → new ≡ out ++ more → Grows start new
grows_on start out new more g e = (g.0 ++ more, e ∙ ap (λ (t : List ℕ). t ++ more) g.1 ∙ append_assoc start g.0 more)
