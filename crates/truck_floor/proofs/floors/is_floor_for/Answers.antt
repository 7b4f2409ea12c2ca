use Rattle.std.proofs.Common.{◌≡◌, ℕ, List, [], ◌∷◌, take, drop, length, sym, ap, ◌∙◌, arith, length-drop}
use Rattle.std.specs.Str.{bytes_eq}
use Rattle.std.proofs.lemmas.List.{take_all}
use Rattle.std.proofs.lemmas.Slice.Eq.{bytes_eq-Decides}
use Rattle.order_reader.specs.Orders.{pallet_x_of, pallet_y_of}
use Rattle.truck_floor.proofs.floors.is_floor_for.Goals as goal

abbrev numbers_for : ℕ → ℕ → List ℕ
numbers_for x y = x ∷ y ∷ 1 ∷ 1 ∷ 1 ∷ 100000000 ∷ 0 ∷ 0 ∷ 100 ∷ 0 ∷ []

pub returns : goal.returns
returns c =
    let own = c.args.floor.now.numbers in
    let x = pallet_x_of c.args.load.now in
    let y = pallet_y_of c.args.load.now in
    let twelve : length own ≡ 12 = c.numbers-numbers.ensures.twelve in
    let behind : take 10 (drop 2 c.numbers-numbers.result) ≡ drop 2 own = ap (λ (ns : List ℕ). take 10 (drop 2 ns)) c.numbers-numbers.ensures.numbers ∙ take_all 10 (drop 2 own) (omega (arith, length-drop 2 own)) in
    let wanted : numbers_for c.number-pallet_x.result c.number-pallet_y.result ≡ numbers_for x y
    = ap (λ n. numbers_for n c.number-pallet_y.result) c.number-pallet_x.ensures.number ∙ ap (λ n. numbers_for x n) c.number-pallet_y.ensures.number in
    let is : c.eq.result ≡ bytes_eq (drop 2 own) (numbers_for x y)
    = c.eq.ensures ∙ ap (λ (ns : List ℕ). bytes_eq ns (numbers_for c.number-pallet_x.result c.number-pallet_y.result)) behind ∙ ap (λ (ns : List ℕ). bytes_eq (drop 2 own) ns) wanted in
    let same = bytes_eq-Decides (drop 2 own) (numbers_for x y) in
    (λ e. same.0 (sym is ∙ e), λ e. is ∙ same.1 e)
