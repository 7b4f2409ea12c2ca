use Rattle.std.proofs.Common.{◌≡◌, ◌∙◌, ap, sym, subst, length, true, false, arith}
use Rattle.plan_geometry.specs.Layout.{IsLayout, IsInOrder}
use Rattle.plan_geometry.proofs.Unique.{in_order-permutation}
use Rattle.order_reader.specs.Instances.{IsGivenOf}
use Rattle.std.proofs.Common.{IsPermutation}
use Rattle.report_checker.proofs.layers.layer_of.Goals as goal

pub returns-in_default : goal.returns-in_default
returns-in_default c = λ l.
    let e : c.in_ok-copy.copy.items ≡ c.args.listed.now.spots = c.in_ok-copy.ensures.items_if_clones_equal (λ x y e. e) ∙ c.as_slice-spots.ensures in
    let layout : IsLayout c.inst.result c.args.listed.now.spots = (c.inst.ensures.layers c.args.listed.now.spots).0 l.layer in
    let z : false ≡ true = c.in_default.ensures.accepted.1 (subst (λ s. IsLayout c.inst.result s) (sym e) layout) in
    cc z

pub returns-then-are_same : goal.returns-then-are_same
returns-then-are_same c =
    let s = c.args.listed.now.spots in
    let e : c.in-Some.layer.spots ≡ s = sym c.spots.ensures.value ∙ (c.are_same.ensures.0 c.if-are_same.true ∙ c.as_slice-spots.ensures) in
    let layout : IsLayout c.inst.result s = subst (λ I. IsLayout I s) c.in-Some.ensures.inst (subst (λ l. IsLayout c.in-Some.layer.inst l) e c.in-Some.ensures.layer.layout) in
    record {
      listed = record {
        count_is = omega (arith, c.if-spots-count.false, ap length c.as_slice-spots.ensures);
        in_order = subst IsInOrder e c.in-Some.ensures.layer.in_order;
        layer = (c.inst.ensures.layers s).1 layout;
      };
      given = subst (λ I. IsGivenOf c.args.order.now I) (sym c.in-Some.ensures.inst) c.inst.ensures.given;
      spots = e;
    }

pub returns-else-are_same : goal.returns-else-are_same
returns-else-are_same c = λ l.
    let s = c.args.listed.now.spots in
    let e : c.in_ok-copy.copy.items ≡ s = c.in_ok-copy.ensures.items_if_clones_equal (λ x y e. e) ∙ c.as_slice-spots.ensures in
    let turned : IsPermutation s c.in-Some.layer.spots = subst (λ l. IsPermutation l c.in-Some.layer.spots) e c.in-Some.ensures.same in
    let same : s ≡ c.in-Some.layer.spots = in_order-permutation s c.in-Some.layer.spots l.in_order c.in-Some.ensures.layer.in_order turned in
    let z : c.are_same.result ≡ true = c.are_same.ensures.1 (c.spots.ensures.value ∙ (sym same ∙ sym c.as_slice-spots.ensures)) in
    cc (z, c.if-are_same.false)
