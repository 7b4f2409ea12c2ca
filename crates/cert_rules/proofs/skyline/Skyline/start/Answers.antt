use Rattle.std.proofs.Common.{◌≡◌, sym, subst}
use Rattle.plan_geometry.specs.Weight.{total_weight}
use Rattle.weightings.specs.Weighting.{weight_of, IsLawfulWeighting, IsLeastWeight}
use Rattle.weightings.specs.declared.kinds.Weighting.{Weighting}
use Rattle.cert_rules.proofs.Paths.{Keeps-start, least-some}
use Rattle.cert_rules.proofs.skyline.Skyline.start.Goals as goal

pub invariant_of-result : goal.invariant_of-result
invariant_of-result c =
    let same : c.in_ok-copy.copy ≡ c.args.weighting.now = c.in_ok-copy.ensures in
    let k = Keeps-start c.args.inst c.in_ok-copy.copy c.new.result.items c.in_ok-runs.runs.items c.total-weight.result
    c.new.ensures.items (c.in_ok-runs.ensures.items_if_clones_equal (λ y e. e))
    (subst (λ (w : Weighting). c.total-weight.result ≡ total_weight (weight_of w) c.args.inst) (sym same) c.total-weight.ensures.value) c.total-weight.ensures.small in
    record {
      member = subst (λ (w : Weighting). IsLawfulWeighting c.args.inst w) (sym same) c.requires.lawful;
      is_least = subst (λ (w : Weighting). IsLeastWeight c.args.inst (weight_of w) c.least-least.result) (sym same) c.least-least.ensures;
      least = least-some c.args.inst (weight_of c.args.weighting.now) c.least-least.result c.least-least.ensures c.requires.positive;
      across = record { of_inst = c.in_ok-across.ensures.inst; of_side = c.in_ok-across.ensures.side };
      along = record { of_inst = c.in_ok-along.ensures.inst; of_side = c.in_ok-along.ensures.side };
      few = k.few;
      lawful = k.lawful;
      corners = k.corners;
      runs = k.runs;
      cases = k.counted;
    }
