-- Each clause of soundness, by the order's one instance and the one list of variants.
use Rattle.std.proofs.Common.{◌≡◌, ℕ, ◌↔◌, ◌≤◌, List, length, sym, subst, ◌∙◌, arith, true, false, refl, ap, Bool, ◌&&◌, nat_le, ◌<◌, [], ◌∷◌, get_or}
use Rattle.std.specs.List.{All}
use Rattle.std.proofs.lemmas.List.Elements.{All-map}
use Rattle.std.proofs.lemmas.Bool.Decides.{nat_tests}
use Rattle.plan_geometry.specs.declared.instances.Inst.{Inst}
use Rattle.plan_geometry.specs.Placed.{Placed}
use Rattle.partitions.specs.Partitions.{SameSides}
use Rattle.order_reader.specs.Orders.{OrderValue}
use Rattle.order_reader.specs.Instances.{IsGivenOf}
use Rattle.layer_symmetry.specs.declared.symmetries.Move.{Move}
use Rattle.layer_symmetry.specs.Variants.{IsVariants}
use Rattle.layer_symmetry.proofs.OneList.{variants-unique}
use Rattle.stack_builder.specs.declared.lists.StackAnswer.{StackAnswer}
use Rattle.stack_builder.specs.Orders.{IsStackOf, IsOnlyStackOf}
use Rattle.stack_builder.proofs.OrderSteps.{given-same}
use Rattle.bound_checker.specs.Accepts.{Accepts, HasFewMarks}
use Rattle.weightings.specs.declared.certs.Cert.{Cert}
use Rattle.weightings.specs.declared.certs.Cert.TheVariants as certs
use Rattle.cert_text.specs.declared.forms.Form.TheVariants.{Two}
use Rattle.cert_text.specs.Ranges.{in_range as cert_in_range, is_weighting}
use Rattle.plan_entries.specs.Ranges.{plan_in_range, numbers_in_range, order_in_range, layers_in_range, is_within}
use Rattle.plan_entries.specs.declared.listed.Listed.{Listed}
use Rattle.plan_entries.specs.declared.entries.Plan.{Plan}
use Rattle.plan_entries.specs.Entries.{variant_on, variants_on, first_spots}
use Rattle.report_checker.specs.Verdicts.{IsFirstOf}
use Rattle.plan_soundness.specs.Sound.{KeepsSides, ListsLayers, ListsVariants, ShowsBound, TellsStack}

pub sides-kept : (p : Plan) (I : Inst) → IsGivenOf p.order I → SameSides I p.reduced ↔ KeepsSides p
sides-kept p I g = (
  λ same. record { given = I; is_given = g; same = same },
  λ k. subst (λ J. SameSides J p.reduced) (given-same p.order k.given I k.is_given g) k.same,
)

pub bound-shown : (p : Plan) (I : Inst) → IsGivenOf p.order I → Accepts I p.reduced p.cert p.bound ↔ ShowsBound p
bound-shown p I g = (
  λ a. record { given = I; is_given = g; accepted = a },
  λ s. subst (λ J. Accepts J p.reduced p.cert p.bound) (given-same p.order s.given I s.is_given g) s.accepted,
)

-- the listed layers of a plan are the variants exactly where they are this list of them
pub variants-listed : (p : Plan) (I : Inst) (vs : List (Move × Placed)) → IsGivenOf p.order I → IsVariants I (first_spots p.layers) vs → (variants_on I p.layers ≡ vs) ↔ ListsVariants p
variants-listed p I vs g v = (
  λ e. record { given = I; is_given = g; variants = subst (λ l. IsVariants I (first_spots p.layers) l) (sym e) v },
  λ l.
      let e = given-same p.order l.given I l.is_given g in
      variants-unique I (first_spots p.layers) vs v (variants_on I p.layers) (subst (λ J. IsVariants J (first_spots p.layers) (variants_on J p.layers)) e l.variants),
)

-- the variants are of the order's instance
pub variants-given : (o : OrderValue) (I : Inst) (ls : List Listed) (vs : List (Move × Placed)) → IsGivenOf o I → variants_on I ls ≡ vs → All (λ (v : Move × Placed). IsGivenOf o v.1.inst) vs
variants-given o I ls vs g e =
    subst (λ l. All (λ (v : Move × Placed). IsGivenOf o v.1.inst) l) e (All-map (λ (v : Move × Placed). IsGivenOf o v.1.inst) (variant_on I) ls (λ k d lt. g))

-- the plan tells its stack exactly where it is this one
pub stack-told : (p : Plan) (I : Inst) (vs : List (Move × Placed)) (a : StackAnswer) → IsGivenOf p.order I → variants_on I p.layers ≡ vs → IsStackOf p.order vs p.allowed a → IsOnlyStackOf p.order vs p.allowed a → (p.stack ≡ a) ↔ TellsStack p
stack-told p I vs a g e right only = (
  λ same. record { given = I; is_given = g; stack = subst (λ l. IsStackOf p.order l p.allowed p.stack) (sym e) (subst (λ s. IsStackOf p.order vs p.allowed s) (sym same) right) },
  λ t.
      let f = given-same p.order t.given I t.is_given g in
      only p.stack (subst (λ l. IsStackOf p.order l p.allowed p.stack) e (subst (λ J. IsStackOf p.order (variants_on J p.layers) p.allowed p.stack) f t.stack)),
)

-- ---- the first listed layer, and the list of variants that it has

pub first-is : (ls : List Listed) (l : Listed) → 0 < length ls → l ≡ get_or ls 0 l → l.spots ≡ first_spots ls
first-is [] l some e = absurd (omega (arith, some))
first-is (x ∷ xs) l some e = ap (λ (m : Listed). m.spots) e

-- these are the variants of the first listed layer, and each listed layer is one of the order's
pub record AreTurned (p : Plan) (I : Inst) (vs : List (Move × Placed)) : Type 0 where
  pub layers : ListsLayers p
  pub given : IsGivenOf p.order I
  pub variants : IsVariants I (first_spots p.layers) vs

pub turned-of : (p : Plan) (first : Placed) (I : Inst) (turned vs : List (Move × Placed)) → IsFirstOf p.order p.count p.layers first → I ≡ first.inst → vs ≡ turned → IsVariants first.inst first.spots turned → AreTurned p I vs
turned-of p first I turned vs f e g v = record {
  layers = f.layers;
  given = subst (λ J. IsGivenOf p.order J) (sym e) f.given;
  variants = subst (λ J. IsVariants J (first_spots p.layers) vs) (sym e) (subst (λ l. IsVariants first.inst (first_spots p.layers) l) (sym g) (subst (λ s. IsVariants first.inst s turned) f.spots v));
}

pub not-so : {P : Type 0} (b : Bool) → (P → b ≡ true) → b ≡ false → P → ⊥
not-so b f e h = let z : true ≡ false = sym (f h) ∙ e in cc z

-- ---- ranges

both : (a b : Bool) → (a && b) ≡ true → (a ≡ true) × (b ≡ true)
both true b e = (refl, e)
both false b e = absurd (cc e)

at_most : (m n : ℕ) → nat_le m n ≡ true → m ≤ n
at_most m n e = grind (arith, nat_tests)

pub some-layers : (p : Plan) → plan_in_range Two p ≡ true → 1 ≤ length p.layers
some-layers p e =
    let order = both (numbers_in_range Two p) _ e in
    let cert = both (order_in_range Two p.order) _ order.1 in
    let layers = both (cert_in_range Two p.cert) _ cert.1 in
    let some = both (layers_in_range p.count p.layers) _ layers.1 in
    at_most 1 (length p.layers) (both (nat_le 1 (length p.layers)) _ (both (is_within 8 (length p.layers)) _ some.0).0).0

few-marks : (c : Cert) → cert_in_range Two c ≡ true → HasFewMarks c
few-marks (certs.Weighted g marks) e =
    at_most (length marks) 500000 (both (nat_le 1 (length marks)) _ (both (is_weighting Two g) _ e).1).1
few-marks (certs.Strip cuts) e = tt
few-marks certs.GivenArea e = tt

pub has-few_marks : (p : Plan) → plan_in_range Two p ≡ true → HasFewMarks p.cert
has-few_marks p e =
    let order = both (numbers_in_range Two p) _ e in
    let cert = both (order_in_range Two p.order) _ order.1 in
    few-marks p.cert (both (cert_in_range Two p.cert) _ cert.1).0
