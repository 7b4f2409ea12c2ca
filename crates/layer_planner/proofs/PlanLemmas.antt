-- The plan that is made of an order's parts.
use Rattle.std.proofs.Common.{◌≡◌, ℕ, ◌≤◌, ◌↔◌, ◌⊎◌, length, sym, subst, ◌∙◌, arith, inl, inr}
use Rattle.std.proofs.lemmas.Bool.{le-leb}
use Rattle.plan_geometry.specs.declared.instances.Inst.{Inst}
use Rattle.plan_geometry.specs.Layout.{area_bound_of, IsBounded}
use Rattle.minimum_size.specs.Reduced.{IsReduced}
use Rattle.order_reader.specs.Orders.{OrderValue}
use Rattle.order_reader.specs.Faults.{IsOrder}
use Rattle.order_reader.specs.Instances.{IsGivenOf, IsBoundFor}
use Rattle.cert_text.specs.declared.forms.Form.TheVariants.{Two}
use Rattle.plan_entries.specs.declared.entries.Status.{Status}
use Rattle.plan_entries.specs.declared.entries.Status.TheVariants.{Optimal, StillOpen}
use Rattle.plan_entries.specs.declared.entries.Plan.{Plan}
use Rattle.plan_entries.specs.declared.entries.Entry.TheVariants.{Planned}
use Rattle.plan_entries.specs.Ranges.{IsInRange}
use Rattle.plan_soundness.specs.Sound.{IsSound}
use Rattle.layer_patterns.specs.Patterns.{HoldsPatterns}
use Rattle.layer_planner.specs.declared.settling.Settled.{Settled}
use Rattle.layer_planner.specs.declared.listing.Listing.{Listing}
use Rattle.layer_planner.specs.Quality.{most_states, HasQuality, HasLongWalk}
use Rattle.layer_planner.specs.Known.{IsSettled}
use Rattle.layer_planner.specs.Listing.{IsListing}
use Rattle.layer_planner.proofs.SideLemmas.{bounds-given}
use Rattle.layer_planner.proofs.RangeLemmas.{both, within-text, order-text}

-- the plan of these parts
abbrev pub plan : ℕ → OrderValue → Inst → ℕ → Status → Settled → Listing → Plan
plan number o reduced count status s l = record {
  number = number;
  order = o;
  reduced = reduced;
  count = count;
  bound = s.known.bound;
  status = status;
  cert = s.known.cert;
  layers = l.layers;
  allowed = l.allowed;
  stack = l.stack;
}

-- the status says whether count and bound are equal
abbrev pub Tells : Status → ℕ → ℕ → Type 0
Tells status count bound = (status ≡ Optimal) ↔ (count ≡ bound)

-- what is known of the parts
pub record AreParts (o : OrderValue) (given reduced : Inst) (count : ℕ) (status : Status) (s : Settled) (l : Listing) : Type 0 where
  pub is_order : IsOrder o
  pub is_given : IsGivenOf o given
  pub few : area_bound_of given ≤ 1000
  pub bounds : (n : ℕ) → IsBoundFor o n ↔ IsBounded given n
  pub is_reduced : IsReduced given reduced
  pub settled : IsSettled given reduced s
  pub counted : count ≡ length s.layer.spots
  pub listing : IsListing o given (length s.layer.spots) l
  pub tells : Tells status count s.known.bound

pub plan-sound : (number : ℕ) (o : OrderValue) (given reduced : Inst) (count : ℕ) (status : Status) (s : Settled) (l : Listing) → AreParts o given reduced count status s l → IsSound (plan number o reduced count status s l)
plan-sound number o given reduced count status s l p =
    let k : IsListing o given count l = subst (λ n. IsListing o given n l) (sym p.counted) p.listing in
    record {
      reduced = record { given = given; is_given = p.is_given; same = p.is_reduced.stands.same };
      layout = k.each;
      variants = record { given = given; is_given = p.is_given; variants = k.variants };
      bound = record { given = given; is_given = p.is_given; accepted = p.settled.known.accepted };
      status = p.tells;
      allowed = k.allowed;
      stack = record { given = given; is_given = p.is_given; stack = k.stack };
    }

pub plan-quality : (number : ℕ) (o : OrderValue) (given reduced : Inst) (count : ℕ) (status : Status) (s : Settled) (l : Listing) → AreParts o given reduced count status s l → HasQuality (plan number o reduced count status s l)
plan-quality number o given reduced count status s l p =
    let t = p.settled in
    let d : (count ≡ s.known.bound) ⊎ HasLongWalk reduced count most_states =
    elim t.decided [ inl e ↦ inl (p.counted ∙ e) | inr w ↦ inr (subst (λ n. HasLongWalk reduced n most_states) (sym p.counted) w) ] in
    record {
      given = given;
      is_given = p.is_given;
      reduced = p.is_reduced;
      family = t.family;
      strip = t.strip;
      dual = t.dual;
      area = t.area;
      patterns = subst (λ n. HoldsPatterns reduced n) (sym p.counted) t.patterns;
      still_open = λ o. elim d [ inl e ↦ absurd (apart (sym (p.tells.1 e) ∙ o)) | inr w ↦ w ];
      decided = λ short. elim d [ inl e ↦ p.tells.1 e | inr w ↦ absurd (short w) ];
    } where
      apart : Optimal ≡ StillOpen → ⊥
      apart e = cc

pub plan-bounded : (o : OrderValue) (given reduced : Inst) (count : ℕ) (status : Status) (s : Settled) (l : Listing) → AreParts o given reduced count status s l → IsBoundFor o s.known.bound
plan-bounded o given reduced count status s l p = (p.bounds s.known.bound).1 (bounds-given given reduced s.known p.settled.known)

pub plan-text : (number : ℕ) (o : OrderValue) (given reduced : Inst) (count : ℕ) (status : Status) (s : Settled) (l : Listing) → 1 ≤ number → number ≤ 256 → AreParts o given reduced count status s l → IsInRange Two (Planned (plan number o reduced count status s l))
plan-text number o given reduced count status s l some few p =
    let t = p.settled in
    let k : IsListing o given count l = subst (λ n. IsListing o given n l) (sym p.counted) p.listing in
    let b = s.known.bound in
    let count_some : 1 ≤ count = omega (arith, p.counted, t.some) in
    let bound_few : b ≤ 1000 = omega (arith, t.area, p.few) in
    let count_few : count ≤ b = omega (arith, p.counted, t.within) in
    both _ _ (both _ _ (within-text 256 number some few) (both _ _ (within-text 1000 count count_some (omega (arith, count_few, bound_few)))
    (both _ _ (within-text 1000 b (omega (arith, count_some, count_few)) bound_few) (le-leb l.allowed 10000 k.few_allowed))))
    (both _ _ (order-text o p.is_order) (both _ _ (t.known.in_range bound_few) (both _ _ k.layers_in_range k.stack_in_range)))
