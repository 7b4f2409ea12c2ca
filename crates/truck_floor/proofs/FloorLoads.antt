-- What the plans of a floor and of a load say of floor loads.
use Rattle.std.proofs.Common.{◌≡◌, ℕ, ◌+◌, ◌-◌, ◌*◌, ◌/◌, ◌<◌, ◌≤◌, List, [], length, map, get_or, refl, sym, ap, subst, ◌∙◌, arith}
use Rattle.std.specs.List.{All, Contains}
use Rattle.std.proofs.lemmas.Nat.{mul-le}
use Rattle.std.proofs.lemmas.List.{length-map, get_or-map}
use Rattle.std.proofs.lemmas.List.Elements.{All-map, All-weaker, All-from_get_or, All-contains_itself}
use Rattle.std.proofs.lemmas.List.Sums.{sum_by-le}
use Rattle.plan_geometry.specs.declared.spots.Spot.{Spot}
use Rattle.plan_geometry.specs.declared.instances.Inst.{Inst}
use Rattle.plan_geometry.specs.Layout.{IsLayout}
use Rattle.plan_geometry.specs.Gap.{IsGapLayout, SameLayouts}
use Rattle.plan_geometry.proofs.GapSteps.{SameLayouts-swollen}
use Rattle.plan_geometry.proofs.Same.{Inst-same}
use Rattle.order_reader.specs.Orders.{OrderValue, case_z_of, weight_of, max_height_of, max_weight_of, gap_of}
use Rattle.order_reader.specs.Instances.{IsGivenOf, IsRealOf, IsLayerFor, IsBoundFor}
use Rattle.contact_rules.specs.Rules.{Meets}
use Rattle.stack_builder.specs.Pairs.{spots_of, GoTogether}
use Rattle.stack_builder.specs.Stack.{IsStack}
use Rattle.stack_builder.specs.Orders.{rules_of}
use Rattle.stack_builder.specs.Answers.{IsStackAnswer}
use Rattle.stack_builder.specs.declared.lists.StackAnswer.{StackAnswer}
use Rattle.stack_builder.specs.declared.lists.StackAnswer.TheVariants.{Stack, Unmet}
use Rattle.plan_entries.specs.Entries.{variant_on, variants_on}
use Rattle.plan_entries.specs.declared.listed.Listed.{Listed}
use Rattle.plan_entries.specs.declared.entries.Plan.{Plan}
use Rattle.plan_soundness.specs.Sound.{IsSound, IsListedLayer}
use Rattle.plan_soundness.proofs.Bounds as sound
use Rattle.truck_floor.specs.Loads.{Layers, cases_of, IsLoad, MeetsRules, LoadedPallet, IsFloorLoad, cases_on, listed_spots, stacked_layers, stack_of}
use Rattle.truck_floor.specs.Totals.{cases_stacked, cases_by, case_bound_by}
use Rattle.truck_floor.specs.Laws.{FloorLoadsAreBounded, IsReached, FloorLoadsAreReached, OptimalTotalsAreGreatest}
use Rattle.truck_floor.proofs.Sums.{sum_of_same, groups_within, map-map, map-same}

-- ---- bounds

one_real : (o : OrderValue) (I K : Inst) → IsRealOf o I → IsRealOf o K → I ≡ K
one_real o I K r s = Inst-same I K (r.l_side ∙ sym s.l_side) (r.w_side ∙ sym s.w_side) (r.long ∙ sym s.long) (r.short ∙ sym s.short)

layer_within : (o : OrderValue) (n : ℕ) (spots : List Spot) → IsBoundFor o n → IsLayerFor o spots → length spots ≤ n
layer_within o n spots b l =
    b.bounded spots (subst (λ (I : Inst). IsGapLayout I (gap_of o) spots) (one_real o l.real b.real l.is_real b.is_real) l.layout)

-- layers of an order are layouts of its instance
same_layouts : (o : OrderValue) (R J : Inst) → IsRealOf o R → IsGivenOf o J → SameLayouts R (gap_of o) J
same_layouts o R J r g = SameLayouts-swollen R (gap_of o) J (record {
  l_side = g.l_side ∙ ap (λ n. n + gap_of o) (sym r.l_side);
  w_side = g.w_side ∙ ap (λ n. n + gap_of o) (sym r.w_side);
  long = g.long ∙ ap (λ n. n + gap_of o) (sym r.long);
  short = g.short ∙ ap (λ n. n + gap_of o) (sym r.short);
})

layout_within : (o : OrderValue) (n : ℕ) (J : Inst) (spots : List Spot) → IsBoundFor o n → IsGivenOf o J → IsLayout J spots → length spots ≤ n
layout_within o n J spots b given layout = b.bounded spots ((same_layouts o b.real J b.is_real given spots).1 layout)

load_within : (q : Plan) → IsSound q → (layers : Layers) → IsLoad q.order layers → cases_of layers ≤ case_bound_by q
load_within q s layers load =
    let bound = sound.bounded q s in
    let each = All-weaker (IsLayerFor q.order) (λ spots. length spots ≤ q.bound) (λ spots l. layer_within q.order q.bound spots bound l) layers load.each in
    let together = sum_by-le length q.bound layers each in
    let stacked = mul-le (length layers) q.bound (max_height_of q.order / case_z_of q.order) q.bound load.height (omega arith) in
    let weight = load.weight in
    omega (arith, together, stacked, weight)

floor_load_within : (p q : Plan) (pallets : List LoadedPallet) → IsSound p → IsSound q → IsFloorLoad p.order q.order pallets → cases_on pallets ≤ p.bound * case_bound_by q
floor_load_within p q pallets s t f =
    let each = All-weaker (λ (l : LoadedPallet). IsLoad q.order l.layers) (λ (l : LoadedPallet). cases_of l.layers ≤ case_bound_by q) (λ l load. load_within q t l.layers load) pallets f.loads in
    let together = sum_by-le (λ (l : LoadedPallet). cases_of l.layers) (case_bound_by q) pallets each in
    let places = layout_within p.order p.bound f.given (map (λ (l : LoadedPallet). l.spot) pallets) (sound.bounded p s) f.is_given f.layout in
    let many = length-map pallets (λ (l : LoadedPallet). l.spot) in
    let product = mul-le (length pallets) (case_bound_by q) p.bound (case_bound_by q) (omega (arith, places, many)) (omega arith) in
    omega (arith, together, product)

pub bounded : FloorLoadsAreBounded
bounded p q t pallets s u total f =
    let most : t.pallet_bound * t.case_bound ≡ p.bound * case_bound_by q = ap (λ n. n * t.case_bound) total.pallet_bound ∙ ap (λ n. p.bound * n) total.case_bound in
    subst (λ n. cases_on pallets ≤ n) (sym most) (floor_load_within p q pallets s u f)

pub greatest : OptimalTotalsAreGreatest
greatest p q t pallets s u total optimal f = subst (λ n. cases_on pallets ≤ n) (sym (total.optimal.0 optimal)) (bounded p q t pallets s u total f)

-- ---- a plan's own stack

-- a layer of the order with so many cases
abbrev IsOwnLayer : OrderValue → ℕ → List Spot → Type 0
IsOwnLayer o count spots = (length spots ≡ count) × IsLayerFor o spots

record IsStacked (o : OrderValue) (count allowed : ℕ) (listed : List Listed) (layers : Layers) (cases : ℕ) : Type 0 where
  each : All (IsOwnLayer o count) layers
  among : All (Contains (map (λ (l : Listed). l.spots) listed)) layers
  number : length layers ≡ allowed
  meets : MeetsRules o layers
  product : cases ≡ count * allowed

listed_same : (I : Inst) (listed : List Listed) (v : ℕ) → spots_of (variants_on I listed) v ≡ listed_spots listed v
unfolding spots_of
listed_same I listed v = ap (λ (layers : Layers). get_or layers (v - 1) []) (map-map (λ x. x.1.spots) (variant_on I) listed)

module _ (o : OrderValue) (count allowed : ℕ) (listed : List Listed) (given inst : Inst) (is_given : IsGivenOf o inst) (layers : All (IsListedLayer o count) listed) where
  listed_own : All (IsOwnLayer o count) (map (λ (l : Listed). l.spots) listed)
  listed_own =
      All-map (IsOwnLayer o count) (λ (l : Listed). l.spots) listed
      (All-weaker (IsListedLayer o count) (λ (l : Listed). IsOwnLayer o count l.spots) (λ l is. (is.count_is, is.layer)) listed layers)

  -- what holds of each listed layer holds of each in a stack
  each_stacked : (P : List Spot → Type 0) (Goes : ℕ → ℕ → Type 0) (numbers : List ℕ) → IsStack Goes (length (variants_on given listed)) allowed numbers
      → All P (map (λ (l : Listed). l.spots) listed) → All P (map (listed_spots listed) numbers)
  each_stacked P Goes numbers stack all =
      let size = stack.length_is in
      let variants = length-map listed (variant_on given) in
      let spots = length-map listed (λ (l : Listed). l.spots) in
      All-map P (listed_spots listed) numbers (All-from_get_or (λ (v : ℕ). P (listed_spots listed v)) numbers 0 (λ i lt.
      let number = stack.numbers i (omega arith) in
      let low = number.0 in
      let high = number.1 in
      all (get_or numbers i 0 - 1) [] (omega arith)))

  is_stacked : (answer : StackAnswer) → IsStackAnswer inst (gap_of o) (rules_of o) (variants_on given listed) allowed answer → 0 < cases_stacked count allowed answer
      → IsStacked o count allowed listed (stacked_layers listed answer) (cases_stacked count allowed answer)
  is_stacked (Unmet unmet) right some = absurd (omega arith)
  is_stacked (Stack numbers) right some =
      let stack = right.is_stack in
      let size = stack.length_is in
      let goes = GoTogether inst (gap_of o) (rules_of o) (variants_on given listed) in
      record {
        each = each_stacked (IsOwnLayer o count) goes numbers stack listed_own;
        among = each_stacked (Contains (map (λ (l : Listed). l.spots) listed)) goes numbers stack (All-contains_itself (map (λ (l : Listed). l.spots) listed));
        number = length-map numbers (listed_spots listed) ∙ size;
        meets = record {
          given = inst;
          is_given = is_given;
          meets = λ i lt.
              let long = length-map numbers (listed_spots listed) in
              let at : (k : ℕ) → k < length numbers → spots_of (variants_on given listed) (get_or numbers k 0) ≡ get_or (map (listed_spots listed) numbers) k []
              = λ k h. listed_same given listed (get_or numbers k 0) ∙ sym (get_or-map (listed_spots listed) numbers k 0 [] h) in
              subst (λ (lower : List Spot). All (λ rule. Meets inst (gap_of o) rule lower (get_or (map (listed_spots listed) numbers) (i + 1) [])) (rules_of o)) (at i (omega arith))
              (subst (λ (upper : List Spot). All (λ rule. Meets inst (gap_of o) rule (spots_of (variants_on given listed) (get_or numbers i 0)) upper) (rules_of o)) (at (i + 1) (omega arith))
              (stack.neighbours i (omega arith)));
        };
        product = refl;
      }

stacked : (q : Plan) → IsSound q → 0 < cases_by q → IsStacked q.order q.count q.allowed q.layers (stack_of q) (cases_by q)
stacked q s some =
    is_stacked q.order q.count q.allowed q.layers s.stack.given s.stack.stack.inst s.stack.stack.given s.layout q.stack s.stack.stack.right some

-- ---- a load of that stack on each pallet

stack_cases : (o : OrderValue) (count allowed : ℕ) (listed : List Listed) (layers : Layers) (cases : ℕ) → IsStacked o count allowed listed layers cases → cases_of layers ≡ count * allowed
stack_cases o count allowed listed layers cases is =
    let each = All-weaker (IsOwnLayer o count) (λ spots. length spots ≡ count) (λ spots own. own.0) layers is.each in
    let turned : allowed * count ≡ count * allowed = omega arith in
    sum_of_same length count layers each ∙ ap (λ n. n * count) is.number ∙ turned

stack_is_load : (q : Plan) → IsSound q → 0 < cases_by q → IsLoad q.order (stack_of q)
stack_is_load q s some =
    let is = stacked q s some in
    let o = q.order in
    let allowed = s.allowed in
    let number = is.number in
    let cases = stack_cases o q.count q.allowed q.layers (stack_of q) (cases_by q) is in
    let by_weight : q.allowed ≤ max_weight_of o / (q.count * weight_of o) = omega arith in
    let product = mul-le q.count q.allowed q.count (max_weight_of o / (q.count * weight_of o)) (omega arith) by_weight in
    let within = groups_within q.count (max_weight_of o) (weight_of o) in
    record {
      each = All-weaker (IsOwnLayer o q.count) (IsLayerFor o) (λ spots own. own.1) (stack_of q) is.each;
      height = omega arith;
      weight = omega arith;
    }

abbrev loaded_with : Layers → Spot → LoadedPallet
loaded_with layers spot = record { spot = spot; layers = layers }

reached_by : (p q : Plan) → IsSound p → IsSound q → 0 < cases_by q → IsReached p q (p.count * cases_by q)
reached_by p q s t some =
    let own = sound.reached p s in
    let spots = own.0 in
    let layer = own.1 in
    let count = own.2 in
    let load = stack_is_load q t some in
    let is = stacked q t some in
    let pallets = map (loaded_with (stack_of q)) spots in
    let places : map (λ (l : LoadedPallet). l.spot) pallets ≡ spots = map-map (λ (l : LoadedPallet). l.spot) (loaded_with (stack_of q)) spots ∙ map-same spots in
    let given = s.bound.given in
    let layout = (same_layouts p.order layer.real given layer.is_real s.bound.is_given spots).0 layer.layout in
    let each : cases_of (stack_of q) ≡ cases_by q = stack_cases q.order q.count q.allowed q.layers (stack_of q) (cases_by q) is ∙ sym is.product in
    record {
      pallets = pallets;
      is_floor_load = record {
        given = given;
        is_given = s.bound.is_given;
        layout = subst (IsLayout given) (sym places) layout;
        loads = All-map (λ (l : LoadedPallet). IsLoad q.order l.layers) (loaded_with (stack_of q)) spots (λ k d lt. load);
      };
      stacks = All-map (λ (l : LoadedPallet). l.layers ≡ stack_of q) (loaded_with (stack_of q)) spots (λ k d lt. refl);
      listed = is.among;
      meets = is.meets;
      cases =
          sum_of_same (λ (l : LoadedPallet). cases_of l.layers) (cases_by q) pallets (All-map (λ (l : LoadedPallet). cases_of l.layers ≡ cases_by q) (loaded_with (stack_of q)) spots (λ k d lt. each))
          ∙ ap (λ n. n * cases_by q) (length-map spots (loaded_with (stack_of q)) ∙ count);
    }

pub reached : FloorLoadsAreReached
reached p q t s u total some =
    let same : p.count * cases_by q ≡ t.pallets * t.cases = ap (λ n. n * cases_by q) (sym total.pallets) ∙ ap (λ n. t.pallets * n) (sym total.cases) in
    subst (IsReached p q) same (reached_by p q s u (subst (λ n. 0 < n) total.cases some))
