-- What is planned has a text.
use Rattle.std.proofs.Common.{◌≡◌, ℕ, Bool, true, false, ◌+◌, ◌≤◌, List, [], ◌∷◌, length, get_or, map, ap, sym, subst, refl, arith}
use Rattle.std.specs.Prelude.{◌&&◌, not, is_some, replicate, slice_index}
use Rattle.std.specs.List.{All}
use Rattle.std.proofs.lemmas.Bool.{le-leb, eq-eqb}
use Rattle.std.proofs.lemmas.List.{get_or-replicate, length-replicate}
use Rattle.std.proofs.lemmas.List.Sums.{list_all-from_AllPass}
use Rattle.std.proofs.lemmas.List.Elements.{All-nil, All-same, All-weaker, All-from_get_or}
use Rattle.plan_geometry.specs.declared.spots.Spot.{Spot}
use Rattle.plan_geometry.specs.declared.instances.Inst.{Inst}
use Rattle.plan_geometry.specs.Placed.{Placed}
use Rattle.plan_geometry.specs.Layout.{IsInside, IsLayout}
use Rattle.layer_symmetry.specs.declared.symmetries.Move.{Move}
use Rattle.contact_rules.specs.declared.rules.Rule.{Rule}
use Rattle.contact_rules.specs.declared.rules.Rule.TheVariants.{Contact, Support, Cut}
use Rattle.contact_rules.specs.Rules.{Meets}
use Rattle.order_reader.specs.Orders.{OrderValue, gap_of}
use Rattle.order_reader.specs.Faults.{IsOrder}
use Rattle.stack_builder.specs.declared.lists.UnmetRule.{UnmetRule}
use Rattle.stack_builder.specs.declared.lists.StackAnswer.{StackAnswer}
use Rattle.stack_builder.specs.declared.lists.StackAnswer.TheVariants.{Stack, Unmet}
use Rattle.stack_builder.specs.Stack.{HasNoStack}
use Rattle.stack_builder.specs.Pairs.{spots_of, GoTogether}
use Rattle.stack_builder.specs.Orders.{rules_of, IsStackOf}
use Rattle.cert_text.specs.declared.forms.Form.TheVariants.{Two}
use Rattle.plan_entries.specs.declared.listed.Listed.{Listed}
use Rattle.plan_entries.specs.Ranges.{is_within, is_place, listed_in_range, layers_in_range, same_rule, same_rules, stack_in_range, order_in_range}

pub both : (a b : Bool) → a ≡ true → b ≡ true → (a && b) ≡ true
both true true p q = refl
both true false p q = q
both false b p q = p

pub within-text : (most n : ℕ) → 1 ≤ n → n ≤ most → is_within most n ≡ true
within-text most n some few = both _ _ (le-leb 1 n some) (le-leb n most few)

-- ---- the stack

-- without rules there is a stack
no-rules : (I : Inst) (gap : ℕ) (rules : List Rule) (variants : List (Move × Placed)) (n : ℕ) → rules ≡ [] → 1 ≤ length variants → HasNoStack (GoTogether I gap rules variants) (length variants) n → ⊥
no-rules I gap rules variants n e some none = none (replicate n 1) (record {
  length_is = length-replicate n 1;
  numbers = λ i lt. let v : slice_index (replicate n 1) i ≡ 1 = get_or-replicate n i 1 0 lt in (omega (arith, v), omega (arith, v));
  neighbours = λ i lt. All-same (λ r. Meets I gap r (spots_of variants (slice_index (replicate n 1) i)) (spots_of variants (slice_index (replicate n 1) (i + 1)))) rules [] e (All-nil _);
})

rule-same : (r : Rule) → same_rule r r ≡ true
rule-same (Contact p) = eq-eqb p p refl
rule-same Support = refl
rule-same (Cut p) = eq-eqb p p refl

rules-same : (rs : List Rule) → same_rules rs rs ≡ true
rules-same [] = refl
rules-same (r ∷ rs) = both _ _ (rule-same r) (rules-same rs)

told-some : (I : Inst) (gap : ℕ) (o : OrderValue) (variants : List (Move × Placed)) (n : ℕ) (unmet : List UnmetRule) → map (λ (u : UnmetRule). u.rule) unmet ≡ rules_of o
    → 1 ≤ length variants → HasNoStack (GoTogether I gap (rules_of o) variants) (length variants) n → 1 ≤ length unmet
told-some I gap o variants n [] e some none = absurd (no-rules I gap (rules_of o) variants n (sym e) some none)
told-some I gap o variants n (u ∷ us) e some none = omega arith

pub stack-text : (o : OrderValue) (variants : List (Move × Placed)) (n : ℕ) (answer : StackAnswer) → IsStackOf o variants n answer → 1 ≤ length variants → n ≤ 10000 → stack_in_range o (length variants) answer ≡ true
stack-text o variants n (Stack numbers) s some few =
    let k = s.right.is_stack in
    both _ _ (le-leb (length numbers) 10000 (omega (arith, k.length_is)))
    (list_all-from_AllPass (is_within (length variants)) numbers
    (All-from_get_or (λ v. is_within (length variants) v ≡ true) numbers 0
    (λ i lt. let v = k.numbers i (omega (arith, lt, k.length_is)) in within-text (length variants) (get_or numbers i 0) v.0 v.1)))
stack-text o variants n (Unmet unmet) s some few =
    let m = s.right.1 in
    both _ _ (le-leb 1 (length unmet) (told-some s.inst (gap_of o) o variants n unmet m.rules_are some s.right.0))
    (subst (λ rs. same_rules rs (rules_of o) ≡ true) (sym m.rules_are) (rules-same (rules_of o)))

-- ---- the layers

way-some : (I : Inst) (s : Spot) → IsInside I s → (s.x ≤ 4000) × (s.y ≤ 4000)
way-some I s h = let i = I.sides in (omega (arith, h.in_x), omega (arith, h.in_y))

place-text : (I : Inst) (s : Spot) → IsInside I s → is_place s ≡ true
place-text I s h = let p = way-some I s h in both _ _ (le-leb s.x 4000 p.0) (le-leb s.y 4000 p.1)

pub listed-text : (I : Inst) (count : ℕ) (l : Listed) → length l.spots ≡ count → IsLayout I l.spots → listed_in_range count l ≡ true
listed-text I count l e h =
    both _ _ (eq-eqb (length l.spots) count e)
    (list_all-from_AllPass is_place l.spots (All-weaker (IsInside I) (λ s. is_place s ≡ true) (place-text I) l.spots h.inside))

pub layers-text : (count : ℕ) (ls : List Listed) → 1 ≤ length ls → length ls ≤ 8 → All (λ l. listed_in_range count l ≡ true) ls → layers_in_range count ls ≡ true
layers-text count ls some few each = both _ _ (within-text 8 (length ls) some few) (list_all-from_AllPass (listed_in_range count) ls each)

-- ---- the order

pub order-text : (o : OrderValue) → IsOrder o → order_in_range Two o ≡ true
order-text o h =
    both _ _ (eq-eqb (length o.numbers) 12 h.twelve)
    (both _ _ (ap (λ f. not (is_some f)) h.passes) refl)
