-- An order's instance is one, and each of its numbers contains the gap.
use Rattle.std.proofs.Common.{◌≡◌, ℕ, List, ap, sym, subst, ◌∙◌, arith}
use Rattle.std.specs.List.{All}
use Rattle.plan_geometry.specs.declared.instances.Inst.{Inst}
use Rattle.plan_geometry.specs.Placed.{Placed}
use Rattle.plan_geometry.proofs.Same.{Inst-same}
use Rattle.layer_symmetry.specs.declared.symmetries.Move.{Move}
use Rattle.contact_rules.specs.Real.{IsGapOf}
use Rattle.order_reader.specs.Orders.{OrderValue, gap_of}
use Rattle.order_reader.specs.Faults.{IsOrder}
use Rattle.order_reader.specs.Instances.{IsGivenOf}
use Rattle.order_reader.proofs.OrderFacts.{passes, sides-hold}
use Rattle.stack_builder.specs.declared.lists.StackAnswer.{StackAnswer}
use Rattle.stack_builder.specs.Pairs.{AreOf}
use Rattle.contact_rules.specs.declared.rules.Rule.{Rule}
use Rattle.stack_builder.specs.Answers.{rules_asked, IsStackAnswer}
use Rattle.stack_builder.specs.Orders.{rules_of, IsStackOf}

pub given-same : (o : OrderValue) (I K : Inst) → IsGivenOf o I → IsGivenOf o K → I ≡ K
given-same o I K a b =
    Inst-same I K (a.l_side ∙ sym b.l_side) (a.w_side ∙ sym b.w_side) (a.long ∙ sym b.long) (a.short ∙ sym b.short)

pub given-gap : (o : OrderValue) (I : Inst) → IsOrder o → IsGivenOf o I → IsGapOf I (gap_of o)
given-gap o I is given =
    let s = sides-hold o (passes o is).ranges in
    record {
      l_side = omega (arith, given.l_side, s.pallet_x_min);
      w_side = omega (arith, given.w_side, s.pallet_y_min);
      long = omega (arith, given.long, s.case_x_min);
      short = omega (arith, given.short, s.case_x_min, s.case_y_min);
    }

pub given-variants : (o : OrderValue) (I : Inst) (variants : List (Move × Placed)) → IsGivenOf o I → All (λ (v : Move × Placed). IsGivenOf o v.1.inst) variants → AreOf I variants
given-variants o I variants given h = λ k d lt. given-same o _ I (h k d lt) given

-- what stands for the order's instance is the answer for the order
pub stack-of-answer : (o : OrderValue) (I : Inst) (variants : List (Move × Placed)) (n : ℕ) (a : StackAnswer) → IsGivenOf o I → IsStackOf o variants n a → IsStackAnswer I (gap_of o) (rules_of o) variants n a
stack-of-answer o I variants n a given s =
    subst (λ K. IsStackAnswer K (gap_of o) (rules_of o) variants n a) (given-same o s.inst I s.given given) s.right

pub asked-same : (a b c a' b' c' : ℕ) → a ≡ a' → b ≡ b' → c ≡ c' → rules_asked a b c ≡ rules_asked a' b' c'
asked-same a b c a' b' c' e f g =
    ap (λ n. rules_asked n b c) e ∙ (ap (λ n. rules_asked a' n c) f ∙ ap (λ n. rules_asked a' b' n) g)

-- the answer under the gap and the rules that were read is the answer under those of the order
pub answer-read : (I : Inst) (gap gap' : ℕ) (rules rules' : List Rule) (variants : List (Move × Placed)) (n : ℕ) (a : StackAnswer) → gap ≡ gap' → rules ≡ rules' → IsStackAnswer I gap rules variants n a → IsStackAnswer I gap' rules' variants n a
answer-read I gap gap' rules rules' variants n a e f h =
    subst (λ g. IsStackAnswer I g rules' variants n a) e (subst (λ r. IsStackAnswer I gap r variants n a) f h)
