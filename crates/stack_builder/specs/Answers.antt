use Rattle.std.specs.Prelude.{◌≡◌, ℕ, ◌==◌, ◌↔◌, ⊤, nat_lt, if◌then◌else◌, List, [], ◌∷◌, ◌++◌, length, map, All, IsTrue}
use Rattle.plan_geometry.specs.declared.instances.Inst.{Inst}
use Rattle.plan_geometry.specs.Placed.{Placed}
use Rattle.layer_symmetry.specs.declared.symmetries.Move.{Move}
use Rattle.contact_rules.specs.declared.rules.Rule.{Rule}
use Rattle.contact_rules.specs.declared.rules.Rule.TheVariants.{Contact, Support, Cut}
use Rattle.stack_builder.specs.declared.lists.UnmetRule.{UnmetRule}
use Rattle.stack_builder.specs.declared.lists.StackAnswer.{StackAnswer}
use Rattle.stack_builder.specs.declared.lists.StackAnswer.TheVariants.{Stack, Unmet}
use Rattle.stack_builder.specs.Stack.{IsLeastStack, HasNoStack}
use Rattle.stack_builder.specs.Pairs.{GoTogether, IsAlone}

-- the rules that these three fields of an order ask for, in order
abbrev pub rules_asked : ℕ → ℕ → ℕ → List Rule
rules_asked contact support cut =
    (if nat_lt 0 contact then Contact contact ∷ [] else [])
    ++ (if support == 1 then Support ∷ [] else [])
    ++ (if nat_lt cut 100 then Cut cut ∷ [] else [])

-- the rules in order, each marked where no two variants meet it by itself
pub record AreMarked (I : Inst) (gap : ℕ) (variants : List (Move × Placed)) (rules : List Rule) (unmet : List UnmetRule) : Type 0 where
  pub rules_are : map (λ u. u.rule) unmet ≡ rules
  pub marks : All (λ u. IsTrue u.alone ↔ IsAlone I gap variants u.rule) unmet

-- the least stack, or, where there is none, the rules that were asked for
abbrev pub IsStackAnswer : Inst → ℕ → List Rule → List (Move × Placed) → ℕ → StackAnswer → Type 0
IsStackAnswer I gap rules variants n (Stack numbers) =
    IsLeastStack (GoTogether I gap rules variants) (length variants) n numbers
IsStackAnswer I gap rules variants n (Unmet unmet) =
    HasNoStack (GoTogether I gap rules variants) (length variants) n × AreMarked I gap variants rules unmet

-- no other answer is right
abbrev pub IsOnlyAnswer : Inst → ℕ → List Rule → List (Move × Placed) → ℕ → StackAnswer → Type 0
IsOnlyAnswer I gap rules variants n answer =
    (other : StackAnswer) → IsStackAnswer I gap rules variants n other → other ≡ answer

-- a stack was found
abbrev pub IsListed : StackAnswer → Type 0
IsListed (Stack numbers) = ⊤
IsListed (Unmet unmet) = ⊥
