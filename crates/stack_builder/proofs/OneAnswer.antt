-- There is one answer; and of no layer or one there is a stack.
use Rattle.std.proofs.Common.{◌≡◌, ℕ, zero, suc, ◌<◌, ◌≤◌, ◌↔◌, Bool, true, false, List, [], ◌∷◌, length, get_or, IsTrue, ap, sym, subst, refl, ◌∙◌, inl, inr, arith}
use Rattle.std.proofs.lemmas.Bool.{cases_order}
use Rattle.std.proofs.lemmas.List.{same_lists, get_or-map, length-map}
use Rattle.plan_geometry.specs.declared.instances.Inst.{Inst}
use Rattle.plan_geometry.specs.Placed.{Placed}
use Rattle.layer_symmetry.specs.declared.symmetries.Move.{Move}
use Rattle.contact_rules.specs.declared.rules.Rule.{Rule}
use Rattle.stack_builder.specs.declared.lists.UnmetRule.{UnmetRule}
use Rattle.stack_builder.specs.declared.lists.StackAnswer.{StackAnswer}
use Rattle.stack_builder.specs.declared.lists.StackAnswer.TheVariants.{Stack, Unmet}
use Rattle.stack_builder.specs.Stack.{ComesBefore, IsLeastStack, HasNoStack}
use Rattle.stack_builder.specs.Pairs.{GoTogether, IsAlone}
use Rattle.stack_builder.specs.Answers.{AreMarked, IsStackAnswer, IsListed}
use Rattle.stack_builder.proofs.StackSteps.{stack-none, stack-one}

not-both : (xs ys : List ℕ) → ComesBefore xs ys → ComesBefore ys xs → ⊥
not-both xs ys a b =
    elim (cases_order a.place b.place) [
      | inl e ↦ let z : get_or ys a.place 0 < get_or xs a.place 0 = subst (λ k. get_or ys k 0 < get_or xs k 0) (sym e) b.less in omega (arith, a.less)
      | inr o ↦
          elim o [
            | inl l ↦ let z : get_or ys a.place 0 ≡ get_or xs a.place 0 = b.same a.place l in omega (arith, a.less)
            | inr l ↦ let z : get_or xs b.place 0 ≡ get_or ys b.place 0 = a.same b.place l in omega (arith, b.less)
          ]
    ]

least-unique : (G : ℕ → ℕ → Type 0) (count n : ℕ) (xs ys : List ℕ) → IsLeastStack G count n xs → IsLeastStack G count n ys → xs ≡ ys
least-unique G count n xs ys a b =
    elim (a.least ys b.is_stack) [
      | inl e ↦ e
      | inr before ↦ elim (b.least xs a.is_stack) [ inl e ↦ sym e | inr after ↦ absurd (not-both xs ys before after) ]
    ]

same-truth : (a b : Bool) (P : Type 0) → IsTrue a ↔ P → IsTrue b ↔ P → a ≡ b
same-truth true true P f g = refl
same-truth false false P f g = refl
same-truth true false P f g = let z : false ≡ true = g.1 (f.0 refl) in cc z
same-truth false true P f g = let z : false ≡ true = f.1 (g.0 refl) in cc z

abbrev mark : Rule → Bool → UnmetRule
mark r b = record { rule = r; alone = b }

mark-same : (u v : UnmetRule) → u.rule ≡ v.rule → u.alone ≡ v.alone → u ≡ v
mark-same u v e f = ap (λ r. mark r u.alone) e ∙ ap (λ b. mark v.rule b) f

marked-length : (I : Inst) (g : ℕ) (variants : List (Move × Placed)) (rules : List Rule) (us : List UnmetRule) → AreMarked I g variants rules us → length us ≡ length rules
marked-length I g variants rules us m = sym (length-map us (λ (v : UnmetRule). v.rule)) ∙ ap length m.rules_are

marked-rule : (I : Inst) (g : ℕ) (variants : List (Move × Placed)) (rules : List Rule) (us : List UnmetRule) (k : ℕ) (d : UnmetRule) → AreMarked I g variants rules us → k < length us → (get_or us k d).rule ≡ get_or rules k d.rule
marked-rule I g variants rules us k d m lt =
    sym (get_or-map (λ (v : UnmetRule). v.rule) us k d d.rule lt) ∙ ap (λ l. get_or l k d.rule) m.rules_are

marked-unique : (I : Inst) (g : ℕ) (variants : List (Move × Placed)) (rules : List Rule) (us vs : List UnmetRule) → AreMarked I g variants rules us → AreMarked I g variants rules vs → us ≡ vs
marked-unique I g variants rules us vs a b =
    let n : length us ≡ length vs = marked-length I g variants rules us a ∙ sym (marked-length I g variants rules vs b) in
    same_lists us vs n (λ k d lt.
    let u = get_or us k d in
    let v = get_or vs k d in
    let lt' : k < length vs = omega arith in
    let r : u.rule ≡ v.rule = marked-rule I g variants rules us k d a lt ∙ sym (marked-rule I g variants rules vs k d b lt') in
    mark-same u v r (same-truth u.alone v.alone (IsAlone I g variants v.rule) (subst (λ x. IsTrue u.alone ↔ IsAlone I g variants x) r (a.marks k d lt)) (b.marks k d lt')))

pub answer-unique : (I : Inst) (g : ℕ) (rules : List Rule) (variants : List (Move × Placed)) (n : ℕ) (a b : StackAnswer) → IsStackAnswer I g rules variants n a → IsStackAnswer I g rules variants n b → a ≡ b
answer-unique I g rules variants n (Stack xs) (Stack ys) p q =
    ap Stack (least-unique (GoTogether I g rules variants) (length variants) n xs ys p q)
answer-unique I g rules variants n (Stack xs) (Unmet us) p q = absurd (q.0 xs p.is_stack)
answer-unique I g rules variants n (Unmet us) (Stack xs) p q = absurd (p.0 xs q.is_stack)
answer-unique I g rules variants n (Unmet us) (Unmet vs) p q =
    ap Unmet (marked-unique I g variants rules us vs p.1 q.1)

short-stack : (G : ℕ → ℕ → Type 0) (count n : ℕ) → n ≤ 1 → 0 < count → HasNoStack G count n → ⊥
short-stack G count zero le some h = h [] (stack-none G count).is_stack
short-stack G count (suc zero) le some h = h (1 ∷ []) (stack-one G count 1 (omega arith) some)
short-stack G count (suc (suc n)) le some h = absurd (omega arith)

pub short-listed : (I : Inst) (g : ℕ) (rules : List Rule) (variants : List (Move × Placed)) (n : ℕ) (a : StackAnswer) → n ≤ 1 → 0 < length variants → IsStackAnswer I g rules variants n a → IsListed a
short-listed I g rules variants n (Stack xs) le some p = tt
short-listed I g rules variants n (Unmet us) le some p =
    absurd (short-stack (GoTogether I g rules variants) (length variants) n le some p.0)
