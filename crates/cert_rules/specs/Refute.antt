-- Marks that refute a number of cases.
use Rattle.std.specs.Prelude.{◌≢◌, ℕ, ◌<◌, List, [], ◌∷◌, ◌++◌}
use Rattle.plan_geometry.specs.declared.instances.Inst.{Inst}
use Rattle.plan_geometry.specs.Layout.{IsBounded}
use Rattle.plan_geometry.specs.Weight.{WeighsAtLeast}
use Rattle.weightings.specs.declared.certs.Mark.{Mark}
use Rattle.weightings.specs.declared.certs.Mark.TheVariants.{Branch, Leaf}
use Rattle.weightings.specs.Weighting.{IsLeastWeight}
use Rattle.cert_rules.specs.Corner.{State, start, children, IsLeaf}

-- the marks, read in preorder, are used up by one tree for each of the states, in order
abbrev pub RefutesEach : Inst → (ℕ → ℕ → ℕ) → ℕ → ℕ → List State → List Mark → Type 0
RefutesEach i g q n [] [] = Unit {0}
RefutesEach i g q n (s ∷ ss) [] = ⊥
RefutesEach i g q n [] (m ∷ ms) = ⊥
RefutesEach i g q n (s ∷ ss) (Leaf ∷ ms) = IsLeaf i g q n s × RefutesEach i g q n ss ms
RefutesEach i g q n (s ∷ ss) (Branch ∷ ms) =
    (children i s ≢ []) × RefutesEach i g q n (children i s ++ ss) ms

-- the marks, read in preorder, are one tree that refutes the start
abbrev pub Refutes : Inst → (ℕ → ℕ → ℕ) → ℕ → ℕ → List Mark → Type 0
Refutes i g q n marks = RefutesEach i g q n (start i ∷ []) marks

-- the marks refute more than n cases, each counted at the least weight of a case
pub record IsRefutation (i : Inst) (g : ℕ → ℕ → ℕ) (n : ℕ) (marks : List Mark) : Type 0 where
  pub least : ℕ
  pub is_least : IsLeastWeight i g least
  pub refutes : Refutes i g least n marks

-- whatever the cells weigh, so long as each case weighs at least q, which is not 0: marks that refute bound every layout
abbrev pub RefutesBounds : Type 0
RefutesBounds =
    (i : Inst) (g : ℕ → ℕ → ℕ) (q n : ℕ) (marks : List Mark)
    → 0 < q
    → WeighsAtLeast g i q
    → Refutes i g q n marks
    → IsBounded i n
