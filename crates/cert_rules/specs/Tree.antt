-- Trees that refute states, and their marks.
use Rattle.std.specs.Prelude.{◌≡◌, ◌≢◌, ℕ, ◌↔◌, List, [], ◌∷◌, ◌++◌}
use Rattle.cert_rules.specs.Corner.{State, start, children, IsLeaf}
use Rattle.cert_rules.specs.Refute.{Refutes}
use Rattle.plan_geometry.specs.declared.instances.Inst.{Inst}
use Rattle.weightings.specs.declared.certs.Mark.{Mark}
use Rattle.weightings.specs.declared.certs.Mark.TheVariants.{Branch, Leaf}

mutual
  -- a leaf, or a branch with a list of trees
  pub data Tree : Type 0 where
    tip : Tree
    fork : Trees → Tree

  pub data Trees : Type 0 where
    end : Trees
    also : Tree → Trees → Trees

abbrev mutual
  -- the marks of a tree, in preorder
  pub marks_of : Tree → List Mark
  marks_of tip = Leaf ∷ []
  marks_of (fork ts) = Branch ∷ marks_of_all ts

  pub marks_of_all : Trees → List Mark
  marks_of_all end = []
  marks_of_all (also t ts) = marks_of t ++ marks_of_all ts

abbrev mutual
  -- a leaf refutes a state that is a leaf; a branch refutes a state with a move, each child of which
  -- is refuted by a tree, in order
  pub TreeRefutes : Inst → (ℕ → ℕ → ℕ) → ℕ → ℕ → Tree → State → Type 0
  TreeRefutes i g q n tip s = IsLeaf i g q n s
  TreeRefutes i g q n (fork ts) s = (children i s ≢ []) × TreesRefute i g q n ts (children i s)

  pub TreesRefute : Inst → (ℕ → ℕ → ℕ) → ℕ → ℕ → Trees → List State → Type 0
  TreesRefute i g q n end [] = Unit {0}
  TreesRefute i g q n end (s ∷ ss) = ⊥
  TreesRefute i g q n (also t ts) [] = ⊥
  TreesRefute i g q n (also t ts) (s ∷ ss) = TreeRefutes i g q n t s × TreesRefute i g q n ts ss

-- marks refute exactly where they are those of a tree that refutes the start
abbrev pub MarksAreTrees : Type 0
MarksAreTrees =
    (i : Inst) (g : ℕ → ℕ → ℕ) (q n : ℕ) (marks : List Mark)
    → Refutes i g q n marks
    ↔ ((t : Tree) × (marks_of t ≡ marks) × TreeRefutes i g q n t (start i))
