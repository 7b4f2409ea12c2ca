-- Marks and trees.
use Rattle.std.proofs.Common.{◌≡◌, ℕ, List, [], ◌∷◌, ◌++◌, subst, sym, refl, ap, ◌∙◌, append-nil, append_assoc}
use Rattle.cert_rules.specs.Corner.{State, start, children}
use Rattle.cert_rules.specs.Refute.{Refutes, RefutesEach}
use Rattle.cert_rules.specs.Tree.{Tree, tip, fork, Trees, end, also, marks_of, marks_of_all, TreeRefutes, TreesRefute, MarksAreTrees}
use Rattle.plan_geometry.specs.declared.instances.Inst.{Inst}
use Rattle.weightings.specs.declared.certs.Mark.{Mark}
use Rattle.weightings.specs.declared.certs.Mark.TheVariants.{Branch, Leaf}

module _ (i : Inst) (g : ℕ → ℕ → ℕ) (q n : ℕ) where
  mutual
    to_marks : (t : Tree) (s : State) (ss : List State) (ms : List Mark) → TreeRefutes i g q n t s → RefutesEach i g q n ss ms → RefutesEach i g q n (s ∷ ss) (marks_of t ++ ms)
    to_marks tip s ss ms leaf rest = (leaf, rest)
    to_marks (fork ts) s ss ms r rest = (r.0, all_to_marks ts (children i s) ss ms r.1 rest)

    all_to_marks : (ts : Trees) (xs ss : List State) (ms : List Mark) → TreesRefute i g q n ts xs → RefutesEach i g q n ss ms → RefutesEach i g q n (xs ++ ss) (marks_of_all ts ++ ms)
    all_to_marks end [] ss ms r rest = rest
    all_to_marks end (x ∷ xs) ss ms r rest = absurd r
    all_to_marks (also t ts) [] ss ms r rest = absurd r
    all_to_marks (also t ts) (x ∷ xs) ss ms r rest =
        subst (λ (l : List Mark). RefutesEach i g q n (x ∷ (xs ++ ss)) l) (sym (append_assoc (marks_of t) (marks_of_all ts) ms))
        (to_marks t x (xs ++ ss) (marks_of_all ts ++ ms) r.0 (all_to_marks ts xs ss ms r.1 rest))

  -- trees for the states of a list
  record Grown (ss : List State) (ms : List Mark) : Type 0 where
    trees : Trees
    marks : marks_of_all trees ≡ ms
    refute : TreesRefute i g q n trees ss

  -- trees for two lists of states
  record Cut (xs ys : List State) (ts : Trees) : Type 0 where
    first : Trees
    rest : Trees
    marks : marks_of_all ts ≡ marks_of_all first ++ marks_of_all rest
    first_refute : TreesRefute i g q n first xs
    rest_refute : TreesRefute i g q n rest ys

  cut : (xs ys : List State) (ts : Trees) → TreesRefute i g q n ts (xs ++ ys) → Cut xs ys ts
  cut [] ys ts r = record { first = end; rest = ts; marks = refl; first_refute = tt; rest_refute = r }
  cut (x ∷ xs) ys end r = absurd r
  cut (x ∷ xs) ys (also t ts) r =
      let c = cut xs ys ts r.1 in
      record {
        first = also t c.first;
        rest = c.rest;
        marks = ap (λ (l : List Mark). marks_of t ++ l) c.marks ∙ sym (append_assoc (marks_of t) (marks_of_all c.first) (marks_of_all c.rest));
        first_refute = (r.0, c.first_refute);
        rest_refute = c.rest_refute;
      }

  grow : (ms : List Mark) (ss : List State) → RefutesEach i g q n ss ms → Grown ss ms
  grow [] [] r = record { trees = end; marks = refl; refute = tt }
  grow [] (s ∷ ss) r = absurd r
  grow (m ∷ ms) [] r = absurd r
  grow (Leaf ∷ ms) (s ∷ ss) r =
      let more = grow ms ss r.1 in
      record { trees = also tip more.trees; marks = ap (λ (l : List Mark). Leaf ∷ l) more.marks; refute = (r.0, more.refute) }
  grow (Branch ∷ ms) (s ∷ ss) r =
      let all = grow ms (children i s ++ ss) r.1 in
      let c = cut (children i s) ss all.trees all.refute in
      record {
        trees = also (fork c.first) c.rest;
        marks = ap (λ (l : List Mark). Branch ∷ l) (sym c.marks ∙ all.marks);
        refute = ((r.0, c.first_refute), c.rest_refute);
      }

  one_tree : (ts : Trees) (s : State) (ms : List Mark) → marks_of_all ts ≡ ms → TreesRefute i g q n ts (s ∷ [])
      → (t : Tree) × (marks_of t ≡ ms) × TreeRefutes i g q n t s
  one_tree end s ms e r = absurd r
  one_tree (also t end) s ms e r = (t, sym (append-nil (marks_of t)) ∙ e, r.0)
  one_tree (also t (also u us)) s ms e r = absurd r.1

pub marks_are_trees : MarksAreTrees
marks_are_trees i g q n marks = (
  (λ r.
      let all = grow i g q n marks (start i ∷ []) r in
      one_tree i g q n all.trees (start i) marks all.marks all.refute),
  (λ (t, e, r).
      subst (λ (l : List Mark). Refutes i g q n l) (append-nil (marks_of t) ∙ e)
      (to_marks i g q n t (start i) [] [] r tt)),
)
