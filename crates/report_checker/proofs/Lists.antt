-- Listed layers and variants, place by place.
use Rattle.std.proofs.Common.{◌≡◌, ℕ, ◌<◌, ◌≤◌, ◌⊎◌, List, length, get_or, slice_get, Some, ap, sym, subst, ◌∙◌, arith, inl, inr, ◌+◌}
use Rattle.std.proofs.lemmas.Bool.{cases_order}
use Rattle.std.proofs.lemmas.List.{get_or-map, length-map}
use Rattle.std.proofs.lemmas.Option.{slice_get-get_or, same_Some}
use Rattle.plan_geometry.specs.declared.spots.Spot.{Spot}
use Rattle.plan_geometry.specs.declared.instances.Inst.{Inst}
use Rattle.plan_geometry.specs.Placed.{Placed}
use Rattle.layer_symmetry.specs.declared.symmetries.Move.{Move}
use Rattle.plan_entries.specs.declared.listed.Listed.{Listed}
use Rattle.plan_entries.specs.Entries.{variant_on, variants_on}
use Rattle.report_checker.specs.Places.{IsFirstDifference}
use Rattle.report_checker.proofs.Firsts.{difference-at, same-lists, ends-differ}

abbrev pair : Move → Placed → Move × Placed
pair m a = (m, a)

abbrev placed : Inst → List Spot → Placed
placed I spots = record { inst = I; spots = spots }

pub variant-same : (I : Inst) (l : Listed) (v : Move × Placed) → l.turn ≡ v.0 → I ≡ v.1.inst → l.spots ≡ v.1.spots → variant_on I l ≡ v
variant-same I l v e f g =
    ap (λ m. pair m (placed I l.spots)) e ∙ (ap (λ J. pair v.0 (placed J l.spots)) f ∙ ap (λ s. pair v.0 (placed v.1.inst s)) g)

listed-at : (I : Inst) (ls : List Listed) (k : ℕ) (l : Listed) → k < length ls → l ≡ get_or ls k l → slice_get (variants_on I ls) k ≡ Some (variant_on I l)
listed-at I ls k l lt e =
    let n : k < length (variants_on I ls) = omega (arith, length-map ls (variant_on I)) in
    slice_get-get_or (variants_on I ls) k (variant_on I l) n ∙ ap Some (get_or-map (variant_on I) ls k l (variant_on I l) lt ∙ ap (variant_on I) (sym e))

variant-at : (vs : List (Move × Placed)) (k : ℕ) (v : Move × Placed) → k < length vs → v ≡ get_or vs k v → slice_get vs k ≡ Some v
variant-at vs k v lt e = slice_get-get_or vs k v lt ∙ ap Some (sym e)

-- the two lists are the same at a place where the listed layer is the variant
pub same-at : (I : Inst) (ls : List Listed) (vs : List (Move × Placed)) (k : ℕ) (l : Listed) (v : Move × Placed) → k < length ls → k < length vs → l ≡ get_or ls k l → v ≡ get_or vs k v → variant_on I l ≡ v → slice_get (variants_on I ls) k ≡ slice_get vs k
same-at I ls vs k l v a b e f h = listed-at I ls k l a e ∙ (ap Some h ∙ sym (variant-at vs k v b f))

pub same-here : (I : Inst) (ls : List Listed) (vs : List (Move × Placed)) (k : ℕ) (l : Listed) (v : Move × Placed) → k < length ls → k < length vs → l ≡ get_or ls k l → v ≡ get_or vs k v → slice_get (variants_on I ls) k ≡ slice_get vs k → variant_on I l ≡ v
same-here I ls vs k l v a b e f h = same_Some (variant_on I l) v (sym (listed-at I ls k l a e) ∙ (h ∙ variant-at vs k v b f))

-- the lists are the same below a place
abbrev pub SameBelow : Inst → List Listed → List (Move × Placed) → ℕ → Type 0
SameBelow I ls vs n = (k : ℕ) → k < n → slice_get (variants_on I ls) k ≡ slice_get vs k

below-or-at : (P : ℕ → Type 0) (n : ℕ) → ((k : ℕ) → k < n → P k) → P n → (k : ℕ) → k < n + 1 → P k
below-or-at P n h e k lt = elim (cases_order k n) [ inl same ↦ subst P (sym same) e | inr o ↦ elim o [ inl less ↦ h k less | inr more ↦ absurd (omega arith) ] ]

-- and at the place too
pub same-more : (I : Inst) (ls : List Listed) (vs : List (Move × Placed)) (n : ℕ) → SameBelow I ls vs n → slice_get (variants_on I ls) n ≡ slice_get vs n → (k : ℕ) → k < n + 1 → slice_get (variants_on I ls) k ≡ slice_get vs k
same-more I ls vs n h e k lt = below-or-at (λ j. slice_get (variants_on I ls) j ≡ slice_get vs j) n h e k lt

pub same-whole : (I : Inst) (ls : List Listed) (vs : List (Move × Placed)) (n : ℕ) → SameBelow I ls vs n → length ls ≤ n → length ls ≡ length vs → variants_on I ls ≡ vs
same-whole I ls vs n h le e =
    same-lists (variants_on I ls) vs (length-map ls (variant_on I) ∙ e) (λ k lt. h k (omega (arith, length-map ls (variant_on I))))

pub differ-at_end : (I : Inst) (ls : List Listed) (vs : List (Move × Placed)) (n place : ℕ) → place ≡ n + 1 → SameBelow I ls vs n → (length ls ≤ n) ⊎ (length vs ≤ n) → n ≤ length ls → n ≤ length vs → (length ls ≡ length vs → ⊥) → IsFirstDifference (variants_on I ls) vs place
differ-at_end I ls vs n place at h end a b differ =
    let e : length ls ≡ length (variants_on I ls) = sym (length-map ls (variant_on I)) in
    difference-at (variants_on I ls) vs n place at h
    (ends-differ (variants_on I ls) vs n (subst (λ m. (m ≤ n) ⊎ (length vs ≤ n)) e end) (subst (λ m. n ≤ m) e a) b (subst (λ m. m ≡ length vs → ⊥) e differ))
