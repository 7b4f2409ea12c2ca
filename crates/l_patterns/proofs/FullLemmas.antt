-- A memo that is full lists as many regions that the search may come to as it may have; one that is not among them is one more.
use Rattle.std.proofs.Common.{◌≡◌, ℕ, Bool, ◌≤◌, true, false, refl, subst, arith, All, AllPairs, List, [], ◌∷◌, None, Contains, length, map, take}
use Rattle.std.specs.List.{AllByRecursion, IsDistinct}
use Rattle.std.specs.Map.{keys_of, lookup}
use Rattle.std.proofs.lemmas.Bool.{eq-eqb}
use Rattle.std.proofs.lemmas.List.{length-map, length-take-le}
use Rattle.std.proofs.lemmas.List.Elements.{All-nil, All-cons, All-take}
use Rattle.std.proofs.lemmas.List.Kept.{AllPairs-cons}
use Rattle.std.proofs.lemmas.Map.{none_passes_from_lookup}
use Rattle.std.proofs.lemmas.Map.Keys.{IsDistinct-head, IsDistinct-tail}
use Rattle.lru.proofs.Splits.{Contains-head, Contains-tail, all_unmap}
use Rattle.plan_geometry.specs.declared.instances.Inst.{Inst}
use Rattle.plan_geometry.proofs.LayoutSteps.{AllPairs-nil, AllPairs-take}
use Rattle.block_tree.specs.declared.regions.Region.{Region}
use Rattle.l_patterns.specs.declared.sides.Sides.{Sides}
use Rattle.l_patterns.specs.declared.knowledge.Key.{Key}
use Rattle.l_patterns.specs.declared.knowledge.Known.{Known}
use Rattle.l_patterns.specs.declared.knowledge.Search.{Search}
use Rattle.l_patterns.specs.Ells.{Reach, HasMore}
use Rattle.l_patterns.specs.Keys.{same_key, key_of, region_of}
use Rattle.l_patterns.specs.States.{IsSearch}
use Rattle.l_patterns.proofs.MemoLemmas.{}

abbrev regions : List (Key × Known) → List Region
regions es = map (λ (e : Key × Known). region_of e.0) es

abbrev Differ : Region → Region → Type 0
Differ r t = r ≡ t → ⊥

true-false : (b : Bool) → b ≡ true → b ≡ false → ⊥
true-false b h k = cc

key-refl : (k : Key) → same_key k k ≡ true
key-refl k = rw (eq-eqb k.big_x k.big_x refl, eq-eqb k.big_y k.big_y refl, eq-eqb k.small_x k.small_x refl, eq-eqb k.small_y k.small_y refl) refl

differs : (r : Region) (x : Key) → same_key (key_of r) x ≡ false → r ≡ region_of x → ⊥
differs r x h e =
    let k : same_key (key_of (region_of x)) x ≡ false = subst (λ z. same_key (key_of z) x ≡ false) e h in
    true-false (same_key x x) (key-refl x) k

apart-all : (r : Region) (es : List (Key × Known)) → AllByRecursion (λ (e : Key × Known). same_key (key_of r) e.0 ≡ false) es → All (Differ r) (regions es)
apart-all r [] h = All-nil (Differ r)
apart-all r (e ∷ es) h = All-cons (Differ r) (region_of e.0) (regions es) (differs r e.0 h.0) (apart-all r es h.1)

different : (es : List (Key × Known)) → IsDistinct same_key (keys_of es) → AllPairs Differ (regions es)
different [] h = AllPairs-nil Differ
different (e ∷ es) h =
    AllPairs-cons Differ (region_of e.0) (regions es) (apart-all (region_of e.0) es (all_unmap (λ (x : Key × Known). x.0) (λ (y : Key). same_key e.0 y ≡ false) es (IsDistinct-head same_key e.0 (keys_of es) h))) (different es (IsDistinct-tail same_key e.0 (keys_of es) h))

each : (i : Inst) (es : List (Key × Known)) → ((e : Key × Known) → Contains es e → Reach i (region_of e.0)) → All (Reach i) (regions es)
each i [] h = All-nil (Reach i)
each i (e ∷ es) h = All-cons (Reach i) (region_of e.0) (regions es) (h e (Contains-head e es)) (each i es (λ x c. h x (Contains-tail e es x c)))

pub full : (q : Sides) (s : Search) (r : Region) (most : ℕ) → IsSearch q s → Reach q.inst r → lookup (same_key (key_of r)) s.memo.entries ≡ None
    → IsDistinct same_key (keys_of s.memo.entries) → most ≤ length s.memo.entries → HasMore q.inst most
full q s r most h w none d m =
    let es = s.memo.entries in
    let long : most ≤ length (regions es) = omega (arith, length-map es (λ (e : Key × Known). region_of e.0), m) in
    let front = take most (regions es) in
    record {
      members = r ∷ front;
      count = omega (arith, length-take-le most (regions es) long);
      each = All-cons (Reach q.inst) r front w (All-take (Reach q.inst) most (regions es) (each q.inst es (λ e c. (h.memo e c).reach)));
      different = AllPairs-cons Differ r front
          (All-take (Differ r) most (regions es) (apart-all r es (none_passes_from_lookup (same_key (key_of r)) es none)))
          (AllPairs-take Differ most (regions es) (different es d));
    }
