-- What is known after a region came into the memo, or after its bounds came nearer.
use Rattle.std.proofs.Common.{◌≡◌, ℕ, Bool, ◌+◌, ◌-◌, ◌≤◌, ◌<◌, true, false, refl, ap, sym, ◌∙◌, subst, arith, List, [], ◌∷◌, Option, Some, None, IsSome, Result, Ok, Err, OnOk, length}
use Rattle.std.specs.List.{sum_by}
use Rattle.std.specs.Map.{lookup, lookup_entry, remove_entry, values_of}
use Rattle.std.specs.Option.{option_map}
use Rattle.std.proofs.lemmas.Bool.{eq-eqb}
use Rattle.std.proofs.lemmas.List.{take_all}
use Rattle.std.proofs.lemmas.List.Sums.{sum_by-cons}
use Rattle.std.proofs.lemmas.Map.Entries.{sum_by-remove_entry}
use Rattle.lru.specs.LruCache.{LruCache, lru_cache, put_entries}
use Rattle.lru.proofs.CallerLemmas.{Contains-lookup_entry}
use Rattle.lru.proofs.Pairs.{lookup-lookup_entry}
use Rattle.plan_geometry.specs.declared.instances.Inst.{Inst}
use Rattle.block_tree.specs.declared.regions.Region.{Region}
use Rattle.l_patterns.specs.declared.knowledge.Key.{Key}
use Rattle.l_patterns.specs.declared.knowledge.Known.{Known}
use Rattle.l_patterns.specs.Keys.{key_of, same_key}
use Rattle.l_patterns.specs.Progress.{fresh_of, known_of, HasRegion, gap_of, gaps_of, Narrows, Enters}
use Rattle.l_patterns.proofs.MemoLemmas.{same-key}

pub on-ok : {A E P Q : Type 0} (r : Result A E) → (P → Q) → OnOk r P → OnOk r Q
on-ok (Ok x) f h = f h
on-ok (Err e) f h = tt

-- ---- what `put` leaves

entry-none : (o : Option (Key × Known)) → option_map (λ (e : Key × Known). e.1) o ≡ None → o ≡ None
entry-none None h = refl
entry-none (Some e) h = cc

entry-some : (o : Option (Key × Known)) (v : Known) → option_map (λ (e : Key × Known). e.1) o ≡ Some v → (e : Key × Known) × (o ≡ Some e)
entry-some None v h = cc
entry-some (Some e) v h = (e, refl)

put-new : (m : LruCache Key Known) (k : Key) (v : Known) → lookup (same_key k) m.entries ≡ None → length m.entries < m.cap → put_entries same_key m k v ≡ (k, v) ∷ m.entries
put-new m k v h w =
    let e = entry-none (lookup_entry (same_key k) m.entries) (lookup-lookup_entry (same_key k) m.entries ∙ h) in
    rw (e, take_all (m.cap - 1) m.entries (omega (arith, w))) refl

put-at : (m : LruCache Key Known) (k : Key) (v : Known) (e : Key × Known) → lookup_entry (same_key k) m.entries ≡ Some e → put_entries same_key m k v ≡ (e.0, v) ∷ remove_entry (same_key k) m.entries
put-at m k v e h = rw h refl

put-old : (m : LruCache Key Known) (k : Key) (v o : Known) → lookup (same_key k) m.entries ≡ Some o
    → (j : Key) × (same_key k j ≡ true) × (put_entries same_key m k v ≡ (j, v) ∷ remove_entry (same_key k) m.entries)
put-old m k v o h =
    let e = entry-some (lookup_entry (same_key k) m.entries) o (lookup-lookup_entry (same_key k) m.entries ∙ h) in
    (e.0.0, (Contains-lookup_entry (same_key k) m.entries e.0 e.1).1, put-at m k v e.0 e.1)

-- ---- keys

pub key-refl : (k : Key) → same_key k k ≡ true
key-refl k = rw (eq-eqb k.big_x k.big_x refl, eq-eqb k.big_y k.big_y refl, eq-eqb k.small_x k.small_x refl, eq-eqb k.small_y k.small_y refl) refl

-- the key of one region is not that of another
other-key : (r t : Region) (j : Key) → same_key (key_of r) j ≡ true → (t ≡ r → ⊥) → same_key (key_of t) j ≡ false
other-key r t j h d = go (same_key (key_of t) j) refl where
  go : (b : Bool) → same_key (key_of t) j ≡ b → b ≡ false
  go true e = absurd (d (same-key t j e ∙ sym (same-key r j h)))
  go false e = refl

lookup-other : (r t : Region) → (t ≡ r → ⊥) → (es : List (Key × Known)) → lookup (same_key (key_of t)) (remove_entry (same_key (key_of r)) es) ≡ lookup (same_key (key_of t)) es
lookup-other r t d [] = refl
lookup-other r t d (e ∷ es) = go (same_key (key_of r) e.0) refl (lookup-other r t d es) where
  go : (b : Bool) → same_key (key_of r) e.0 ≡ b → lookup (same_key (key_of t)) (remove_entry (same_key (key_of r)) es) ≡ lookup (same_key (key_of t)) es
      → lookup (same_key (key_of t)) (remove_entry (same_key (key_of r)) (e ∷ es)) ≡ lookup (same_key (key_of t)) (e ∷ es)
  go true h k = rw (h, other-key r t e.0 h d) refl
  go false h k = rw (h, k) refl

length-removed : (k : Key) (o : Known) (es : List (Key × Known)) → lookup (same_key k) es ≡ Some o → length (remove_entry (same_key k) es) + 1 ≡ length es
length-removed k o [] h = cc
length-removed k o (e ∷ es) h = go (same_key k e.0) refl (length-removed k o es) where
  go : (b : Bool) → same_key k e.0 ≡ b → (lookup (same_key k) es ≡ Some o → length (remove_entry (same_key k) es) + 1 ≡ length es) → length (remove_entry (same_key k) (e ∷ es)) + 1 ≡ length (e ∷ es)
  go true w f = rw w (omega arith)
  go false w f = rw w (omega (arith, f (rw w at h)))

-- ---- a region comes into the memo

known-same : (i : Inst) (m n : LruCache Key Known) (r : Region) → n.entries ≡ (key_of r, fresh_of i r) ∷ m.entries → lookup (same_key (key_of r)) m.entries ≡ None
    → (t : Region) → known_of i n t ≡ known_of i m t
known-same i m n r e none t = go (same_key (key_of t) (key_of r)) refl where
  at-root : known_of i n r ≡ known_of i m r
  at-root = rw (e, none, key-refl (key_of r)) refl

  go : (b : Bool) → same_key (key_of t) (key_of r) ≡ b → known_of i n t ≡ known_of i m t
  go true h = subst (λ (z : Region). known_of i n z ≡ known_of i m z) (sym (same-key t (key_of r) h)) at-root
  go false h = rw (e, h) refl

pub entered : (i : Inst) (most : ℕ) (r : Region) (m n : LruCache Key Known) → lookup (same_key (key_of r)) m.entries ≡ None → length m.entries < most → most ≤ m.cap
    → n ≡ lru_cache (put_entries same_key m (key_of r) (fresh_of i r)) m.cap → gap_of (fresh_of i r) ≤ 16000000 → Enters i most r m n
entered i most r m n none few room is small =
    let e : n.entries ≡ (key_of r, fresh_of i r) ∷ m.entries = ap (λ (c : LruCache Key Known). c.entries) is ∙ put-new m (key_of r) (fresh_of i r) none (omega (arith, few, room)) in
    let g : gaps_of n ≡ gap_of (fresh_of i r) + gaps_of m = rw e (sum_by-cons gap_of (fresh_of i r) (values_of m.entries)) in
    let l : length n.entries ≡ length m.entries + 1 = rw e (omega arith) in
    record {
      cap = ap (λ (c : LruCache Key Known). c.cap) is;
      there = rw (e, key-refl (key_of r)) refl;
      less = omega (arith, g, l, small, few);
      same = known-same i m n r e none;
    }

-- ---- the bounds of a region come nearer

known-other : (i : Inst) (m n : LruCache Key Known) (r t : Region) (k : Known) (j : Key) → n.entries ≡ (j, k) ∷ remove_entry (same_key (key_of r)) m.entries
    → same_key (key_of r) j ≡ true → (t ≡ r → ⊥) → known_of i n t ≡ known_of i m t
known-other i m n r t k j e h d = rw (e, other-key r t j h d, lookup-other r t d m.entries) refl

some-of : (o : Option Known) → IsSome o → (k : Known) × (o ≡ Some k)
some-of None h = cc
some-of (Some k) h = (k, refl)

known-is : (i : Inst) (m : LruCache Key Known) (r : Region) (o : Known) → lookup (same_key (key_of r)) m.entries ≡ Some o → known_of i m r ≡ o
known-is i m r o h = rw h refl

narrowed-from : (i : Inst) (r : Region) (m n : LruCache Key Known) (k o : Known) → lookup (same_key (key_of r)) m.entries ≡ Some o → n ≡ lru_cache (put_entries same_key m (key_of r) k) m.cap
    → gap_of k < gap_of (known_of i m r) → Narrows i r m n
narrowed-from i r m n k o there is less =
    let p = put-old m (key_of r) k o there in
    let e : n.entries ≡ (p.0, k) ∷ remove_entry (same_key (key_of r)) m.entries = ap (λ (c : LruCache Key Known). c.entries) is ∙ p.2 in
    let g : gaps_of n ≡ gap_of k + sum_by gap_of (values_of (remove_entry (same_key (key_of r)) m.entries)) =
    ap (λ (es : List (Key × Known)). sum_by gap_of (values_of es)) e ∙ sum_by-cons gap_of k (values_of (remove_entry (same_key (key_of r)) m.entries)) in
    let s : sum_by gap_of (values_of (remove_entry (same_key (key_of r)) m.entries)) + gap_of o ≡ gaps_of m =
    rw there at (sum_by-remove_entry gap_of (same_key (key_of r)) m.entries) in
    let l : length n.entries ≡ length (remove_entry (same_key (key_of r)) m.entries) + 1 = ap (λ (es : List (Key × Known)). length es) e ∙ omega arith in
    let near : gap_of k < gap_of o = subst (λ (z : Known). gap_of k < gap_of z) (known-is i m r o there) less in
    record {
      cap = ap (λ (c : LruCache Key Known). c.cap) is;
      count = l ∙ length-removed (key_of r) o m.entries there;
      nearer = omega (arith, g, s, near);
      others = λ t d. known-other i m n r t k p.0 e p.1 d;
    }

pub narrowed : (i : Inst) (r : Region) (m n : LruCache Key Known) (k : Known) → HasRegion m r → n ≡ lru_cache (put_entries same_key m (key_of r) k) m.cap
    → gap_of k < gap_of (known_of i m r) → Narrows i r m n
narrowed i r m n k there is less = let o = some-of (lookup (same_key (key_of r)) m.entries) there in narrowed-from i r m n k o.0 o.1 is less
