-- Two layouts and their images under one move meet the same rules.
use Rattle.std.proofs.Common.{◌≡◌, ℕ, ◌+◌, ◌-◌, ◌*◌, ◌<◌, ◌≤◌, ltb, cond, List, [], ◌∷◌, length, get_or, map, min, max, ap, sym, subst, refl, ◌∙◌, inl, inr, arith, IsPermutation}
use Rattle.std.specs.List.{All, Any, sum_by}
use Rattle.std.proofs.Math.Nat.{mul_comm}
use Rattle.std.proofs.lemmas.List.{get_or-map, get_or_default, length-map}
use Rattle.std.proofs.lemmas.List.Elements.{All-map, All-tail}
use Rattle.std.proofs.lemmas.List.Sums.{sum_by-cons}
use Rattle.std.proofs.lemmas.List.Sorted.{All-permutation, Contains-permutation, sum_by-IsPermutation, IsPermutation-sym}
use Rattle.plan_geometry.specs.declared.spots.Axis.{Axis}
use Rattle.plan_geometry.specs.declared.spots.Axis.TheVariants.{X, Y}
use Rattle.plan_geometry.specs.declared.spots.Spot.{Spot}
use Rattle.plan_geometry.specs.declared.instances.Inst.{Inst}
use Rattle.plan_geometry.specs.Layout.{start, IsInside}
use Rattle.layer_symmetry.specs.declared.symmetries.Move.{Move}
use Rattle.layer_symmetry.specs.declared.symmetries.Move.TheVariants.{Same, MirrorX, MirrorY, HalfTurn, Diagonal, Anti, Left, Right}
use Rattle.layer_symmetry.specs.Moves.{IsLawfulMove, mirror_x, mirror_y, exchanged, image_spot, IsImage}
use Rattle.layer_symmetry.proofs.TurnSteps.{extents-turned, Keeps-image}
use Rattle.contact_rules.specs.declared.rules.Rule.{Rule}
use Rattle.contact_rules.specs.declared.rules.Rule.TheVariants.{Contact, Support, Cut}
use Rattle.contact_rules.specs.Real.{IsGapOf, other, real_side, real_finish}
use Rattle.contact_rules.specs.Shared.{shared, total_shared, supporters}
use Rattle.contact_rules.specs.Cut.{EachCase, SomeCase, Counts, Crosses, IsRun}
use Rattle.contact_rules.specs.Rules.{Touches, KeepsCuts, Meets}
use Rattle.contact_rules.specs.Steps.{overlap}
use Rattle.contact_rules.proofs.CellSteps.{shared-product}
use Rattle.contact_rules.proofs.RunSteps.{SomeCase-with, SomeCase-weaker, EachCase-with, extent-gap, corner}

-- ---- lists

All-unmap : (P : Spot → Type 0) (f : Spot → Spot) (xs : List Spot) → All P (map f xs) → All (λ s. P (f s)) xs
All-unmap P f xs h = λ k d p. rw (get_or-map f xs k d (f d) p) at (h k (f d) (omega (arith, length-map xs f)))

Any-unmap : (P : Spot → Type 0) (f : Spot → Spot) (xs : List Spot) → Any P (map f xs) → Any (λ s. P (f s)) xs
Any-unmap P f xs h =
    let lt : h.0 < length xs = omega (arith, h.2, length-map xs f) in
    let s = get_or xs h.0 corner in
    let e : f s ≡ h.1 = sym (get_or-map f xs h.0 corner h.1 lt) ∙ h.3 in
    (h.0, s, lt, get_or_default xs h.0 s corner lt, subst (λ t. P t) (sym e) h.4)

EachCase-unmap : (P : Spot → Type 0) (f : Spot → Spot) (l u : List Spot) → EachCase P (map f l) (map f u) → EachCase (λ s. P (f s)) l u
EachCase-unmap P f l u h = (All-unmap P f l h.0, All-unmap P f u h.1)

SomeCase-unmap : (P : Spot → Type 0) (f : Spot → Spot) (l u : List Spot) → SomeCase P (map f l) (map f u) → SomeCase (λ s. P (f s)) l u
SomeCase-unmap P f l u h = elim h [ inl a ↦ inl (Any-unmap P f l a) | inr a ↦ inr (Any-unmap P f u a) ]

Any-permutation : (P : Spot → Type 0) (xs ys : List Spot) → IsPermutation xs ys → Any P xs → Any P ys
Any-permutation P xs ys p h =
    let c = Contains-permutation xs ys h.1 p (h.0, h.2, h.3) in
    (c.0, h.1, c.1, c.2, h.4)

-- ---- a rule does not depend on the order in which the cases are listed

counts-permuted : (a : Axis) (I : Inst) (g : ℕ) (l u l' u' : List Spot) (line : ℕ) → IsPermutation l l' → IsPermutation u u' → Counts a I g l u line → Counts a I g l' u' line
counts-permuted a I g l u l' u' line p q c =
    record {
      positive = c.positive;
      within = c.within;
      some_before = elim c.some_before [
        | inl x ↦ inl (Any-permutation (λ s. real_finish a I g s ≤ line) l l' p x)
        | inr x ↦ inr (Any-permutation (λ s. real_finish a I g s ≤ line) u u' q x)
      ];
      some_after = elim c.some_after [
        | inl x ↦ inl (Any-permutation (λ s. line ≤ start a s) l l' p x)
        | inr x ↦ inr (Any-permutation (λ s. line ≤ start a s) u u' q x)
      ];
    }

run-permuted : (a : Axis) (I : Inst) (g : ℕ) (l u l' u' : List Spot) (line row n : ℕ) → IsPermutation l l' → IsPermutation u u' → IsRun a I g l u line row n → IsRun a I g l' u' line row n
run-permuted a I g l u l' u' line row n p q r =
    record {
      within = r.within;
      uncrossed = λ k x y.
          let z = r.uncrossed k x y in
          (All-permutation (λ s. ¬ Crosses a I g line k s) l l' p z.0, All-permutation (λ s. ¬ Crosses a I g line k s) u u' q z.1);
    }

cuts-permuted : (a : Axis) (I : Inst) (g percent : ℕ) (l u l' u' : List Spot) → IsPermutation l l' → IsPermutation u u' → KeepsCuts a I g l u percent → KeepsCuts a I g l' u' percent
cuts-permuted a I g percent l u l' u' p q h = λ line row n c r.
    let p' = IsPermutation-sym l l' p in
    let q' = IsPermutation-sym u u' q in
    h line row n (counts-permuted a I g l' u' l u line p' q' c) (run-permuted a I g l' u' l u line row n p' q' r)

pub meets-permuted : (I : Inst) (g : ℕ) (rule : Rule) (l u l' u' : List Spot) → IsPermutation l l' → IsPermutation u u' → Meets I g rule l u → Meets I g rule l' u'
meets-permuted I g (Contact percent) l u l' u' p q h = λ k d lt.
    let s = get_or u' k d in
    let t : Touches I g percent l s = All-permutation (Touches I g percent l) u u' q h k d lt in
    let e : total_shared I g l' s ≡ total_shared I g l s = sum_by-IsPermutation (λ (t : Spot). shared I g s t) l l' p in
    subst (λ n. percent * ((I.long - g) * (I.short - g)) ≤ n * 100) (sym e) t
meets-permuted I g Support l u l' u' p q h = λ k d lt.
    let s = get_or u' k d in
    let t : 2 ≤ supporters I g l s = All-permutation (λ s. 2 ≤ supporters I g l s) u u' q h k d lt in
    let e : supporters I g l' s ≡ supporters I g l s = sum_by-IsPermutation (λ (t : Spot). cond (ltb 0 (shared I g s t)) 1 0) l l' p in
    subst (λ n. 2 ≤ n) (sym e) t
meets-permuted I g (Cut percent) l u l' u' p q h =
    (cuts-permuted X I g percent l u l' u' p q h.0, cuts-permuted Y I g percent l u l' u' p q h.1)

-- ---- what a mirror does: along one direction a case's ends change places, along the other they stay

record IsMirrored (a b : Axis) (I : Inst) (g : ℕ) (s t : Spot) : Type 0 where
  starts : start a t + real_finish a I g s ≡ real_side a I g
  finishes : real_finish a I g t + start a s ≡ real_side a I g
  start_stays : start b t ≡ start b s
  finish_stays : real_finish b I g t ≡ real_finish b I g s

mirrored-x : (I : Inst) (g : ℕ) (s : Spot) → IsGapOf I g → IsInside I s → IsMirrored X Y I g s (mirror_x I s)
mirrored-x I g s gap i =
    record {
      starts = omega (arith, extent-gap X I g s.way gap, i.in_x);
      finishes = omega (arith, extent-gap X I g s.way gap, i.in_x);
      start_stays = refl;
      finish_stays = refl;
    }

mirrored-y : (I : Inst) (g : ℕ) (s : Spot) → IsGapOf I g → IsInside I s → IsMirrored Y X I g s (mirror_y I s)
mirrored-y I g s gap i =
    record {
      starts = omega (arith, extent-gap Y I g s.way gap, i.in_y);
      finishes = omega (arith, extent-gap Y I g s.way gap, i.in_y);
      start_stays = refl;
      finish_stays = refl;
    }

-- two spans seen in a mirror overlap as far as before
spans-mirrored : (side s f t h s' f' t' h' : ℕ) → s' + f ≡ side → f' + s ≡ side → t' + h ≡ side → h' + t ≡ side → min f' h' - max s' t' ≡ min f h - max s t
spans-mirrored side s f t h s' f' t' h' a b c d = omega arith

spans-same : (s f t h s' f' t' h' : ℕ) → s' ≡ s → f' ≡ f → t' ≡ t → h' ≡ h → min f' h' - max s' t' ≡ min f h - max s t
spans-same s f t h s' f' t' h' a b c d = rw (a, b, c, d) refl

overlap-mirrored : (a b : Axis) (I : Inst) (g : ℕ) (s t s' t' : Spot) → IsMirrored a b I g s s' → IsMirrored a b I g t t' → overlap a I g s' t' ≡ overlap a I g s t
overlap-mirrored a b I g s t s' t' m n =
    spans-mirrored (real_side a I g) (start a s) (real_finish a I g s) (start a t) (real_finish a I g t) (start a s') (real_finish a I g s') (start a t') (real_finish a I g t') m.starts m.finishes n.starts n.finishes

overlap-stays : (a b : Axis) (I : Inst) (g : ℕ) (s t s' t' : Spot) → IsMirrored a b I g s s' → IsMirrored a b I g t t' → overlap b I g s' t' ≡ overlap b I g s t
overlap-stays a b I g s t s' t' m n =
    spans-same (start b s) (real_finish b I g s) (start b t) (real_finish b I g t) (start b s') (real_finish b I g s') (start b t') (real_finish b I g t') m.start_stays m.finish_stays n.start_stays n.finish_stays

shared-same : (I : Inst) (g : ℕ) (s t s' t' : Spot) → IsGapOf I g → IsInside I s → IsInside I s' → overlap X I g s' t' ≡ overlap X I g s t → overlap Y I g s' t' ≡ overlap Y I g s t → shared I g s' t' ≡ shared I g s t
shared-same I g s t s' t' gap i j x y =
    shared-product I g s' t' gap j ∙ (ap (λ n. n * overlap Y I g s' t') x ∙ (ap (λ n. overlap X I g s t * n) y ∙ sym (shared-product I g s t gap i)))

-- ---- what makes a map of cases keep the rules

-- a map of cases that keeps what two cases share, and the cut rule
pub record KeepsRules (I : Inst) (g : ℕ) (f : Spot → Spot) : Type 0 where
  pub shares : (s t : Spot) → IsInside I s → IsInside I t → shared I g (f s) (f t) ≡ shared I g s t
  pub cuts : (percent : ℕ) (l u : List Spot) → All (IsInside I) l → All (IsInside I) u → Meets I g (Cut percent) l u → Meets I g (Cut percent) (map f l) (map f u)

-- ---- the cut rule in a mirror

-- a line across the direction in which the cases are mirrored: the line is mirrored too
line-crossed : (a b : Axis) (I : Inst) (g line line' k : ℕ) (s t : Spot) → other a ≡ b → IsMirrored a b I g s t → line' + line ≡ real_side a I g → Crosses a I g line' k s → Crosses a I g line k t
line-crossed a b I g line line' k s t e m p c =
    let m' : IsMirrored a (other a) I g s t = subst (λ d. IsMirrored a d I g s t) (sym e) m in
    record {
      row_from = omega (arith, c.row_from, m'.start_stays);
      row_to = omega (arith, c.row_to, m'.finish_stays);
      begins_before = omega (arith, c.ends_after, m.starts);
      ends_after = omega (arith, c.begins_before, m.finishes);
    }

lines-mirrored : (a b : Axis) (I : Inst) (g percent : ℕ) (f : Spot → Spot) → other a ≡ b → ((s : Spot) → IsInside I s → IsMirrored a b I g s (f s)) → (l u : List Spot) → All (IsInside I) l → All (IsInside I) u → KeepsCuts a I g l u percent → KeepsCuts a I g (map f l) (map f u) percent
lines-mirrored a b I g percent f e m l u il iu h = λ line row n c r.
    let line' = real_side a I g - line in
    let p : line' + line ≡ real_side a I g = omega (arith, c.within) in
    let counts : Counts a I g l u line' =
    record {
      positive = omega (arith, c.within);
      within = omega (arith, c.positive, c.within);
      some_before = SomeCase-with (λ s. line ≤ start a (f s)) (IsInside I) (λ s. real_finish a I g s ≤ line') (λ s x y. omega (arith, (m s y).starts, x)) l u (SomeCase-unmap (λ s. line ≤ start a s) f l u c.some_after) (il, iu);
      some_after = SomeCase-with (λ s. real_finish a I g (f s) ≤ line) (IsInside I) (λ s. line' ≤ start a s) (λ s x y. omega (arith, (m s y).finishes, x)) l u (SomeCase-unmap (λ s. real_finish a I g s ≤ line) f l u c.some_before) (il, iu);
    } in
    let run : IsRun a I g l u line' row n =
    record {
      within = r.within;
      uncrossed = λ k x y. EachCase-with (λ s. ¬ Crosses a I g line k (f s)) (IsInside I) (λ s. ¬ Crosses a I g line' k s) (λ s free i cr. free (line-crossed a b I g line line' k s (f s) e (m s i) p cr)) l u (EachCase-unmap (λ s. ¬ Crosses a I g line k s) f l u (r.uncrossed k x y)) (il, iu);
    } in
    h line' row n counts run

-- a line along the direction in which the cases are mirrored: its rows are mirrored
row-crossed : (a b : Axis) (I : Inst) (g line k k' : ℕ) (s t : Spot) → other b ≡ a → IsMirrored a b I g s t → k + k' + 1 ≡ real_side a I g → Crosses b I g line k s → Crosses b I g line k' t
row-crossed a b I g line k k' s t e m p c =
    let m' : IsMirrored (other b) b I g s t = subst (λ d. IsMirrored d b I g s t) (sym e) m in
    let p' : k + k' + 1 ≡ real_side (other b) I g = subst (λ d. k + k' + 1 ≡ real_side d I g) (sym e) p in
    record {
      row_from = omega (arith, c.row_to, m'.starts);
      row_to = omega (arith, c.row_from, m'.finishes);
      begins_before = omega (arith, c.begins_before, m'.start_stays);
      ends_after = omega (arith, c.ends_after, m'.finish_stays);
    }

rows-mirrored : (a b : Axis) (I : Inst) (g percent : ℕ) (f : Spot → Spot) → other b ≡ a → ((s : Spot) → IsInside I s → IsMirrored a b I g s (f s)) → (l u : List Spot) → All (IsInside I) l → All (IsInside I) u → KeepsCuts b I g l u percent → KeepsCuts b I g (map f l) (map f u) percent
rows-mirrored a b I g percent f e m l u il iu h = λ line row n c r.
    let far : row + n ≤ real_side a I g = subst (λ d. row + n ≤ real_side d I g) e r.within in
    let row' = real_side a I g - (row + n) in
    let counts : Counts b I g l u line =
    record {
      positive = c.positive;
      within = c.within;
      some_before = SomeCase-with (λ s. real_finish b I g (f s) ≤ line) (IsInside I) (λ s. real_finish b I g s ≤ line) (λ s x y. omega (arith, (m s y).finish_stays, x)) l u (SomeCase-unmap (λ s. real_finish b I g s ≤ line) f l u c.some_before) (il, iu);
      some_after = SomeCase-with (λ s. line ≤ start b (f s)) (IsInside I) (λ s. line ≤ start b s) (λ s x y. omega (arith, (m s y).start_stays, x)) l u (SomeCase-unmap (λ s. line ≤ start b s) f l u c.some_after) (il, iu);
    } in
    let run : IsRun b I g l u line row' n =
    record {
      within = let w : row' + n ≤ real_side a I g = omega arith in subst (λ d. row' + n ≤ real_side d I g) (sym e) w;
      uncrossed = λ k x y.
          let k' = real_side a I g - 1 - k in
          let p : k + k' + 1 ≡ real_side a I g = omega arith in
          EachCase-with (λ s. ¬ Crosses b I g line k' (f s)) (IsInside I) (λ s. ¬ Crosses b I g line k s) (λ s free i cr. free (row-crossed a b I g line k k' s (f s) e (m s i) p cr)) l u (EachCase-unmap (λ s. ¬ Crosses b I g line k' s) f l u (r.uncrossed k' (omega arith) (omega arith))) (il, iu);
    } in
    h line row' n counts run

KeepsRules-mirror_x : (I : Inst) (g : ℕ) → IsGapOf I g → KeepsRules I g (λ s. mirror_x I s)
KeepsRules-mirror_x I g gap =
    record {
      shares = λ s t i j.
          let m = mirrored-x I g s gap i in
          let n = mirrored-x I g t gap j in
          shared-same I g s t (mirror_x I s) (mirror_x I t) gap i ((Keeps-image I MirrorX tt).inside s i) (overlap-mirrored X Y I g s t (mirror_x I s) (mirror_x I t) m n) (overlap-stays X Y I g s t (mirror_x I s) (mirror_x I t) m n);
      cuts = λ percent l u il iu h. (
        lines-mirrored X Y I g percent (λ s. mirror_x I s) refl (λ s i. mirrored-x I g s gap i) l u il iu h.0,
        rows-mirrored X Y I g percent (λ s. mirror_x I s) refl (λ s i. mirrored-x I g s gap i) l u il iu h.1,
      );
    }

KeepsRules-mirror_y : (I : Inst) (g : ℕ) → IsGapOf I g → KeepsRules I g (λ s. mirror_y I s)
KeepsRules-mirror_y I g gap =
    record {
      shares = λ s t i j.
          let m = mirrored-y I g s gap i in
          let n = mirrored-y I g t gap j in
          shared-same I g s t (mirror_y I s) (mirror_y I t) gap i ((Keeps-image I MirrorY tt).inside s i) (overlap-stays Y X I g s t (mirror_y I s) (mirror_y I t) m n) (overlap-mirrored Y X I g s t (mirror_y I s) (mirror_y I t) m n);
      cuts = λ percent l u il iu h. (
        rows-mirrored Y X I g percent (λ s. mirror_y I s) refl (λ s i. mirrored-y I g s gap i) l u il iu h.0,
        lines-mirrored Y X I g percent (λ s. mirror_y I s) refl (λ s i. mirrored-y I g s gap i) l u il iu h.1,
      );
    }

-- ---- the cut rule where the directions are exchanged

record IsExchanged (a : Axis) (I : Inst) (g : ℕ) (s t : Spot) : Type 0 where
  starts : start a t ≡ start (other a) s
  finishes : real_finish a I g t ≡ real_finish (other a) I g s

exchanged-x : (I : Inst) (g : ℕ) (s : Spot) → IsExchanged X I g s (exchanged I s)
exchanged-x I g s = record { starts = refl; finishes = ap (λ n. s.y + (n - g)) (extents-turned I s.way).0 }

exchanged-y : (I : Inst) (g : ℕ) (s : Spot) → IsExchanged Y I g s (exchanged I s)
exchanged-y I g s = record { starts = refl; finishes = ap (λ n. s.x + (n - g)) (extents-turned I s.way).1 }

exchanged-along : (a : Axis) (I : Inst) (g : ℕ) (s : Spot) → IsExchanged a I g s (exchanged I s)
exchanged-along X I g s = exchanged-x I g s
exchanged-along Y I g s = exchanged-y I g s

sides-equal : (a : Axis) (I : Inst) (g : ℕ) → I.l_side ≡ I.w_side → real_side a I g ≡ real_side (other a) I g
sides-equal X I g e = ap (λ n. n - g) e
sides-equal Y I g e = ap (λ n. n - g) (sym e)

exchange-crossed : (a : Axis) (I : Inst) (g line k : ℕ) (s : Spot) → Crosses (other a) I g line k s → Crosses a I g line k (exchanged I s)
exchange-crossed a I g line k s c =
    let m = exchanged-along a I g s in
    let n = exchanged-along (other a) I g s in
    record {
      row_from = omega (arith, c.row_from, n.starts);
      row_to = omega (arith, c.row_to, n.finishes);
      begins_before = omega (arith, c.begins_before, m.starts);
      ends_after = omega (arith, c.ends_after, m.finishes);
    }

cuts-exchanged : (a : Axis) (I : Inst) (g percent : ℕ) → I.l_side ≡ I.w_side → (l u : List Spot) → KeepsCuts (other a) I g l u percent → KeepsCuts a I g (map (λ s. exchanged I s) l) (map (λ s. exchanged I s) u) percent
cuts-exchanged a I g percent e l u h = λ line row n c r.
    let f : Spot → Spot = λ s. exchanged I s in
    let side : real_side a I g ≡ real_side (other a) I g = sides-equal a I g e in
    let across : real_side (other a) I g ≡ real_side (other (other a)) I g = sides-equal (other a) I g e in
    let counts : Counts (other a) I g l u line =
    record {
      positive = c.positive;
      within = omega (arith, c.within);
      some_before = SomeCase-weaker (λ s. real_finish a I g (exchanged I s) ≤ line) (λ s. real_finish (other a) I g s ≤ line) (λ s x. omega (arith, (exchanged-along a I g s).finishes, x)) l u (SomeCase-unmap (λ s. real_finish a I g s ≤ line) (λ s. exchanged I s) l u c.some_before);
      some_after = SomeCase-weaker (λ s. line ≤ start a (exchanged I s)) (λ s. line ≤ start (other a) s) (λ s x. omega (arith, (exchanged-along a I g s).starts, x)) l u (SomeCase-unmap (λ s. line ≤ start a s) (λ s. exchanged I s) l u c.some_after);
    } in
    let run : IsRun (other a) I g l u line row n =
    record {
      within = omega (arith, r.within);
      uncrossed = λ k x y.
          let z = EachCase-unmap (λ s. ¬ Crosses a I g line k s) (λ s. exchanged I s) l u (r.uncrossed k x y) in (
            λ i d lt cr. z.0 i d lt (exchange-crossed a I g line k (get_or l i d) cr),
            λ i d lt cr. z.1 i d lt (exchange-crossed a I g line k (get_or u i d) cr),
          );
    } in
    let kept : n * 100 ≤ percent * real_side (other (other a)) I g = h line row n counts run in
    subst (λ m. n * 100 ≤ percent * m) (sym across) kept

KeepsRules-exchanged : (I : Inst) (g : ℕ) → IsGapOf I g → I.l_side ≡ I.w_side → KeepsRules I g (λ s. exchanged I s)
KeepsRules-exchanged I g gap e =
    record {
      shares = λ s t i j.
          let s' = exchanged I s in
          let t' = exchanged I t in
          let sx = exchanged-x I g s in
          let sy = exchanged-y I g s in
          let tx = exchanged-x I g t in
          let ty = exchanged-y I g t in
          let x : overlap X I g s' t' ≡ overlap Y I g s t = spans-same (start Y s) (real_finish Y I g s) (start Y t) (real_finish Y I g t) (start X s') (real_finish X I g s') (start X t') (real_finish X I g t') sx.starts sx.finishes tx.starts tx.finishes in
          let y : overlap Y I g s' t' ≡ overlap X I g s t = spans-same (start X s) (real_finish X I g s) (start X t) (real_finish X I g t) (start Y s') (real_finish Y I g s') (start Y t') (real_finish Y I g t') sy.starts sy.finishes ty.starts ty.finishes in
          let turned : overlap Y I g s t * overlap X I g s t ≡ overlap X I g s t * overlap Y I g s t = mul_comm (overlap Y I g s t) (overlap X I g s t) in
          shared-product I g s' t' gap ((Keeps-image I Diagonal e).inside s i) ∙ (ap (λ n. n * overlap Y I g s' t') x ∙ (ap (λ n. overlap Y I g s t * n) y ∙ (turned ∙ sym (shared-product I g s t gap i))));
      cuts = λ percent l u il iu h. (cuts-exchanged X I g percent e l u h.1, cuts-exchanged Y I g percent e l u h.0);
    }

-- ---- each move is mirrors after an exchange

inside-mapped : (I : Inst) (f : Spot → Spot) → ((s : Spot) → IsInside I s → IsInside I (f s)) → (l : List Spot) → All (IsInside I) l → All (IsInside I) (map f l)
inside-mapped I f keeps l il = All-map (IsInside I) f l (λ k d lt. keeps (get_or l k d) (il k d lt))

pub map-after : (f h : Spot → Spot) (l : List Spot) → map f (map h l) ≡ map (λ s. f (h s)) l
map-after f h [] = refl
map-after f h (s ∷ l) = ap (λ r. f (h s) ∷ r) (map-after f h l)

KeepsRules-after : (I : Inst) (g : ℕ) (f h : Spot → Spot) → ((s : Spot) → IsInside I s → IsInside I (h s)) → KeepsRules I g f → KeepsRules I g h → KeepsRules I g (λ s. f (h s))
KeepsRules-after I g f h keeps p q =
    record {
      shares = λ s t i j. p.shares (h s) (h t) (keeps s i) (keeps t j) ∙ q.shares s t i j;
      cuts = λ percent l u il iu c.
          let z = p.cuts percent (map h l) (map h u) (inside-mapped I h keeps l il) (inside-mapped I h keeps u iu) (q.cuts percent l u il iu c) in
          subst (λ r. Meets I g (Cut percent) (map (λ s. f (h s)) l) r) (map-after f h u) (subst (λ r. Meets I g (Cut percent) r (map f (map h u))) (map-after f h l) z);
    }

pub map-same : (l : List Spot) → map (λ s. s) l ≡ l
map-same [] = refl
map-same (s ∷ l) = ap (λ r. s ∷ r) (map-same l)

KeepsRules-same : (I : Inst) (g : ℕ) → KeepsRules I g (λ s. s)
KeepsRules-same I g =
    record {
      shares = λ s t i j. refl;
      cuts = λ percent l u il iu c.
          subst (λ r. Meets I g (Cut percent) (map (λ s. s) l) r) (sym (map-same u)) (subst (λ r. Meets I g (Cut percent) r u) (sym (map-same l)) c);
    }

pub KeepsRules-image : (I : Inst) (g : ℕ) (m : Move) → IsGapOf I g → IsLawfulMove I m → KeepsRules I g (λ s. image_spot I m s)
KeepsRules-image I g Same gap e = KeepsRules-same I g
KeepsRules-image I g MirrorX gap e = KeepsRules-mirror_x I g gap
KeepsRules-image I g MirrorY gap e = KeepsRules-mirror_y I g gap
KeepsRules-image I g HalfTurn gap e =
    KeepsRules-after I g (λ s. mirror_x I s) (λ s. mirror_y I s) (Keeps-image I MirrorY tt).inside (KeepsRules-mirror_x I g gap) (KeepsRules-mirror_y I g gap)
KeepsRules-image I g Diagonal gap e = KeepsRules-exchanged I g gap e
KeepsRules-image I g Anti gap e =
    KeepsRules-after I g (λ s. mirror_x I s) (λ s. mirror_y I (exchanged I s)) (Keeps-image I Right e).inside (KeepsRules-mirror_x I g gap) (
    KeepsRules-after I g (λ s. mirror_y I s) (λ s. exchanged I s) (Keeps-image I Diagonal e).inside (KeepsRules-mirror_y I g gap) (KeepsRules-exchanged I g gap e))
KeepsRules-image I g Left gap e =
    KeepsRules-after I g (λ s. mirror_x I s) (λ s. exchanged I s) (Keeps-image I Diagonal e).inside (KeepsRules-mirror_x I g gap) (KeepsRules-exchanged I g gap e)
KeepsRules-image I g Right gap e =
    KeepsRules-after I g (λ s. mirror_y I s) (λ s. exchanged I s) (Keeps-image I Diagonal e).inside (KeepsRules-mirror_y I g gap) (KeepsRules-exchanged I g gap e)

-- ---- the rules

-- what is summed over the images with an image is what is summed over the cases with the case
sum-mapped : (I : Inst) (g : ℕ) (f : Spot → Spot) (w : ℕ → ℕ) (s : Spot) → KeepsRules I g f → IsInside I s → (l : List Spot) → All (IsInside I) l → sum_by (λ (t : Spot). w (shared I g (f s) t)) (map f l) ≡ sum_by (λ (t : Spot). w (shared I g s t)) l
sum-mapped I g f w s keeps i [] il = refl
sum-mapped I g f w s keeps i (t ∷ l) il =
    let a = sum_by-cons (λ (t : Spot). w (shared I g (f s) t)) (f t) (map f l) in
    let b = sum_by-cons (λ (t : Spot). w (shared I g s t)) t l in
    let e : w (shared I g (f s) (f t)) ≡ w (shared I g s t) = ap w (keeps.shares s t i (il 0 t (omega arith))) in
    let r = sum-mapped I g f w s keeps i l (All-tail (IsInside I) t l il) in
    omega arith

pub meets-mapped : (I : Inst) (g : ℕ) (rule : Rule) (f : Spot → Spot) → KeepsRules I g f → (l u : List Spot) → All (IsInside I) l → All (IsInside I) u → Meets I g rule l u → Meets I g rule (map f l) (map f u)
meets-mapped I g (Contact percent) f keeps l u il iu h =
    All-map (Touches I g percent (map f l)) f u (λ k d lt.
    let s = get_or u k d in
    let e : total_shared I g (map f l) (f s) ≡ total_shared I g l s = sum-mapped I g f (λ n. n) s keeps (iu k d lt) l il in
    subst (λ n. percent * ((I.long - g) * (I.short - g)) ≤ n * 100) (sym e) (h k d lt))
meets-mapped I g Support f keeps l u il iu h =
    All-map (λ s. 2 ≤ supporters I g (map f l) s) f u (λ k d lt.
    let s = get_or u k d in
    let e : supporters I g (map f l) (f s) ≡ supporters I g l s = sum-mapped I g f (λ n. cond (ltb 0 n) 1 0) s keeps (iu k d lt) l il in
    subst (λ n. 2 ≤ n) (sym e) (h k d lt))
meets-mapped I g (Cut percent) f keeps l u il iu h = keeps.cuts percent l u il iu h

pub meets-image : (I : Inst) (g : ℕ) (m : Move) (rule : Rule) (l u l' u' : List Spot) → IsGapOf I g → IsLawfulMove I m → All (IsInside I) l → All (IsInside I) u → IsImage I m l l' → IsImage I m u u' → Meets I g rule l u → Meets I g rule l' u'
meets-image I g m rule l u l' u' gap lawful il iu p q h =
    meets-permuted I g rule (map (λ s. image_spot I m s) l) (map (λ s. image_spot I m s) u) l' u' p.same q.same (
    meets-mapped I g rule (λ s. image_spot I m s) (KeepsRules-image I g m gap lawful) l u il iu h)
