-- Blocks of a list of rows raised row by row.
use Rattle.std.proofs.Common.{◌≡◌, ℕ, ◌+◌, ◌*◌, ◌<◌, ◌≤◌, inl, inr, List, get_or, arith, ap, ◌∙◌, refl}
use Rattle.std.proofs.lemmas.Bool.{cases_lt}
use Rattle.std.proofs.lemmas.Nat.{mul-le}
use Rattle.dual_search.specs.Raising.{RaisesRow, Raises, IsInBlock, RiseByOne}

-- the first rows of a block are raised, and no entry from there on
pub record RaisesSome (width x y a j : ℕ) (old new : List ℕ) : Type 0 where
  pub raised : Raises width (IsInBlock x y a j) old new
  pub most : RiseByOne old new
  pub rest : (k : ℕ) → (y + j) * width ≤ k → get_or new k 0 ≡ get_or old k 0

pub some-start : (width x y a : ℕ) (xs : List ℕ) → RaisesSome width x y a 0 xs xs
some-start width x y a xs = record {
  raised = record { count = refl; more = λ u v lt p. absurd (omega (arith, p.2, p.3)); same = λ u v lt p. refl };
  most = λ k. omega arith;
  rest = λ k le. refl;
}

-- a place of an earlier row is before each of a later row
row-before : (width u v r k : ℕ) → u < width → v < r → v * width + u < r * width + k
row-before width u v r k lt below =
    let le = mul-le (v + 1) width r width (omega (arith, below)) (omega arith) in
    omega (arith, le, lt)

pub some-more :
    (width x y a j : ℕ) (old mid new : List ℕ)
    → x + a ≤ width
    → RaisesSome width x y a j old mid
    → RaisesRow ((y + j) * width + x) a mid new
    → RaisesSome width x y a (j + 1) old new
some-more width x y a j old mid new fits s r = record {
  raised = record {
    count = r.count ∙ s.raised.count;
    more = λ u v lt p. elim (cases_lt v (y + j)) [
      | inl early ↦
          let was = s.raised.more u v lt (p.0, p.1, p.2, early) in
          let now = r.same (v * width + u) (λ le. absurd (omega (arith, le, row-before width u v (y + j) x lt early))) in
          omega (arith, was, now)
      | inr late ↦
          let e : v ≡ y + j = omega (arith, late, p.3) in
          let at : v * width + u ≡ (y + j) * width + u = ap (λ w. w * width + u) e in
          let was = s.rest (v * width + u) (omega (arith, at)) in
          let now = r.more (v * width + u) (omega (arith, at, p.0)) (omega (arith, at, p.1)) in
          omega (arith, was, now)
    ];
    same = λ u v lt unfit.
        let was = s.raised.same u v lt (λ p. unfit (p.0, p.1, p.2, omega (arith, p.3))) in
        let now = r.same (v * width + u) (λ le. beyond u v lt unfit le) in
        omega (arith, was, now);
  };
  most = λ k. elim (cases_lt k ((y + j) * width)) [
    | inl early ↦ let now = r.same k (λ le. absurd (omega (arith, le, early))) in omega (arith, now, s.most k)
    | inr late ↦ elim (cases_lt k ((y + j) * width + x)) [
      | inl before ↦ let now = r.same k (λ le. absurd (omega (arith, le, before))) in omega (arith, now, s.most k)
      | inr from ↦ elim (cases_lt k ((y + j) * width + x + a)) [
        | inl within ↦ let now = r.more k from within in omega (arith, now, s.rest k late)
        | inr past ↦ let now = r.same k (λ le. past) in omega (arith, now, s.most k)
      ]
    ]
  ];
  rest = λ k le.
      let now = r.same k (λ from. omega (arith, le, fits)) in
      omega (arith, now, s.rest k (omega (arith, le)));
}
  where
    beyond : (u v : ℕ) → u < width → (IsInBlock x y a (j + 1) u v → ⊥) → (y + j) * width + x ≤ v * width + u → (y + j) * width + x + a ≤ v * width + u
    beyond u v lt unfit le =
        elim (cases_lt v (y + j)) [
          | inl early ↦ absurd (omega (arith, le, row-before width u v (y + j) x lt early))
          | inr late ↦ elim (cases_lt (y + j) v) [
            | inl above ↦
                let far = mul-le ((y + j) + 1) width v width (omega (arith, above)) (omega arith) in
                omega (arith, far, fits)
            | inr here ↦
                let e : v ≡ y + j = omega (arith, late, here) in
                let at : v * width + u ≡ (y + j) * width + u = ap (λ w. w * width + u) e in
                elim (cases_lt u (x + a)) [
                  | inl within ↦ absurd (unfit (omega (arith, le, at), within, omega (arith, e), omega (arith, e)))
                  | inr past ↦ omega (arith, at, past)
                ]
          ]
        ]
