-- One more entry of the table.
use Rattle.std.proofs.Common.{◌≡◌, ◌≢◌, ℕ, ◌+◌, ◌*◌, ◌≤◌, ◌<◌, List, length, slice_index, refl, ap, sym, ◌∙◌, subst, arith, inl, inr, get_or-set_other, get_or-set_same}
use Rattle.std.proofs.lemmas.Bool.{cases_lt}
use Rattle.std.proofs.Math.ListN.{set, length-set}
use Rattle.std.proofs.Math.Nat.{mul-le-mul_right}
use Rattle.plan_geometry.specs.declared.instances.Inst.{Inst}
use Rattle.block_tables.specs.declared.patterns.Pattern.{Pattern}
use Rattle.block_tables.specs.declared.tables.Table.{Table}
use Rattle.block_tables.specs.Numbers.{IsNumber, Greatest}
use Rattle.block_tables.specs.Tables.{ArePlaced, IsFilled}

-- a place in the grid tells its row and its column
pub same-place : (r r' c c' n : ℕ) → c < n → c' < n → r * n + c ≡ r' * n + c' → (r ≡ r') × (c ≡ c')
same-place r r' c c' n h h' e =
    elim (cases_lt r r') [
      | inl a ↦ (let x : (r + 1) * n ≤ r' * n = mul-le-mul_right n (omega arith) in let y : (r + 1) * n ≡ r * n + n = omega arith in absurd (omega arith))
      | inr a ↦ elim (cases_lt r' r) [
        | inl b ↦ (let x : (r' + 1) * n ≤ r * n = mul-le-mul_right n (omega arith) in let y : (r' + 1) * n ≡ r' * n + n = omega arith in absurd (omega arith))
        | inr b ↦ (let z : r ≡ r' = omega arith in (z, (let q : r * n ≡ r' * n = ap (λ m. m * n) z in omega arith)))
      ]
    ]

-- what a write to one entry changes
pub record WroteEntry (t t' : Table) (k v : ℕ) : Type 0 where
  pub x_places : t'.x_places.items ≡ t.x_places.items
  pub y_places : t'.y_places.items ≡ t.y_places.items
  pub x_count : t'.x_count ≡ t.x_count
  pub y_count : t'.y_count ≡ t.y_count
  pub values : t'.values.items ≡ set t.values.items k v

module _ (i : Inst) (pat : Pattern) (xs ys : List ℕ) (t t' : Table) (r c v : ℕ) (f : IsFilled i pat xs ys t (r * t.y_count + c)) (r_in : r < length xs) (c_in : c < length ys)
    (small : v ≤ 16000000) (w : WroteEntry t t' (r * t.y_count + c) v) (best : Greatest (IsNumber i pat (slice_index xs r) (slice_index ys c)) v) where
  pub k-in : r * t.y_count + c < length t.values.items
  k-in =
      let a : (r + 1) * t.y_count ≤ t.x_count * t.y_count = mul-le-mul_right t.y_count (omega (arith, f.wide)) in
      let b : (r + 1) * t.y_count ≡ r * t.y_count + t.y_count = omega arith in
      omega (arith, f.table.full, f.tall)

  pub at-same : slice_index t'.values.items (r * t.y_count + c) ≡ v
  at-same = ap (λ zs. slice_index zs (r * t.y_count + c)) w.values ∙ get_or-set_same t.values.items (r * t.y_count + c) v 0 k-in

  pub at-other : (k : ℕ) → k ≢ r * t.y_count + c → slice_index t'.values.items k ≡ slice_index t.values.items k
  at-other k h = ap (λ zs. slice_index zs k) w.values ∙ get_or-set_other t.values.items (r * t.y_count + c) k v 0 h

  is-small : (k : ℕ) → k < length t'.values.items → slice_index t'.values.items k ≤ 16000000
  is-small k h =
      elim (cases_lt k (r * t.y_count + c)) [
        | inl a ↦ (let ne : k ≢ r * t.y_count + c = omega arith in omega (arith, at-other k ne, f.table.small k (omega (arith, k-in))))
        | inr a ↦ elim (cases_lt (r * t.y_count + c) k) [
          | inl b ↦ (let ne : k ≢ r * t.y_count + c = omega arith in omega (arith, at-other k ne, f.table.small k (omega (arith, ap length w.values, length-set t.values.items (r * t.y_count + c) v))))
          | inr b ↦ (let e : k ≡ r * t.y_count + c = omega arith in rw e (omega (arith, at-same)))
        ]
      ]

  filled-at : (j e : ℕ) → e < t.y_count → j * t.y_count + e < r * t.y_count + c + 1 → Greatest (IsNumber i pat (slice_index xs j) (slice_index ys e)) (slice_index t'.values.items (j * t.y_count + e))
  filled-at j e h l =
      elim (cases_lt (j * t.y_count + e) (r * t.y_count + c)) [
        | inl a ↦ (let ne : j * t.y_count + e ≢ r * t.y_count + c = omega arith in rw (at-other (j * t.y_count + e) ne) (f.filled j e h a))
        | inr a ↦ (let p = same-place j r e c t.y_count h (omega (arith, f.tall)) (omega arith) in
            let g1 : Greatest (IsNumber i pat (slice_index xs r) (slice_index ys c)) (slice_index t'.values.items (r * t.y_count + c)) = rw at-same best in
            let g2 : Greatest (IsNumber i pat (slice_index xs j) (slice_index ys c)) (slice_index t'.values.items (j * t.y_count + c)) = subst (λ z. Greatest (IsNumber i pat (slice_index xs z) (slice_index ys c)) (slice_index t'.values.items (z * t.y_count + c))) (sym p.0) g1 in
            subst (λ z. Greatest (IsNumber i pat (slice_index xs j) (slice_index ys z)) (slice_index t'.values.items (j * t.y_count + z))) (sym p.1) g2)
      ]

  pub step : IsFilled i pat xs ys t' (r * t.y_count + c + 1)
  step = record {
    table = record {
      rows = λ k h. omega (arith, w.x_count, ap (λ zs. slice_index zs k) w.x_places, f.table.rows k (omega (arith, ap length w.x_places)));
      columns = λ k h. omega (arith, w.y_count, ap (λ zs. slice_index zs k) w.y_places, f.table.columns k (omega (arith, ap length w.y_places)));
      full = ap length w.values ∙ length-set t.values.items (r * t.y_count + c) v ∙ f.table.full ∙ rw (w.x_count, w.y_count) refl;
      small = is-small;
      few = rw (w.x_count, w.y_count) f.table.few;
    };
    wide = f.wide ∙ sym w.x_count;
    tall = f.tall ∙ sym w.y_count;
    on_x = subst (λ zs. ArePlaced i xs zs) (sym w.x_places) f.on_x;
    on_y = subst (λ zs. ArePlaced i ys zs) (sym w.y_places) f.on_y;
    filled = λ j e h l. subst (λ n. Greatest (IsNumber i pat (slice_index xs j) (slice_index ys e)) (slice_index t'.values.items (j * n + e))) (sym w.y_count) (filled-at j e (omega (arith, w.y_count)) (subst (λ n. j * n + e < r * t.y_count + c + 1) w.y_count l));
    rest = λ k h. (let ne : k ≢ r * t.y_count + c = omega arith in at-other k ne ∙ f.rest k (omega arith));
  }
