-- What is kept of a block stays so when a later entry of the table is written.
use Rattle.std.proofs.Common.{◌≡◌, ◌≢◌, ℕ, ◌+◌, ◌-◌, ◌*◌, ◌≤◌, ◌<◌, List, length, slice_index, slice_index_or, Option, Some, None, Bor, refl, ap, sym, ◌∙◌, subst, arith, inl, inr, get_or-set_other, get_or-set_same}
use Rattle.std.proofs.Math.ListN.{set, length-set}
use Rattle.std.proofs.lemmas.Bool.{cases_lt}
use Rattle.plan_geometry.specs.declared.instances.Inst.{Inst}
use Rattle.block_tables.specs.declared.patterns.Pattern.{Pattern}
use Rattle.block_tables.specs.declared.patterns.Pattern.TheVariants.{Five, Four}
use Rattle.block_tables.specs.declared.tables.Table.{Table}
use Rattle.block_tables.specs.declared.tables.Best.{Best}
use Rattle.block_tables.specs.declared.tables.Split.{Split}
use Rattle.block_tables.specs.declared.filling.Filling.{Filling}
use Rattle.block_tables.specs.Numbers.{IsNumber, Greatest}
use Rattle.block_tables.specs.Tables.{centre, ArePlaced, look, IsTable, IsFilled}
use Rattle.block_tables.specs.Built.{AreDone, IsKept, IsSolved, Wrote, IsFilling}
use Rattle.block_tables.proofs.EntryLemmas.{place-le, place-same, earlier}
use Rattle.block_tables.proofs.StepLemmas.{WroteEntry, same-place, k-in, at-same, at-other, step}

-- a part of a block that is smaller stands earlier
pub before-in : (i : Inst) (xs ys : List ℕ) (t : Table) → ArePlaced i xs t.x_places.items → ArePlaced i ys t.y_places.items → IsTable t → (j k p q : ℕ)
    → j < length xs → k < length ys → slice_index xs j < length t.x_places.items → slice_index ys k < length t.y_places.items → p ≤ slice_index xs j → q ≤ slice_index ys k
    → p + q < slice_index xs j + slice_index ys k
    → slice_index t.x_places.items p * t.y_count + slice_index t.y_places.items q < j * t.y_count + k
before-in i xs ys t ox oy is j k p q hj hk jx ky hp hq l =
    let x = place-le i xs t.x_places.items p j ox (omega arith) hj hp in
    let y = place-le i ys t.y_places.items q k oy (omega arith) hk hq in
    let w : slice_index t.y_places.items q < t.y_count = is.columns q (omega arith) in
    elim (cases_lt (slice_index t.x_places.items p) j) [
      | inl z ↦ earlier j (slice_index t.x_places.items p) k (slice_index t.y_places.items q) t.y_count z w
      | inr z ↦ (let e : slice_index t.x_places.items p ≡ j = omega arith in
          elim (cases_lt (slice_index t.y_places.items q) k) [
            | inl v ↦ rw e (omega arith)
            | inr v ↦ (let g = place-same i xs t.x_places.items p j ox (omega arith) hp e in
                let g2 = place-same i ys t.y_places.items q k oy (omega arith) hq (omega arith) in absurd (omega arith))
          ])
    ]

module _ (i : Inst) (pat : Pattern) (xs ys : List ℕ) (t t' : Table) (r c v : ℕ) (f : IsFilled i pat xs ys t (r * t.y_count + c)) (r_in : r < length xs) (c_in : c < length ys)
    (small : v ≤ 16000000) (w : WroteEntry t t' (r * t.y_count + c) v) (best : Greatest (IsNumber i pat (slice_index xs r) (slice_index ys c)) v)
    (reach_x : (k : ℕ) → k < length xs → slice_index xs k < length t.x_places.items) (reach_y : (k : ℕ) → k < length ys → slice_index ys k < length t.y_places.items) where
  look-same : (p q : ℕ) → slice_index t.x_places.items p * t.y_count + slice_index t.y_places.items q < r * t.y_count + c → look t' p q ≡ look t p q
  look-same p q l =
      let e : slice_index t'.x_places.items p * t'.y_count + slice_index t'.y_places.items q ≡ slice_index t.x_places.items p * t.y_count + slice_index t.y_places.items q = rw (w.x_places, w.y_places, w.y_count) refl in
      let ne : slice_index t.x_places.items p * t.y_count + slice_index t.y_places.items q ≢ r * t.y_count + c = omega arith in
      ap (λ n. slice_index t'.values.items n) e ∙ at-other i pat xs ys t t' r c v f r_in c_in small w best _ ne

  part-same : (j k p q : ℕ) → j < length xs → k < length ys → j * t.y_count + k ≤ r * t.y_count + c → p ≤ slice_index xs j → q ≤ slice_index ys k
      → p + q < slice_index xs j + slice_index ys k → look t' p q ≡ look t p q
  part-same j k p q hj hk l hp hq s = look-same p q (let b = before-in i xs ys t f.on_x f.on_y f.table j k p q hj hk (reach_x j hj) (reach_y k hk) hp hq s in omega arith)

  centre-same : (p q : ℕ) → look t' p q ≡ look t p q → centre pat (look t') p q ≡ centre pat (look t) p q
  centre-same p q e = go pat where
    go : (z : Pattern) → centre z (look t') p q ≡ centre z (look t) p q
    go Five = e
    go Four = refl

  kept-same : (j k : ℕ) → j < length xs → k < length ys → j * t.y_count + k ≤ r * t.y_count + c → (n : ℕ) (o : Option Split)
      → IsKept i pat t (slice_index xs j) (slice_index ys k) n o → IsKept i pat t' (slice_index xs j) (slice_index ys k) n o
  kept-same j k hj hk l n None h = h
  kept-same j k hj hk l n (Some s) h =
      let a = slice_index xs j in
      let b = slice_index ys k in
      let x1 = h.x_order in let x2 = h.x_in in let y1 = h.y_order in let y2 = h.y_in in
      record {
        x_order = h.x_order;
        x_in = h.x_in;
        y_order = h.y_order;
        y_in = h.y_in;
        part1 = h.part1;
        part2 = h.part2;
        part3 = h.part3;
        part4 = h.part4;
        part5 = h.part5;
        sum = omega (
          arith,
          h.sum,
          part-same j k s.x2 s.y1 hj hk l (omega arith) (omega arith) h.part1,
          part-same j k (a - s.x2) s.y2 hj hk l (omega arith) (omega arith) h.part2,
          part-same j k s.x1 (b - s.y1) hj hk l (omega arith) (omega arith) h.part3,
          part-same j k (a - s.x1) (b - s.y2) hj hk l (omega arith) (omega arith) h.part4,
          centre-same (s.x2 - s.x1) (s.y2 - s.y1) (part-same j k (s.x2 - s.x1) (s.y2 - s.y1) hj hk l (omega arith) (omega arith) h.part5),
        );
      }

  pub kept-step : (sp sp' : List (Option Split)) (o : Option Split) → sp' ≡ set sp (r * t.y_count + c) o → length sp ≡ t.x_count * t.y_count
      → ((j k : ℕ) → j < length xs → k < length ys → j * t.y_count + k < r * t.y_count + c → IsKept i pat t (slice_index xs j) (slice_index ys k) (slice_index t.values.items (j * t.y_count + k)) (slice_index_or sp (j * t.y_count + k) None))
      → IsKept i pat t (slice_index xs r) (slice_index ys c) v o
      → (j k : ℕ) → j < length xs → k < length ys → j * t.y_count + k < r * t.y_count + c + 1
      → IsKept i pat t' (slice_index xs j) (slice_index ys k) (slice_index t'.values.items (j * t.y_count + k)) (slice_index_or sp' (j * t.y_count + k) None)
  kept-step sp sp' o e full old new j k hj hk l =
      let kin = k-in i pat xs ys t t' r c v f r_in c_in small w best in
      elim (cases_lt (j * t.y_count + k) (r * t.y_count + c)) [
        | inl a ↦ (let ne : j * t.y_count + k ≢ r * t.y_count + c = omega arith in
            let g = at-other i pat xs ys t t' r c v f r_in c_in small w best (j * t.y_count + k) ne in
            let h : slice_index_or sp' (j * t.y_count + k) None ≡ slice_index_or sp (j * t.y_count + k) None = ap (λ zs. slice_index_or zs (j * t.y_count + k) None) e ∙ get_or-set_other sp (r * t.y_count + c) (j * t.y_count + k) o None ne in
            rw (g, h) (kept-same j k hj hk (omega arith) _ _ (old j k hj hk a)))
        | inr a ↦ (let q = same-place j r k c t.y_count (omega (arith, f.tall)) (omega (arith, f.tall)) (omega arith) in
            let g = at-same i pat xs ys t t' r c v f r_in c_in small w best in
            let h : slice_index_or sp' (r * t.y_count + c) None ≡ o = ap (λ zs. slice_index_or zs (r * t.y_count + c) None) e ∙ get_or-set_same sp (r * t.y_count + c) o None (omega (arith, full, kin, f.table.full)) in
            let m : IsKept i pat t' (slice_index xs r) (slice_index ys c) (slice_index t'.values.items (r * t.y_count + c)) (slice_index_or sp' (r * t.y_count + c) None)
            = rw (g, h) (kept-same r c r_in c_in (omega arith) v o new) in
            rw (q.0, q.1) m)
      ]

-- one more block
pub filling-step : (i : Inst) (pat : Pattern) (xs ys : List ℕ) (f f' : Filling) (r c : ℕ) (m : Best) → IsFilling i pat xs ys f (r * length ys + c)
    → r < length xs → c < length ys → IsSolved i pat f.table (slice_index xs r) (slice_index ys c) m → Wrote f f' (r * f.table.y_count + c) m
    → IsFilling i pat xs ys f' (r * length ys + c + 1)
filling-step i pat xs ys f f' r c m g r_in c_in s w =
    let t = f.table in
    let t' = f'.table in
    let v = m.value in
    let tall : length ys ≡ t.y_count = g.filled.tall in
    let fl : IsFilled i pat xs ys t (r * t.y_count + c) = subst (λ n. IsFilled i pat xs ys t (r * n + c)) tall g.filled in
    let e : WroteEntry t t' (r * t.y_count + c) v = record { x_places = w.x_places; y_places = w.y_places; x_count = w.x_count; y_count = w.y_count; values = w.values } in
    let rx : (k : ℕ) → k < length xs → slice_index xs k < length t.x_places.items = λ k h. omega (arith, g.long_x, g.up_x k h) in
    let ry : (k : ℕ) → k < length ys → slice_index ys k < length t.y_places.items = λ k h. omega (arith, g.long_y, g.up_y k h) in
    let next : IsFilled i pat xs ys t' (r * t.y_count + c + 1) = step i pat xs ys t t' r c v fl r_in c_in s.small e s.best in
    record {
      filled = subst (λ n. IsFilled i pat xs ys t' (r * n + c + 1)) (sym tall) next;
      kept = λ j k hj hk l. subst (λ n. IsKept i pat t' (slice_index xs j) (slice_index ys k) (slice_index t'.values.items (j * n + k)) (slice_index_or f'.splits.items (j * n + k) None)) (sym w.y_count)
          (kept-step i pat xs ys t t' r c v fl r_in c_in s.small e s.best rx ry f.splits.items f'.splits.items m.split w.splits g.whole
          (λ j k hj hk l. g.kept j k hj hk (subst (λ n. j * t.y_count + k < r * n + c) (sym tall) l)) s.kept j k hj hk
          (subst (λ n. j * t.y_count + k < r * n + c + 1) tall (subst (λ n. j * n + k < r * length ys + c + 1) w.y_count l)));
      whole = ap length w.splits ∙ length-set f.splits.items (r * t.y_count + c) m.split ∙ g.whole ∙ rw (w.x_count, w.y_count) refl;
      long_x = ap length w.x_places ∙ g.long_x;
      long_y = ap length w.y_places ∙ g.long_y;
      up_x = g.up_x;
      up_y = g.up_y;
    }

-- the table that is filled to its end
pub done-of : (i : Inst) (pat : Pattern) (xs ys : Bor (List ℕ)) (t : Bor Table) (sp : Bor (List (Option Split))) (f : Filling) → t.now ≡ f.table → sp.now ≡ f.splits.items
    → IsFilling i pat xs.now ys.now f (length xs.now * length ys.now)
    → AreDone i pat xs.now ys.now t.now sp.now
done-of i pat xs ys t sp f et es g =
    let D : Table → List (Option Split) → Type 0 = λ u q. AreDone i pat xs.now ys.now u q in
    let a : D f.table f.splits.items = record {
      filled = subst (λ n. IsFilled i pat xs.now ys.now f.table n) size g.filled;
      kept = λ j k hj hk. g.kept j k hj hk (k-in j k hj hk);
      whole = g.whole;
      small_x = λ k h. omega (arith, g.up_x k h, i.sides.l_max);
      small_y = λ k h. omega (arith, g.up_y k h, i.sides.w_max);
      reach_x = λ k h. omega (arith, g.long_x, g.up_x k h);
      reach_y = λ k h. omega (arith, g.long_y, g.up_y k h);
    } in
    let b : D t.now f.splits.items = subst (λ u. D u f.splits.items) (sym et) a in
    subst (λ q. D t.now q) (sym es) b
  where
    size : length xs.now * length ys.now ≡ f.table.x_count * f.table.y_count
    size = rw (g.filled.wide, g.filled.tall) refl

    k-in : (j k : ℕ) → j < length xs.now → k < length ys.now → j * f.table.y_count + k < length xs.now * length ys.now
    k-in j k hj hk = rw (← g.filled.tall) (let e = earlier (length xs.now) j 0 k (length ys.now) hj hk in omega arith)
