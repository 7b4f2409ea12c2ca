-- Reading rows one after another, as a loop does.
use Rattle.std.proofs.Common.{◌≡◌, ℕ, suc, ◌-◌, ◌+◌, ◌*◌, ◌<◌, List, ◌∷◌, length, Ok, Err, refl, sym, ap, ◌∙◌, arith, true, false}
use Rattle.texts.specs.Grammar.{Reading, ◌>>=◌}
use Rattle.texts.specs.Gives.{Fails}
use Rattle.texts.specs.declared.stops.Stop.{Stop}
use Rattle.texts.specs.declared.stops.Stop.TheVariants as stops
use Rattle.choice_text.specs.Lines.{entry_follows}
use Rattle.floor_text.specs.declared.rows.FloorRow.{FloorRow}
use Rattle.floor_text.specs.Lines.{row_at, rows_from, counted}

-- how many there are with so many before
abbrev pub with_before : ℕ → Reading (List ℕ) (List FloorRow) → Reading (List ℕ) ℕ
with_before before (Ok x) = Ok (before + length x.0, x.1)
with_before before (Err left) = Err left

pub starts : (read : Reading (List ℕ) (List FloorRow)) → with_before 0 read ≡ (read >>= counted)
starts (Ok x) = let z : 0 + length x.0 ≡ length x.0 = omega arith in ap (λ (n : ℕ). Ok (n, x.1)) z
starts (Err left) = refl

one_more : (before : ℕ) (r : FloorRow) (read : Reading (List ℕ) (List FloorRow)) → with_before before (read >>= λ rs. Ok (r ∷ rs.0, rs.1)) ≡ with_before (before + 1) read
one_more before r (Ok x) = let n : before + suc (length x.0) ≡ (before + 1) + length x.0 = omega arith in ap (λ (k : ℕ). Ok (k, x.1)) n
one_more before r (Err left) = refl

pub goes_on : (count i : ℕ) (ls after : List (List ℕ)) (r : FloorRow) (total : Reading (List ℕ) ℕ) → i < count → entry_follows (2 * i + 1) ls ≡ true → row_at i ls ≡ Ok (r, after)
    → with_before i (rows_from (count - i) i ls) ≡ total → with_before (i + 1) (rows_from (count - (i + 1)) (i + 1) after) ≡ total
unfolding rows_from
goes_on count i ls after r total lt h g so_far =
    let k : count - i ≡ suc (count - (i + 1)) = omega arith in
    let one : with_before i (rows_from (count - i) i ls) ≡ with_before (i + 1) (rows_from (count - (i + 1)) (i + 1) after) = rw (k, h, g) (one_more i r (rows_from (count - (i + 1)) (i + 1) after)) in
    sym one ∙ so_far

pub ends_row : (s : Stop) (count i : ℕ) (ls : List (List ℕ)) (total : Reading (List ℕ) ℕ) → i < count → entry_follows (2 * i + 1) ls ≡ true → Fails s (row_at i ls) → with_before i (rows_from (count - i) i ls) ≡ total → Fails s total
unfolding rows_from
ends_row stops.Memory count i ls total lt h g so_far = tt
ends_row (stops.Left f) count i ls total lt h g so_far =
    let k : count - i ≡ suc (count - (i + 1)) = omega arith in
    let one : with_before i (rows_from (count - i) i ls) ≡ Err f = rw (k, h, g) refl in
    sym so_far ∙ one

pub none_follows : (count i : ℕ) (ls : List (List ℕ)) (total : Reading (List ℕ) ℕ) → i < count → entry_follows (2 * i + 1) ls ≡ false → with_before i (rows_from (count - i) i ls) ≡ total → total ≡ Ok (i, ls)
unfolding rows_from
none_follows count i ls total lt h so_far =
    let k : count - i ≡ suc (count - (i + 1)) = omega arith in
    let z : i + 0 ≡ i = omega arith in
    let one : with_before i (rows_from (count - i) i ls) ≡ Ok (i, ls) = rw (k, h) (ap (λ (n : ℕ). Ok (n, ls)) z) in
    sym so_far ∙ one

-- after the most
pub is_last : (count i : ℕ) (ls : List (List ℕ)) (total : Reading (List ℕ) ℕ) → i ≡ count → with_before i (rows_from (count - i) i ls) ≡ total → total ≡ Ok (count, ls)
unfolding rows_from
is_last count i ls total le so_far =
    let k : count - count ≡ 0 = omega arith in
    let z : count + 0 ≡ count = omega arith in
    let one : with_before i (rows_from (count - i) i ls) ≡ Ok (count, ls) = rw (le, k) (ap (λ (m : ℕ). Ok (m, ls)) z) in
    sym so_far ∙ one
