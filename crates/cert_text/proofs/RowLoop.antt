-- Reading rows one after the other, as a loop does.
use Rattle.std.proofs.Common.{◌≡◌, ℕ, suc, ◌-◌, ◌+◌, ◌≤◌, ◌<◌, List, ◌++◌, Ok, Err, refl, sym, ap, ◌∙◌, append_assoc, arith}
use Rattle.std.proofs.lemmas.List.{append-nil}
use Rattle.texts.specs.Grammar.{Reading, ◌>>=◌, first_by}
use Rattle.texts.specs.Gives.{Fails}
use Rattle.texts.specs.declared.stops.Stop.{Stop}
use Rattle.texts.specs.declared.stops.Stop.TheVariants as stops
use Rattle.cert_text.specs.Words.{row_of}
use Rattle.cert_text.specs.Lines.{rows_from}

-- what was read before, and what is still read
abbrev pub with_front : List ℕ → Reading (List ℕ) (List ℕ) → Reading (List ℕ) (List ℕ)
with_front front read = read >>= λ x. Ok (front ++ x.0, x.1)

regroup : (front row : List ℕ) (read : Reading (List ℕ) (List ℕ)) → with_front front (read >>= λ x. Ok (row ++ x.0, x.1)) ≡ with_front (front ++ row) read
regroup front row (Ok x) = ap (λ (cs : List ℕ). Ok (cs, x.1)) (sym (append_assoc front row x.0))
regroup front row (Err f) = refl

pub goes_on : (x_side : ℕ) (front : List ℕ) (count i : ℕ) (ls after : List (List ℕ)) (row : List ℕ) (total : Reading (List ℕ) (List ℕ)) → i < count → first_by (row_of x_side) ls ≡ Ok (row, after)
    → with_front front (rows_from x_side (count - i) ls) ≡ total → with_front (front ++ row) (rows_from x_side (count - (i + 1)) after) ≡ total
unfolding rows_from
goes_on x_side front count i ls after row total lt h so_far =
    let k : count - i ≡ suc (count - (i + 1)) = omega arith in
    let one : with_front front (rows_from x_side (count - i) ls) ≡ with_front (front ++ row) (rows_from x_side (count - (i + 1)) after) = rw (k, h) (regroup front row (rows_from x_side (count - (i + 1)) after)) in
    sym one ∙ so_far

pub ends : (e : Stop) (x_side : ℕ) (front : List ℕ) (count i : ℕ) (ls : List (List ℕ)) (total : Reading (List ℕ) (List ℕ)) → i < count → Fails e (first_by (row_of x_side) ls)
    → with_front front (rows_from x_side (count - i) ls) ≡ total → Fails e total
unfolding rows_from
ends stops.Memory x_side front count i ls total lt h so_far = tt
ends (stops.Left f) x_side front count i ls total lt h so_far =
    let k : count - i ≡ suc (count - (i + 1)) = omega arith in
    let one : with_front front (rows_from x_side (count - i) ls) ≡ Err f = rw (k, h) refl in
    sym so_far ∙ one

pub is_done : (x_side : ℕ) (front : List ℕ) (count i : ℕ) (ls : List (List ℕ)) (total : Reading (List ℕ) (List ℕ)) → count ≤ i → with_front front (rows_from x_side (count - i) ls) ≡ total → total ≡ Ok (front, ls)
unfolding rows_from
is_done x_side front count i ls total le so_far =
    let k : count - i ≡ 0 = omega arith in
    let one : with_front front (rows_from x_side (count - i) ls) ≡ Ok (front, ls) = rw k (ap (λ (cs : List ℕ). Ok (cs, ls)) (append-nil front)) in
    sym so_far ∙ one
