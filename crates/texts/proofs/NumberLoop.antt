-- Reading numbers one after the other, as a loop does.
use Rattle.std.proofs.Common.{◌≡◌, ℕ, suc, ◌-◌, ◌+◌, ◌≤◌, ◌<◌, List, [], ◌∷◌, ◌++◌, Option, Some, None, refl, sym, ap, ◌∙◌, append_assoc, arith}
use Rattle.std.proofs.lemmas.List.{append-nil}
use Rattle.texts.specs.Words.{◌>>=◌, word_by, number_up_to, numbers_by}

-- what was read before, and what is still read
abbrev pub with_front : List ℕ → Option (List ℕ × List (List ℕ)) → Option (List ℕ × List (List ℕ))
with_front front read = read >>= λ x. Some (front ++ x.0, x.1)

regroup : (front : List ℕ) (n : ℕ) (read : Option (List ℕ × List (List ℕ))) → with_front front (read >>= λ x. Some (n ∷ x.0, x.1)) ≡ with_front (front ++ n ∷ []) read
regroup front n (Some x) = ap (λ (ns : List ℕ). Some (ns, x.1)) (simp append_assoc)
regroup front n None = refl

pub goes_on : (most : ℕ) (front : List ℕ) (count i : ℕ) (ws after : List (List ℕ)) (n : ℕ) (total : Option (List ℕ × List (List ℕ))) → i < count → word_by (number_up_to most) ws ≡ Some (n, after)
    → with_front front (numbers_by most (count - i) ws) ≡ total → with_front (front ++ n ∷ []) (numbers_by most (count - (i + 1)) after) ≡ total
unfolding numbers_by
goes_on most front count i ws after n total lt h so_far =
    let k : count - i ≡ suc (count - (i + 1)) = omega arith in
    let one : with_front front (numbers_by most (count - i) ws) ≡ with_front (front ++ n ∷ []) (numbers_by most (count - (i + 1)) after) = rw (k, h) (regroup front n (numbers_by most (count - (i + 1)) after)) in
    sym one ∙ so_far

pub ends : (most : ℕ) (front : List ℕ) (count i : ℕ) (ws : List (List ℕ)) (total : Option (List ℕ × List (List ℕ))) → i < count → word_by (number_up_to most) ws ≡ None
    → with_front front (numbers_by most (count - i) ws) ≡ total → total ≡ None
unfolding numbers_by
ends most front count i ws total lt h so_far =
    let k : count - i ≡ suc (count - (i + 1)) = omega arith in
    let one : with_front front (numbers_by most (count - i) ws) ≡ None = rw (k, h) refl in
    sym so_far ∙ one

pub is_done : (most : ℕ) (front : List ℕ) (count i : ℕ) (ws : List (List ℕ)) (total : Option (List ℕ × List (List ℕ))) → count ≤ i → with_front front (numbers_by most (count - i) ws) ≡ total → total ≡ Some (front, ws)
unfolding numbers_by
is_done most front count i ws total le so_far =
    let k : count - i ≡ 0 = omega arith in
    let one : with_front front (numbers_by most (count - i) ws) ≡ Some (front, ws) = rw k (ap (λ (ns : List ℕ). Some (ns, ws)) (append-nil front)) in
    sym so_far ∙ one
