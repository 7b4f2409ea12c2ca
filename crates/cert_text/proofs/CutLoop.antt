-- Reading cuts one after the other, as a loop does.
use Rattle.std.proofs.Common.{◌≡◌, ℕ, suc, ◌-◌, ◌+◌, ◌≤◌, ◌<◌, List, [], ◌∷◌, ◌++◌, Ok, Err, refl, sym, ap, ◌∙◌, append_assoc, arith}
use Rattle.std.proofs.lemmas.List.{append-nil}
use Rattle.texts.specs.Grammar.{Reading, ◌>>=◌, first_by}
use Rattle.weightings.specs.declared.certs.StripCut.{StripCut}
use Rattle.cert_text.specs.Words.{cut_of}
use Rattle.cert_text.specs.Lines.{cuts_from}

-- what was read before, and what is still read
abbrev pub with_front : List StripCut → Reading (List ℕ) (List StripCut) → Reading (List ℕ) (List StripCut)
with_front front read = read >>= λ x. Ok (front ++ x.0, x.1)

regroup : (front : List StripCut) (c : StripCut) (read : Reading (List ℕ) (List StripCut)) → with_front front (read >>= λ x. Ok (c ∷ x.0, x.1)) ≡ with_front (front ++ c ∷ []) read
regroup front c (Ok x) = ap (λ (cs : List StripCut). Ok (cs, x.1)) (simp append_assoc)
regroup front c (Err f) = refl

pub goes_on : (front : List StripCut) (count i : ℕ) (ls after : List (List ℕ)) (c : StripCut) (total : Reading (List ℕ) (List StripCut)) → i < count → first_by (cut_of i) ls ≡ Ok (c, after)
    → with_front front (cuts_from (count - i) i ls) ≡ total → with_front (front ++ c ∷ []) (cuts_from (count - (i + 1)) (i + 1) after) ≡ total
unfolding cuts_from
goes_on front count i ls after c total lt h so_far =
    let k : count - i ≡ suc (count - (i + 1)) = omega arith in
    let one : with_front front (cuts_from (count - i) i ls) ≡ with_front (front ++ c ∷ []) (cuts_from (count - (i + 1)) (i + 1) after) = rw (k, h) (regroup front c (cuts_from (count - (i + 1)) (i + 1) after)) in
    sym one ∙ so_far

pub ends : (left : ℕ) (front : List StripCut) (count i : ℕ) (ls : List (List ℕ)) (total : Reading (List ℕ) (List StripCut)) → i < count → first_by (cut_of i) ls ≡ Err left
    → with_front front (cuts_from (count - i) i ls) ≡ total → total ≡ Err left
unfolding cuts_from
ends left front count i ls total lt h so_far =
    let k : count - i ≡ suc (count - (i + 1)) = omega arith in
    let one : with_front front (cuts_from (count - i) i ls) ≡ Err left = rw (k, h) refl in
    sym so_far ∙ one

pub is_done : (front : List StripCut) (count i : ℕ) (ls : List (List ℕ)) (total : Reading (List ℕ) (List StripCut)) → count ≤ i → with_front front (cuts_from (count - i) i ls) ≡ total → total ≡ Ok (front, ls)
unfolding cuts_from
is_done front count i ls total le so_far =
    let k : count - i ≡ 0 = omega arith in
    let one : with_front front (cuts_from (count - i) i ls) ≡ Ok (front, ls) = rw k (ap (λ (cs : List StripCut). Ok (cs, ls)) (append-nil front)) in
    sym so_far ∙ one
