-- Reading numbers to a line's end, as a loop does.
use Rattle.std.proofs.Common.{◌≡◌, ℕ, List, [], ◌∷◌, ◌++◌, Option, Some, None, refl, sym, ap, ◌∙◌, append_assoc}
use Rattle.std.proofs.lemmas.List.{append-nil}
use Rattle.texts.specs.Words.{◌>>=◌}
use Rattle.listing_text.specs.Words.{number_within, numbers_within}

-- what was read before, and what is still read
abbrev pub numbers_after : List ℕ → Option (List ℕ) → Option (List ℕ)
numbers_after front read = read >>= λ ns. Some (front ++ ns)

regroup : (front : List ℕ) (n : ℕ) (read : Option (List ℕ)) → numbers_after front (read >>= λ ns. Some (n ∷ ns)) ≡ numbers_after (front ++ n ∷ []) read
regroup front n (Some x) = ap (λ (ns : List ℕ). Some ns) (simp append_assoc)
regroup front n None = refl

pub starts : (read : Option (List ℕ)) → numbers_after [] read ≡ read
starts None = refl
starts (Some x) = refl

pub goes_on : (variants : ℕ) (front : List ℕ) (ws : List (List ℕ)) (w : List ℕ) (after : List (List ℕ)) (n : ℕ) (total : Option (List ℕ)) → ws ≡ w ∷ after → Some n ≡ number_within variants w
    → numbers_after front (numbers_within variants ws) ≡ total → numbers_after (front ++ n ∷ []) (numbers_within variants after) ≡ total
unfolding numbers_within
goes_on variants front ws w after n total e h so_far =
    let one : numbers_after front (numbers_within variants ws) ≡ numbers_after (front ++ n ∷ []) (numbers_within variants after) = rw (e, ← h) (regroup front n (numbers_within variants after)) in
    sym one ∙ so_far

pub ends : (variants : ℕ) (front : List ℕ) (ws : List (List ℕ)) (w : List ℕ) (after : List (List ℕ)) (total : Option (List ℕ)) → ws ≡ w ∷ after → None ≡ number_within variants w
    → numbers_after front (numbers_within variants ws) ≡ total → total ≡ None
unfolding numbers_within
ends variants front ws w after total e h so_far =
    let one : numbers_after front (numbers_within variants ws) ≡ None = rw (e, ← h) refl in
    sym so_far ∙ one

pub is_done : (variants : ℕ) (front : List ℕ) (ws : List (List ℕ)) (total : Option (List ℕ)) → ws ≡ [] → numbers_after front (numbers_within variants ws) ≡ total → total ≡ Some front
unfolding numbers_within
is_done variants front ws total e so_far =
    let one : numbers_after front (numbers_within variants ws) ≡ Some front = rw e (ap (λ (ns : List ℕ). Some ns) (append-nil front)) in
    sym so_far ∙ one
