-- How long the text of a tail can be.
use Rattle.std.proofs.Common.{◌≡◌, ℕ, suc, ◌+◌, ◌*◌, ◌≤◌, List, [], ◌∷◌, length, map, Option, Some, None, refl, ap, ◌∙◌, arith}
use Rattle.std.specs.Prelude.{decimal, codes}
use Rattle.std.specs.List.{flat_map, AllByRecursion}
use Rattle.std.proofs.lemmas.List.{length-append}
use Rattle.std.proofs.lemmas.List.Concat.{flat_map-cons}
use Rattle.std.proofs.lemmas.Nat.{mul-le}
use Rattle.std.proofs.lemmas.Fmt.{length-decimal-le}
use Rattle.texts.specs.Lines.{ended, spaced, text_of}
use Rattle.pallet_choice.specs.Text.{told_words, chosen_words, rival_line, tail_lines}
use Rattle.pallet_choice.specs.Ranges.{IsTold, RisesFrom}
use Rattle.pallet_choice.specs.Laws.{TailsAreShort}
use Rattle.pallet_choice.proofs.EntryLines.{IsChosenTold}
use Rattle.pallet_choice.proofs.RivalLines.{number_told}

-- the bytes of words, each behind a space
abbrev behind_len : List (List ℕ) → ℕ
behind_len [] = 0
behind_len (w ∷ ws) = suc (length w) + behind_len ws

length-behind : (ws : List (List ℕ)) → length (flat_map (λ v. 32 ∷ v) ws) ≡ behind_len ws
length-behind [] = refl
length-behind (w ∷ ws) = ap length (flat_map-cons (λ (v : List ℕ). 32 ∷ v) w ws) ∙ length-append (32 ∷ w) (flat_map (λ v. 32 ∷ v) ws) ∙ ap (λ (n : ℕ). suc (length w) + n) (length-behind ws)

-- a line of words, with its end
length-line : (w : List ℕ) (ws : List (List ℕ)) → length (ended (spaced (w ∷ ws))) ≡ (length w + behind_len ws) + 1
length-line w ws = length-append (spaced (w ∷ ws)) (10 ∷ []) ∙ ap (λ (n : ℕ). n + 1) (length-append w (flat_map (λ v. 32 ∷ v) ws) ∙ ap (λ (n : ℕ). length w + n) (length-behind ws))

length-text : (line : List ℕ) (lines : List (List ℕ)) → length (text_of (line ∷ lines)) ≡ length (ended line) + length (text_of lines)
length-text line lines = ap length (flat_map-cons ended line lines) ∙ length-append (ended line) (text_of lines)

told_short : (name unit : List ℕ) (entry : ℕ × ℕ) → IsTold entry → length (ended (spaced (told_words name unit entry))) ≤ (length name + length unit) + 11
told_short name unit entry f =
    let number_le = f.0.1 in
    let cases_le = f.1.1 in
    let number = length-decimal-le 3 entry.0 (omega arith) (omega arith) (omega arith) in
    let cases = length-decimal-le 4 entry.1 (omega arith) (omega arith) (omega arith) in
    let e = length-line name (decimal entry.0 ∷ unit ∷ decimal entry.1 ∷ []) in
    omega arith

chosen_short : (chosen : Option (ℕ × ℕ)) → IsChosenTold chosen → length (ended (spaced (chosen_words chosen))) ≤ 22
chosen_short None f = omega arith
chosen_short (Some entry) f = told_short (codes "chosen") (codes "count") entry f

rivals_short : (rs : List (ℕ × ℕ)) → AllByRecursion IsTold rs → length (text_of (map rival_line rs)) ≤ length rs * 21
rivals_short [] f = omega arith
rivals_short (r ∷ rs) f =
    let first = told_short (codes "rival") (codes "bound") r f.0 in
    let others = rivals_short rs f.1 in
    let e = length-text (rival_line r) (map rival_line rs) in
    omega arith

-- numbers that rise up to 256 are few
few_rivals : (low : ℕ) (rs : List (ℕ × ℕ)) → low ≤ 256 → AllByRecursion IsTold rs → RisesFrom low (map number_told rs) → low + length rs ≤ 256
few_rivals low [] le told rise = omega arith
few_rivals low (r ∷ rs) le told rise =
    let above = rise.0 in
    let high = told.0.0.1 in
    let others = few_rivals r.0 rs high told.1 rise.1 in
    omega arith

pub tail_short : TailsAreShort
unfolding tail_lines
tail_short t f =
    let few = few_rivals 0 t.rivals (omega arith) f.rivals f.rise in
    let first = chosen_short t.chosen f.chosen in
    let others = rivals_short t.rivals f.rivals in
    let most : length t.rivals * 21 ≤ 256 * 21 = mul-le (length t.rivals) 21 256 21 (omega arith) (omega arith) in
    let e = length-text (spaced (chosen_words t.chosen)) (map rival_line t.rivals) in
    omega arith
