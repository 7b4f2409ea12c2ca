-- The line of a word and a number that are known is read exactly.
use Rattle.std.proofs.Common.{◌≡◌, ℕ, ◌≤◌, List, [], ◌∷◌, Option, Some, None, refl, ap, ◌∙◌, arith, true}
use Rattle.std.specs.Prelude.{decimal, is_some}
use Rattle.std.specs.List.{AllByRecursion}
use Rattle.texts.specs.Lines.{spaced}
use Rattle.texts.specs.Words.{word_by, this_number}
use Rattle.texts.proofs.Parsers.{Parses, parses_behind, parses_this, IsWord, few_wide, words_spaced, ReadsLine, reads_line}
use Rattle.choice_text.specs.Words.{numbered_at, numbered_of}

abbrev pub numbered_line : List ℕ → ℕ → List ℕ
numbered_line word n = spaced (word ∷ decimal n ∷ [])

numbered_parses : (word : List ℕ) (number : ℕ) → number ≤ 9999999999 → Parses (λ n. word ∷ decimal n ∷ []) (λ n. n ≡ number) (numbered_at word number)
unfolding numbered_at
numbered_parses word number le = parses_behind word (λ n. decimal n ∷ []) (λ n. n ≡ number) (word_by (this_number number)) (parses_this number le)

pub numbered_solid : (word : List ℕ) (n : ℕ) → IsWord word → n ≤ 9999999999 → AllByRecursion IsWord (word ∷ decimal n ∷ [])
numbered_solid word n is_word le = (is_word, (few_wide n le, tt))

pub numbered_reads : (word : List ℕ) (number : ℕ) → IsWord word → number ≤ 9999999999 → ReadsLine (numbered_line word) (λ n. n ≡ number) (numbered_of word number)
unfolding numbered_of
numbered_reads word number is_word le =
    reads_line (λ n. word ∷ decimal n ∷ []) (λ n. n ≡ number) (numbered_at word number) (numbered_parses word number le) (λ n f. words_spaced word (decimal n ∷ []) (numbered_solid word n is_word (let e = f in omega arith)))

-- the test of such a line

is_some_of : (o : Option ℕ) → is_some o ≡ true → (n : ℕ) × (o ≡ Some n)
is_some_of (Some n) e = (n, refl)
is_some_of None e = absurd cc

pub passes_line : (word : List ℕ) (number : ℕ) → IsWord word → number ≤ 9999999999 → is_some (numbered_of word number (numbered_line word number)) ≡ true
passes_line word number is_word le = ap (λ (o : Option ℕ). is_some o) ((numbered_reads word number is_word le).back number refl)

pub only_line : (word : List ℕ) (number : ℕ) → IsWord word → number ≤ 9999999999 → (line : List ℕ) → is_some (numbered_of word number line) ≡ true → line ≡ numbered_line word number
only_line word number is_word le line passes =
    let o = is_some_of (numbered_of word number line) passes in
    let r = (numbered_reads word number is_word le).only line o.0 o.1 in
    r.1 ∙ ap (numbered_line word) r.0
