-- A weight in kilograms.
use Rattle.std.specs.Prelude.{ℕ, ◌/◌, ◌%◌, List, ◌++◌, codes, decimal}

-- the hundreds, the tens and the ones of a number, each as a digit
abbrev pub three_digits : ℕ → List ℕ
three_digits n = decimal (n / 100 % 10) ++ (decimal (n / 10 % 10) ++ decimal (n % 10))

-- so many grams in kilograms: the whole ones, a dot, and the grams that are left as three digits
unfoldable pub kilograms : ℕ → List ℕ
kilograms grams = decimal (grams / 1000) ++ (codes "." ++ three_digits (grams % 1000))
