-- A text that was put in parts, one behind another.
use Rattle.std.proofs.Common.{◌≡◌, ℕ, List, ◌++◌, ap, ◌∙◌, append_assoc}

pub two_parts : (old one new a b : List ℕ) → one ≡ old ++ a → new ≡ one ++ b → new ≡ old ++ (a ++ b)
two_parts old one new a b p q = q ∙ ap (λ (t : List ℕ). t ++ b) p ∙ append_assoc old a b

pub three_parts : (old one two new a b c : List ℕ) → one ≡ old ++ a → two ≡ one ++ b → new ≡ two ++ c → new ≡ old ++ (a ++ (b ++ c))
three_parts old one two new a b c p q r = two_parts old one new a (b ++ c) p (two_parts one two new b c q r)

pub four_parts : (old one two three new a b c d : List ℕ) → one ≡ old ++ a → two ≡ one ++ b → three ≡ two ++ c → new ≡ three ++ d
    → new ≡ old ++ (a ++ (b ++ (c ++ d)))
four_parts old one two three new a b c d p q r s = two_parts old one new a (b ++ (c ++ d)) p (three_parts one two three new b c d q r s)
