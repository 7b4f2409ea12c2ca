-- A text that grows step by step.
use Rattle.std.proofs.Common.{◌≡◌, ℕ, List, ◌++◌, take, length, Result, Ok, Err, refl, ap, ◌∙◌, append_assoc}
use Rattle.std.proofs.lemmas.List.{take_at}
use Rattle.texts.specs.Puts.{Grows, Puts}

pub grows_after : (old text mid new : List ℕ) → mid ≡ old ++ text → Grows mid new → Grows old new
grows_after old text mid new e g = (text ++ g.0, g.1 ∙ ap (λ (t : List ℕ). t ++ g.0) e ∙ append_assoc old text g.0)

pub cut_back : (old new : List ℕ) → Grows old new → take (length old) new ≡ old
cut_back old new g = ap (take (length old)) g.1 ∙ take_at old g.0 (length old) refl

-- one piece, and what is put behind it
pub then_puts : {X E : Type 0} (old one new text more : List ℕ) (r : Result X E) → one ≡ old ++ text → Puts one new more r → Puts old new (text ++ more) r
then_puts old one new text more (Ok x) e p = p ∙ ap (λ (t : List ℕ). t ++ more) e ∙ append_assoc old text more
then_puts old one new text more (Err x) e p = grows_after old text one new e p

-- the same text in other words
pub puts_as : {X E : Type 0} (old new text whole : List ℕ) (r : Result X E) → Puts old new text r → text ≡ whole → Puts old new whole r
puts_as old new text whole (Ok x) p w = p ∙ ap (λ (t : List ℕ). old ++ t) w
puts_as old new text whole (Err x) p w = p
