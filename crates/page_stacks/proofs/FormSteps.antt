-- The lines of the forms, and that of one form more.
use Rattle.std.proofs.Common.{◌≡◌, ℕ, ◌+◌, List, ◌++◌, sym, ap, ◌∙◌, append_assoc, add-one}
use Rattle.page_stacks.specs.Places.{places_of}
use Rattle.page_stacks.specs.Layers.{form_line, form_lines}

pub lines_more : (start out new : List ℕ) (k : ℕ) (stack : List ℕ) → out ≡ start ++ form_lines k stack → new ≡ out ++ form_line (k + 1) (places_of (k + 1) stack) → new ≡ start ++ form_lines (k + 1) stack
unfolding form_lines
lines_more start out new k stack before now =
    let line = form_line (k + 1) (places_of (k + 1) stack) in
    now ∙ ap (λ (t : List ℕ). t ++ line) before ∙ append_assoc start (form_lines k stack) line
    ∙ ap (λ (j : ℕ). start ++ form_lines j stack) (sym (add-one k))
