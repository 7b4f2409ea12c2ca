-- A table of the next normal places, as it grows.
use Rattle.std.proofs.Common.{◌≡◌, ℕ, ◌+◌, ◌<◌, inl, inr, List, [], ◌∷◌, ◌++◌, length, get_or, length-append, sym, ap, ◌∙◌, arith}
use Rattle.std.proofs.Math.Seq.{get_or-append_seam}
use Rattle.std.proofs.lemmas.List.{get_or_append_left}
use Rattle.std.proofs.lemmas.Bool.{cases_lt}
use Rattle.plan_geometry.specs.declared.instances.Inst.{Inst}
use Rattle.cert_rules.specs.Next.{next}

pub next-more :
    (i : Inst) (side : ℕ) (xs : List ℕ) (n v : ℕ)
    → length xs ≡ n
    → ((k : ℕ) → k < length xs → get_or xs k 0 ≡ next i side k)
    → v ≡ next i side n
    → (k : ℕ) → k < length (xs ++ v ∷ []) → get_or (xs ++ v ∷ []) k 0 ≡ next i side k
next-more i side xs n v len each last k lt = elim (cases_lt k n) [
  | inl before ↦ get_or_append_left xs (v ∷ []) 0 k (omega arith) ∙ each k (omega arith)
  | inr at ↦
      let more : length (xs ++ v ∷ []) ≡ n + 1 = length-append xs (v ∷ []) ∙ omega arith in
      let same : length xs ≡ k = omega arith in
      let is : n ≡ k = omega arith in
      sym (ap (λ j. get_or (xs ++ v ∷ []) j 0) same) ∙ (get_or-append_seam xs v [] 0 ∙ (last ∙ ap (λ j. next i side j) is))
]
