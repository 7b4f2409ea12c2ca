-- Lists of sizes that rise: one more size, and that there is one list of each kind.
use Rattle.std.proofs.Common.{◌≡◌, ℕ, zero, suc, ◌<◌, ◌⊎◌, inl, inr, List, [], ◌∷◌, ◌++◌, length, get_or, refl, sym, ap, subst, ◌∙◌, arith}
use Rattle.std.specs.List.{AllPairs, Contains}
use Rattle.std.proofs.lemmas.List.Elements.{All-nil, All-push, All-weaker, Contains-append_left, Contains-push}
use Rattle.std.proofs.lemmas.List.Quantifiers.{all_pairs_push}
use Rattle.case_design.specs.declared.sizes.Size.{Size}
use Rattle.case_design.specs.Sizes.{ComesBefore, Lists}

-- ---- lists that grow

pub lists_none : (Kind : Size → Type 0) → ((s : Size) → ¬ Kind s) → Lists Kind []
lists_none Kind none = record { each = All-nil Kind; whole = λ s k. absurd (none s k); rising = λ i j d lt in_list. absurd (omega arith) }

-- the same sizes in other words
pub lists_as : (Kind Other : Size → Type 0) (sizes : List Size) → ((s : Size) → Kind s → Other s) → ((s : Size) → Other s → Kind s) → Lists Kind sizes → Lists Other sizes
lists_as Kind Other sizes to back l =
    record { each = All-weaker Kind Other to sizes l.each; whole = λ s k. l.whole s (back s k); rising = l.rising }

-- a size that comes behind all others
pub lists_push : (Kind : Size → Type 0) (sizes : List Size) (last : Size) → Lists Kind sizes → ((s : Size) → Kind s → ComesBefore s last) → Lists (λ s. Kind s ⊎ (s ≡ last)) (sizes ++ last ∷ [])
lists_push Kind sizes last l behind = record {
  each = All-push (λ s. Kind s ⊎ (s ≡ last)) sizes last (All-weaker Kind (λ s. Kind s ⊎ (s ≡ last)) (λ s k. inl k) sizes l.each) (inr refl);
  whole = λ s k. elim k [
    | inl old ↦ Contains-append_left sizes (last ∷ []) s (l.whole s old)
    | inr new ↦ subst (Contains (sizes ++ last ∷ [])) (sym new) (Contains-push sizes last)
  ];
  rising = all_pairs_push ComesBefore sizes last l.rising (λ k d in_list. behind (get_or sizes k d) (l.each k d in_list));
}

-- ---- there is one

never_both : (a b : Size) → ComesBefore a b → ComesBefore b a → ⊥
never_both a b h k = elim h [
  | inl less ↦ elim k [ inl more ↦ omega arith | inr same ↦ omega (arith, same.0) ]
  | inr same ↦ elim k [ inl more ↦ omega (arith, same.0) | inr other ↦ omega (arith, same.1, other.1) ]
]

never_itself : (a : Size) → ComesBefore a a → ⊥
never_itself a h = never_both a a h h

-- an element is the first, or one of those behind it
at_front : (first s : Size) (sizes : List Size) (k : ℕ) → k < length (first ∷ sizes) → get_or (first ∷ sizes) k s ≡ s → (first ≡ s) ⊎ Contains sizes s
at_front first s sizes zero lt is = inl is
at_front first s sizes (suc k) lt is = inr (k, omega arith, is)

front_or_behind : (first s : Size) (sizes : List Size) → Contains (first ∷ sizes) s → (first ≡ s) ⊎ Contains sizes s
front_or_behind first s sizes c = at_front first s sizes c.0 c.1 c.2

behind_front : (first s : Size) (sizes : List Size) → AllPairs ComesBefore (first ∷ sizes) → Contains sizes s → ComesBefore first s
behind_front first s sizes rising c = subst (ComesBefore first) c.2 (rising 0 (suc c.0) s (omega arith) (omega (arith, c.1)))

-- what the list has, apart from its first
pub record IsRest (Kind : Size → Type 0) (first s : Size) : Type 0 where
  pub kind : Kind s
  pub other : ComesBefore first s

lists_rest : (Kind : Size → Type 0) (first : Size) (sizes : List Size) → Lists Kind (first ∷ sizes) → Lists (IsRest Kind first) sizes
lists_rest Kind first sizes l = record {
  each = λ k d in_list. record { kind = l.each (suc k) d (omega arith); other = l.rising 0 (suc k) d (omega arith) (omega arith) };
  whole = λ s k. elim (front_or_behind first s sizes (l.whole s k.kind)) [
    | inl same ↦ absurd (never_itself s (subst (λ t. ComesBefore t s) same k.other))
    | inr behind ↦ behind
  ];
  rising = λ i j d lt in_list. l.rising (suc i) (suc j) d (omega arith) (omega arith);
}

first_is_one : (Kind : Size → Type 0) (a b : Size) (sizes others : List Size) → Lists Kind (a ∷ sizes) → Lists Kind (b ∷ others) → a ≡ b
first_is_one Kind a b sizes others l m =
    elim (front_or_behind a b sizes (l.whole b (m.each 0 b (omega arith)))) [
      | inl same ↦ same
      | inr after ↦
          elim (front_or_behind b a others (m.whole a (l.each 0 a (omega arith)))) [
            | inl same ↦ sym same
            | inr before ↦ absurd (never_both a b (behind_front a b sizes l.rising after) (behind_front b a others m.rising before))
          ]
    ]

pub lists_are_one : (Kind : Size → Type 0) (sizes others : List Size) → Lists Kind sizes → Lists Kind others → sizes ≡ others
lists_are_one Kind [] [] l m = refl
lists_are_one Kind [] (b ∷ others) l m = let c = l.whole b (m.each 0 b (omega arith)) in absurd (omega (arith, c.1))
lists_are_one Kind (a ∷ sizes) [] l m = let c = m.whole a (l.each 0 a (omega arith)) in absurd (omega (arith, c.1))
lists_are_one Kind (a ∷ sizes) (b ∷ others) l m =
    let first : a ≡ b = first_is_one Kind a b sizes others l m in
    let rest : sizes ≡ others = lists_are_one (IsRest Kind a) sizes others (lists_rest Kind a sizes l) (subst (λ f. Lists (IsRest Kind f) others) (sym first) (lists_rest Kind b others m)) in
    ap (λ f. f ∷ sizes) first ∙ ap (λ s. b ∷ s) rest
