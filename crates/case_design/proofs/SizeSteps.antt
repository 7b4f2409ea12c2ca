-- The sizes of a brief, by longer sides up to one, and by shorter sides up to one.
use Rattle.std.proofs.Common.{◌≡◌, ℕ, zero, suc, ◌+◌, ◌-◌, ◌*◌, min, max, ◌<◌, ◌≤◌, ◌⊎◌, ◌↔◌, inl, inr, List, [], ◌∷◌, ◌++◌, length, map, refl, sym, ap, subst, ◌∙◌, append_assoc, append-nil, length-append, arith}
use Rattle.std.specs.List.{range_with_len}
use Rattle.std.specs.Int.{div_ceil}
use Rattle.std.proofs.lemmas.Bool.{cases_lt}
use Rattle.std.proofs.lemmas.Nat.{mul-le}
use Rattle.std.proofs.lemmas.Grind.{div_ceil_times}
use Rattle.std.proofs.lemmas.List.FromFn.{map-range_with_len_more, length-map-range_with_len}
use Rattle.case_design.specs.declared.briefs.Brief.{Brief}
use Rattle.case_design.specs.declared.sizes.Size.{Size}
use Rattle.case_design.specs.Sizes.{IsSize, Lists, AreSizes, size_with}
use Rattle.case_design.specs.Laws.{SizesAreOne}
use Rattle.case_design.proofs.SizeLists.{lists_none, lists_as, lists_push, lists_are_one}

-- ---- the shorter sides that go with a longer one

ceil_below : (area long short : ℕ) → 1 ≤ long → (div_ceil area long ≤ short) ↔ (area ≤ long * short)
ceil_below area long short some = (λ le. enough le, λ le. least le)
  where
    enough : div_ceil area long ≤ short → area ≤ long * short
    enough le = let t = div_ceil_times area long some in let m : div_ceil area long * long ≤ short * long = mul-le (div_ceil area long) long short long le (omega arith) in omega arith

    least : area ≤ long * short → div_ceil area long ≤ short
    least le = elim (cases_lt short (div_ceil area long)) [
      | inl more ↦
          let t = div_ceil_times area long some in
          let m : (short + 1) * long ≤ div_ceil area long * long = mul-le (short + 1) long (div_ceil area long) long (omega arith) (omega arith) in
          absurd (omega arith)
      | inr no_more ↦ no_more
    ]

abbrev pub first_short : Brief → ℕ → ℕ
first_short brief long = max brief.short_from (div_ceil brief.least_area long)

abbrev pub end_short : Brief → ℕ → ℕ
end_short brief long = min brief.short_to long + 1

pub shorts_are : (brief : Brief) (long short : ℕ) → 1 ≤ long → brief.long_from ≤ long → long ≤ brief.long_to → ((first_short brief long ≤ short) × (short < end_short brief long)) ↔ IsSize brief (size_with long short)
shorts_are brief long short some from to = (
  λ h. let area = (ceil_below brief.least_area long short some).0 (omega (arith, h.0)) in record {
    long_from = from;
    long_to = to;
    short_from = omega (arith, h.0);
    short_to = omega (arith, h.1);
    shorter = omega (arith, h.1);
    area = area;
  },
  λ s. let least = (ceil_below brief.least_area long short some).1 s.area in (omega (arith, s.short_from), omega (arith, s.short_to, s.shorter)),
)

-- ---- the sizes below a longer side, or with that one and below a shorter side

abbrev pub IsEarlier : ℕ → ℕ → Size → Type 0
IsEarlier long short s = (s.long < long) ⊎ ((s.long ≡ long) × (s.short < short))

pub record IsSizeUpTo (brief : Brief) (long short : ℕ) (s : Size) : Type 0 where
  pub is_size : IsSize brief s
  pub earlier : IsEarlier long short s

pub sizes_none : (brief : Brief) (long : ℕ) → long ≤ brief.long_from → Lists (IsSizeUpTo brief long 0) []
sizes_none brief long le = lists_none (IsSizeUpTo brief long 0) none
  where
    none : (s : Size) → ¬ IsSizeUpTo brief long 0 s
    none s k = elim k.earlier [ inl less ↦ let from = k.is_size.long_from in omega arith | inr same ↦ omega (arith, same.1) ]

split_side : (brief : Brief) (long short : ℕ) (s : Size) → IsSizeUpTo brief long (short + 1) s → IsSizeUpTo brief long short s ⊎ (s ≡ size_with long short)
split_side brief long short s k = elim k.earlier [
  | inl less ↦ inl (record { is_size = k.is_size; earlier = inl less })
  | inr same ↦ elim (cases_lt s.short short) [
    | inl below ↦ inl (record { is_size = k.is_size; earlier = inr (same.0, below) })
    | inr here ↦
        let e : s.short ≡ short = omega (arith, same.1) in
        inr (ap (λ l. size_with l s.short) same.0 ∙ ap (λ t. size_with long t) e)
  ]
]

up_by_one : (brief : Brief) (long short : ℕ) (s : Size) → IsSizeUpTo brief long short s → IsSizeUpTo brief long (short + 1) s
up_by_one brief long short s k = record {
  is_size = k.is_size;
  earlier = elim k.earlier [ inl less ↦ inl less | inr same ↦ inr (same.0, omega (arith, same.1)) ];
}

-- one shorter side more, where it gives a size, and where it gives none
pub with_side : (brief : Brief) (long short : ℕ) (sizes : List Size) → Lists (IsSizeUpTo brief long short) sizes → IsSize brief (size_with long short) → Lists (IsSizeUpTo brief long (short + 1)) (sizes ++ size_with long short ∷ [])
with_side brief long short sizes l is_size =
    lists_as (λ s. IsSizeUpTo brief long short s ⊎ (s ≡ size_with long short)) (IsSizeUpTo brief long (short + 1)) (sizes ++ size_with long short ∷ [])
    join (split_side brief long short)
    (lists_push (IsSizeUpTo brief long short) sizes (size_with long short) l (λ s k. k.earlier))
  where
    here : IsSizeUpTo brief long (short + 1) (size_with long short)
    here = record { is_size = is_size; earlier = inr (refl, omega arith) }

    join : (s : Size) → IsSizeUpTo brief long short s ⊎ (s ≡ size_with long short) → IsSizeUpTo brief long (short + 1) s
    join s k = elim k [
      | inl old ↦ up_by_one brief long short s old
      | inr new ↦ subst (IsSizeUpTo brief long (short + 1)) (sym new) here
    ]

pub without_side : (brief : Brief) (long short : ℕ) (sizes : List Size) → Lists (IsSizeUpTo brief long short) sizes → ¬ IsSize brief (size_with long short) → Lists (IsSizeUpTo brief long (short + 1)) sizes
without_side brief long short sizes l no_size =
    lists_as (IsSizeUpTo brief long short) (IsSizeUpTo brief long (short + 1)) sizes (up_by_one brief long short) back l
  where
    back : (s : Size) → IsSizeUpTo brief long (short + 1) s → IsSizeUpTo brief long short s
    back s k = elim (split_side brief long short s k) [
      | inl old ↦ old
      | inr new ↦ absurd (no_size (subst (IsSize brief) new k.is_size))
    ]

-- a shorter side is at most the longer, so the next longer side comes behind
pub next_long : (brief : Brief) (long end : ℕ) (sizes : List Size) → ((short : ℕ) → IsSize brief (size_with long short) → short < end) → Lists (IsSizeUpTo brief long end) sizes → Lists (IsSizeUpTo brief (long + 1) 0) sizes
next_long brief long end sizes all l = lists_as (IsSizeUpTo brief long end) (IsSizeUpTo brief (long + 1) 0) sizes to back l
  where
    to : (s : Size) → IsSizeUpTo brief long end s → IsSizeUpTo brief (long + 1) 0 s
    to s k = record { is_size = k.is_size; earlier = elim k.earlier [ inl less ↦ inl (omega arith) | inr same ↦ inl (omega (arith, same.0)) ] }

    below : (s : Size) → IsSize brief s → s.long ≡ long → s.short < end
    below s k e = all s.short (subst (λ l. IsSize brief (size_with l s.short)) e k)

    back : (s : Size) → IsSizeUpTo brief (long + 1) 0 s → IsSizeUpTo brief long end s
    back s k = elim k.earlier [
      | inl less ↦ elim (cases_lt s.long long) [
        | inl before ↦ record { is_size = k.is_size; earlier = inl before }
        | inr here ↦ let e : s.long ≡ long = omega arith in record { is_size = k.is_size; earlier = inr (e, below s k.is_size e) }
      ]
      | inr same ↦ absurd (omega (arith, same.1))
    ]

-- ---- the sizes of one longer side at once

abbrev pub run_of : ℕ → ℕ → ℕ → List Size
run_of long first count = map (size_with long) (range_with_len first count)

-- so many shorter sides from the first on, each of which gives a size
run_more : (brief : Brief) (long first count : ℕ) (sizes : List Size) → Lists (IsSizeUpTo brief long first) sizes → ((short : ℕ) → first ≤ short → short < first + count → IsSize brief (size_with long short)) → Lists (IsSizeUpTo brief long (first + count)) (sizes ++ run_of long first count)
run_more brief long first zero sizes l each =
    let end : first ≡ first + 0 = omega arith in
    subst (λ (n : ℕ). Lists (IsSizeUpTo brief long n) (sizes ++ [])) end (subst (λ (xs : List Size). Lists (IsSizeUpTo brief long first) xs) (sym (append-nil sizes)) l)
run_more brief long first (suc count) sizes l each =
    let before = run_more brief long first count sizes l (λ short from below. each short from (omega arith)) in
    let more = with_side brief long (first + count) (sizes ++ run_of long first count) before (each (first + count) (omega arith) (omega arith)) in
    let end : first + count + 1 ≡ first + suc count = omega arith in
    let next : count + 1 ≡ suc count = omega arith in
    let run : run_of long first (suc count) ≡ run_of long first count ++ size_with long (first + count) ∷ []
    = subst (λ (n : ℕ). run_of long first n ≡ run_of long first count ++ size_with long (first + count) ∷ []) next (map-range_with_len_more (size_with long) first count (first + count) refl) in
    let same : (sizes ++ run_of long first count) ++ size_with long (first + count) ∷ [] ≡ sizes ++ run_of long first (suc count)
    = append_assoc sizes (run_of long first count) (size_with long (first + count) ∷ []) ∙ ap (λ (xs : List Size). sizes ++ xs) (sym run) in
    subst (λ (xs : List Size). Lists (IsSizeUpTo brief long (first + suc count)) xs) same (subst (λ (n : ℕ). Lists (IsSizeUpTo brief long n) ((sizes ++ run_of long first count) ++ size_with long (first + count) ∷ [])) end more)

-- no size of this longer side has a shorter side below the first
from_first : (brief : Brief) (long first : ℕ) (sizes : List Size) → ((short : ℕ) → IsSize brief (size_with long short) → first ≤ short) → Lists (IsSizeUpTo brief long 0) sizes → Lists (IsSizeUpTo brief long first) sizes
from_first brief long first sizes none l = lists_as (IsSizeUpTo brief long 0) (IsSizeUpTo brief long first) sizes to back l
  where
    to : (s : Size) → IsSizeUpTo brief long 0 s → IsSizeUpTo brief long first s
    to s k = record { is_size = k.is_size; earlier = elim k.earlier [ inl less ↦ inl less | inr same ↦ absurd (omega (arith, same.1)) ] }

    from : (s : Size) → IsSize brief s → s.long ≡ long → first ≤ s.short
    from s k e = none s.short (subst (λ l. IsSize brief (size_with l s.short)) e k)

    back : (s : Size) → IsSizeUpTo brief long first s → IsSizeUpTo brief long 0 s
    back s k = elim k.earlier [
      | inl less ↦ record { is_size = k.is_size; earlier = inl less }
      | inr same ↦ let le = from s k.is_size same.0 in absurd (omega (arith, same.1))
    ]

-- the shorter sides from the first up to the end, without it, are those that give sizes
abbrev pub AreShorts : Brief → ℕ → ℕ → ℕ → Type 0
AreShorts brief long first end = (short : ℕ) → ((first ≤ short) × (short < end)) ↔ IsSize brief (size_with long short)

pub one_long_more : (brief : Brief) (long first end : ℕ) (sizes : List Size) → AreShorts brief long first end → Lists (IsSizeUpTo brief long 0) sizes → Lists (IsSizeUpTo brief (long + 1) 0) (sizes ++ run_of long first (end - first))
one_long_more brief long first end sizes shorts l =
    next_long brief long (first + (end - first)) (sizes ++ run_of long first (end - first)) (λ short k. let h = (shorts short).1 k in omega (arith, h.0, h.1))
    (run_more brief long first (end - first) sizes (from_first brief long first sizes (λ short k. ((shorts short).1 k).0) l) (λ short from below. (shorts short).0 (from, omega arith)))

pub length_more : (long first count : ℕ) (sizes : List Size) → length (sizes ++ run_of long first count) ≡ length sizes + count
length_more long first count sizes = omega (arith, length-append sizes (run_of long first count), length-map-range_with_len (size_with long) first count)

-- ---- all sizes

pub whole_list : (brief : Brief) (long : ℕ) (sizes : List Size) → brief.long_to + 1 ≤ long → Lists (IsSizeUpTo brief long 0) sizes → AreSizes brief sizes
whole_list brief long sizes le l =
    lists_as (IsSizeUpTo brief long 0) (IsSize brief) sizes (λ s k. k.is_size) (λ s k. let to = k.long_to in record { is_size = k; earlier = inl (omega arith) }) l

-- a list of the sizes below a longer side, and how many these are
pub record IsCounted (brief : Brief) (long count : ℕ) : Type 0 where
  pub sizes : List Size
  pub lists : Lists (IsSizeUpTo brief long 0) sizes
  pub counted : length sizes ≡ count

pub counted_more : (brief : Brief) (long first end count : ℕ) → AreShorts brief long first end → IsCounted brief long count → IsCounted brief (long + 1) (count + (end - first))
counted_more brief long first end count shorts c = record {
  sizes = c.sizes ++ run_of long first (end - first);
  lists = one_long_more brief long first end c.sizes shorts c.lists;
  counted = length_more long first (end - first) c.sizes ∙ ap (λ (n : ℕ). n + (end - first)) c.counted;
}

pub counted_all : (brief : Brief) (long count : ℕ) (sizes : List Size) → brief.long_to + 1 ≤ long → IsCounted brief long count → AreSizes brief sizes → length sizes ≡ count
counted_all brief long count sizes le c are =
    ap length (lists_are_one (IsSize brief) sizes c.sizes are (whole_list brief long c.sizes le c.lists)) ∙ c.counted

-- ---- there is a list of the sizes of each brief

-- by how much a size misses what the brief asks for, all in all
abbrev missing : Brief → Size → ℕ
missing brief s =
    (brief.long_from - s.long) + (s.long - brief.long_to) + (brief.short_from - s.short) + (s.short - brief.short_to) + (s.short - s.long) + (brief.least_area - s.long * s.short)

is_size_or_not : (brief : Brief) (s : Size) → IsSize brief s ⊎ (¬ IsSize brief s)
is_size_or_not brief s = elim (cases_lt 0 (missing brief s)) [
  | inl some ↦ inr (λ k.
      let long_from = k.long_from in
      let long_to = k.long_to in
      let short_from = k.short_from in
      let short_to = k.short_to in
      let shorter = k.shorter in
      let area = k.area in
      omega arith)
  | inr none ↦ inl (record {
    long_from = omega arith;
    long_to = omega arith;
    short_from = omega arith;
    short_to = omega arith;
    shorter = omega arith;
    area = omega arith;
  })
]

sides_below : (brief : Brief) (long short : ℕ) (sizes : List Size) → Lists (IsSizeUpTo brief long 0) sizes → (more : List Size) × Lists (IsSizeUpTo brief long short) more
sides_below brief long zero sizes l = (sizes, l)
sides_below brief long (suc short) sizes l =
    let before = sides_below brief long short sizes l in
    let next : short + 1 ≡ suc short = omega arith in
    let grown = λ (more : List Size) (m : Lists (IsSizeUpTo brief long (short + 1)) more). subst (λ (n : ℕ). Lists (IsSizeUpTo brief long n) more) next m in
    elim (is_size_or_not brief (size_with long short)) [
      | inl is_size ↦ (before.0 ++ size_with long short ∷ [], grown (before.0 ++ size_with long short ∷ []) (with_side brief long short before.0 before.1 is_size))
      | inr no_size ↦ (before.0, grown before.0 (without_side brief long short before.0 before.1 no_size))
    ]

sizes_below : (brief : Brief) (long : ℕ) → (sizes : List Size) × Lists (IsSizeUpTo brief long 0) sizes
sizes_below brief zero = ([], sizes_none brief 0 (omega arith))
sizes_below brief (suc long) =
    let before = sizes_below brief long in
    let here = sides_below brief long (long + 1) before.0 before.1 in
    let next : long + 1 ≡ suc long = omega arith in
    (here.0, subst (λ (n : ℕ). Lists (IsSizeUpTo brief n 0) here.0) next (next_long brief long (long + 1) here.0 (λ short k. let le = k.shorter in omega arith) here.1))

pub some_list : (brief : Brief) → (sizes : List Size) × AreSizes brief sizes
some_list brief =
    let all = sizes_below brief (brief.long_to + 1) in
    (all.0, whole_list brief (brief.long_to + 1) all.0 (omega arith) all.1)

pub one_list : SizesAreOne
one_list brief =
    let some = some_list brief in
    (some.0, record { are_sizes = some.1; only = λ others are. lists_are_one (IsSize brief) others some.0 are some.1 })
