-- Starts of cases, ends and lines.
use Rattle.std.proofs.Common.{◌≡◌, ◌≢◌, ℕ, zero, suc, ◌+◌, ◌-◌, ◌*◌, ◌<◌, ◌≤◌, ◌⊎◌, ◌↔◌, Bool, true, false, IsTrue, List, length, get_or, set, take, replicate, ◌++◌, Option, Some, None, Result, Ok, Err, inl, inr, sym, ap, subst, ◌∙◌, refl, arith}
use Rattle.std.specs.List.{All, AllPairs, Contains}
use Rattle.std.specs.Ordering.{nat_cmp}
use Rattle.std.specs.Result.{is_ok}
use Rattle.std.specs.Option.{IfNone}
use Rattle.std.specs.List.Sorted.{IsBinarySearchResult}
use Rattle.std.proofs.lemmas.Bool.{cases_lt, cases_eq, false≢true}
use Rattle.std.proofs.lemmas.List.{get_or_default, get_or-set_same, get_or-set_other, length-set, get_or-replicate, length-replicate}
use Rattle.std.proofs.lemmas.List.Sorted.{searched}
use Rattle.std.proofs.Math.Seq.{take-append_seam}
use Rattle.plan_geometry.specs.declared.spots.Axis.{Axis}
use Rattle.plan_geometry.specs.declared.spots.Way.{Way}
use Rattle.plan_geometry.specs.declared.spots.Axis.TheVariants.{X, Y}
use Rattle.plan_geometry.specs.declared.spots.Way.TheVariants.{Lying, Standing}
use Rattle.plan_geometry.specs.declared.instances.Inst.{Inst}
use Rattle.plan_geometry.specs.Layout.{side, extent}
use Rattle.partitions.specs.Partitions.{IsNormal}
use Rattle.raster_points.specs.Places.{IsDown, Lists}
use Rattle.raster_points.proofs.PlaceLemmas.{normal_down}
use Rattle.line_search.specs.Lines.{IsStart, IsEnd, IsFirstEnd, IsNormalFromEnd, IsLastBefore, IsLineOf, IsLine}
use Rattle.line_tables.specs.Lines.{half}
use Rattle.line_search.specs.Search.{HasFewLines}
use Rattle.line_search.specs.Starts.{IsLineOfSome, IsMarked}

-- ---- rising numbers

rising-le : (xs : List ℕ) (j k : ℕ) → AllPairs (λ (x y : ℕ). x < y) xs → j ≤ k → k < length xs → get_or xs j 0 ≤ get_or xs k 0
rising-le xs j k up l p =
    elim (cases_eq j k) [
      | inl e ↦
          let same : get_or xs j 0 ≡ get_or xs k 0 = ap (λ i. get_or xs i 0) e in
          omega arith
      | inr n ↦ omega (arith, up j k 0 (omega arith) p)
    ]

rising-index : (xs : List ℕ) (k : ℕ) → AllPairs (λ (x y : ℕ). x < y) xs → k < length xs → k ≤ get_or xs k 0
rising-index xs zero up p = omega arith
rising-index xs (suc k) up p = omega (arith, rising-index xs k up (omega arith), up k (suc k) 0 (omega arith) p)

-- rising numbers below n are at most n
pub lists-few : (P : ℕ → Type 0) (n : ℕ) (xs : List ℕ) → ((v : ℕ) → P v → v < n) → Lists P xs → length xs ≤ n
lists-few P n xs low h =
    let k = length xs - 1 in
    elim (cases_lt 0 (length xs)) [
      | inl some ↦
          let p : k < length xs = omega arith in
          omega (arith, rising-index xs k h.rising p, low (get_or xs k 0) (h.each k 0 p))
      | inr none ↦ omega arith
    ]

pub searched-has : (xs : List ℕ) (x : ℕ) (r : Result ℕ ℕ) → AllPairs (λ (x y : ℕ). x < y) xs → IsBinarySearchResult (λ y. nat_cmp y x) xs r → IsTrue (is_ok r) ↔ Contains xs x
searched-has xs x (Ok i) up h =
    let at = searched xs x (Ok i) h (λ i j le lt. rising-le xs i j up le lt) in
    (λ b. (i, at.0, sym (get_or_default xs i 0 x at.0) ∙ at.1), λ c. refl)
searched-has xs x (Err i) up h =
    let at = searched xs x (Err i) h (λ i j le lt. rising-le xs i j up le lt) in (
      λ b. absurd (false≢true b),
      λ c.
          let k = c.0 in
          let here : get_or xs k 0 ≡ x = get_or_default xs k 0 x c.1 ∙ c.2 in
          elim (cases_lt k i) [
            | inl l ↦ absurd (omega (arith, here, at.1 k l))
            | inr l ↦ absurd (omega (arith, here, at.2 k l c.1))
          ],
    )

-- ---- lines

pub normal_from_end : (a : Axis) (I : Inst) (place left down : ℕ) → left ≡ side a I - place → place ≤ side a I → IsDown left I.long I.short down → (down ≡ left) ↔ IsNormalFromEnd a I place
normal_from_end a I place left down e within d =
    let n = normal_down (side a I) I.long I.short left down (omega arith) d in (
      λ same. record { within = within; normal = subst (λ v. IsNormal (side a I) I.long I.short v) e (n.0 same) },
      λ h. n.1 (subst (λ v. IsNormal (side a I) I.long I.short v) (sym e) h.normal),
    )

first_end-unique : (a : Axis) (I : Inst) (start e f : ℕ) → IsFirstEnd a I start e → IsFirstEnd a I start f → e ≡ f
first_end-unique a I start e f g h = omega (arith, g.first f h.behind h.ends, h.first e g.behind g.ends)

last_before-unique : (a : Axis) (I : Inst) (end p q : ℕ) → IsLastBefore a I end p → IsLastBefore a I end q → p ≡ q
last_before-unique a I end p q g h = omega (arith, g.last q h.before h.normal, h.last p g.before g.normal)

pub line_of-unique : (a : Axis) (I : Inst) (start p q : ℕ) → IsLineOf a I start p → IsLineOf a I start q → p ≡ q
line_of-unique a I start p q g h =
    let same : h.end ≡ g.end = first_end-unique a I start h.end g.end h.first g.first in
    last_before-unique a I g.end p q g.last (subst (λ e. IsLastBefore a I e q) same h.last)

-- ---- marks

keep-mark : (marks : List Bool) (line v : ℕ) → line < length marks → IsMarked marks v → IsMarked (set marks line true) v
keep-mark marks line v within h =
    let room : v < length (set marks line true) = omega (arith, length-set marks line true, h.within) in
    elim (cases_eq v line) [
      | inl e ↦ record { within = room; marked = subst (λ i. get_or (set marks line true) i false ≡ true) (sym e) (get_or-set_same marks line true false within) }
      | inr n ↦ record { within = room; marked = get_or-set_other marks line v true false n ∙ h.marked }
    ]

new-mark : (marks : List Bool) (line : ℕ) → line < length marks → IsMarked (set marks line true) line
new-mark marks line within =
    record { within = omega (arith, length-set marks line true); marked = get_or-set_same marks line true false within }

old-mark : (marks : List Bool) (line v : ℕ) → v ≢ line → IsMarked (set marks line true) v → IsMarked marks v
old-mark marks line v n h =
    record { within = omega (arith, length-set marks line true, h.within); marked = sym (get_or-set_other marks line v true false n) ∙ h.marked }

more-starts : (a : Axis) (I : Inst) (places : List ℕ) (n v : ℕ) (old : Type 0) → (old ⊎ IsLineOfSome a I places n v) → (old ⊎ IsLineOfSome a I places (n + 1) v)
more-starts a I places n v old (inl h) = inl h
more-starts a I places n v old (inr h) = inr (record { place = h.place; within = omega (arith, h.within); line_of = h.line_of })

-- where the line of the next start is marked, those of one start more are
pub mark-more : (a : Axis) (I : Inst) (places : List ℕ) (n line : ℕ) (old marks : List Bool) → line < length marks → IsLineOf a I (get_or places n 0) line
    → ((v : ℕ) → IsMarked marks v ↔ (IsMarked old v ⊎ IsLineOfSome a I places n v))
    → (v : ℕ) → IsMarked (set marks line true) v ↔ (IsMarked old v ⊎ IsLineOfSome a I places (n + 1) v)
mark-more a I places n line old marks within h each v = (
  λ m. elim (cases_eq v line) [
    | inl e ↦ inr (record { place = n; within = omega arith; line_of = subst (IsLineOf a I (get_or places n 0)) (sym e) h })
    | inr o ↦ more-starts a I places n v (IsMarked old v) ((each v).0 (old-mark marks line v o m))
  ],
  λ s. elim s [
    | inl m ↦ keep-mark marks line v within ((each v).1 (inl m))
    | inr m ↦ elim (cases_lt m.place n) [
      | inl l ↦ keep-mark marks line v within ((each v).1 (inr (record { place = m.place; within = l; line_of = m.line_of })))
      | inr l ↦
          let last : m.place ≡ n = omega (arith, m.within) in
          let same : line ≡ v = line_of-unique a I (get_or places n 0) line v h (subst (λ i. IsLineOf a I (get_or places i 0) v) last m.line_of) in
          subst (IsMarked (set marks line true)) same (new-mark marks line within)
    ]
  ],
)

-- where the next start has no line, there are those of one start more
pub mark-none : (a : Axis) (I : Inst) (places : List ℕ) (n : ℕ) (old marks : List Bool) → ((line : ℕ) → ¬ IsLineOf a I (get_or places n 0) line)
    → ((v : ℕ) → IsMarked marks v ↔ (IsMarked old v ⊎ IsLineOfSome a I places n v))
    → (v : ℕ) → IsMarked marks v ↔ (IsMarked old v ⊎ IsLineOfSome a I places (n + 1) v)
mark-none a I places n old marks h each v = (
  λ m. more-starts a I places n v (IsMarked old v) ((each v).0 m),
  λ s. elim s [
    | inl m ↦ (each v).1 (inl m)
    | inr m ↦ elim (cases_lt m.place n) [
      | inl l ↦ (each v).1 (inr (record { place = m.place; within = l; line_of = m.line_of }))
      | inr l ↦
          let last : m.place ≡ n = omega (arith, m.within) in
          absurd (h v (subst (λ i. IsLineOf a I (get_or places i 0) v) last m.line_of))
    ]
  ],
)

-- the lines of the starts of both ways are those of the axis
pub lines-of-ways : (a : Axis) (I : Inst) (lying standing : List ℕ) (none one both : List Bool)
    → Lists (IsStart a I Lying) lying → Lists (IsStart a I Standing) standing → ((v : ℕ) → ¬ IsMarked none v)
    → ((v : ℕ) → IsMarked one v ↔ (IsMarked none v ⊎ IsLineOfSome a I lying (length lying) v))
    → ((v : ℕ) → IsMarked both v ↔ (IsMarked one v ⊎ IsLineOfSome a I standing (length standing) v))
    → (v : ℕ) → IsMarked both v ↔ IsLine a I v
lines-of-ways a I lying standing none one both l s empty h k v = (
  λ m. elim ((k v).0 m) [
    | inl p ↦ elim ((h v).0 p) [
      | inl q ↦ absurd (empty v q)
      | inr q ↦ record { way = Lying; start = get_or lying q.place 0; starts = l.each q.place 0 q.within; line_of = q.line_of }
    ]
    | inr q ↦ record { way = Standing; start = get_or standing q.place 0; starts = s.each q.place 0 q.within; line_of = q.line_of }
  ],
  λ m. by-way m.way m.start m.starts m.line_of,
)
  where
    some-of : (way : Way) (starts : List ℕ) (start : ℕ) → Lists (IsStart a I way) starts → IsStart a I way start → IsLineOf a I start v → IsLineOfSome a I starts (length starts) v
    some-of way starts start all p q =
        let at = all.whole start p in
        record { place = at.0; within = at.1; line_of = subst (λ i. IsLineOf a I i v) (sym (get_or_default starts at.0 0 start at.1 ∙ at.2)) q }

    by-way : (way : Way) (start : ℕ) → IsStart a I way start → IsLineOf a I start v → IsMarked both v
    by-way Lying start p q = (k v).1 (inl ((h v).1 (inr (some-of Lying lying start l p q))))
    by-way Standing start p q = (k v).1 (inr (some-of Standing standing start s p q))

pub lists-same : (P Q : ℕ → Type 0) (xs : List ℕ) → ((v : ℕ) → P v ↔ Q v) → Lists P xs → Lists Q xs
lists-same P Q xs same h = record {
  each = λ k d l. (same (get_or xs k d)).0 (h.each k d l);
  whole = λ v q. h.whole v ((same v).1 q);
  rising = h.rising;
}

-- nothing is marked where each is false
pub none-marked : (n v : ℕ) → ¬ IsMarked (replicate n false) v
none-marked n v h =
    false≢true (sym (get_or-replicate n v false false (omega (arith, length-replicate n false, h.within))) ∙ h.marked)

-- a start is below the side
pub start-low : (a : Axis) (I : Inst) (way : Way) (v : ℕ) → IsStart a I way v → v < side a I
start-low a I way v h =
    let within = h.raster.down.normal.within in
    let some : 1 ≤ extent a I way = extent-some a I way in
    omega (arith, h.fits, within)
  where
    extent-some : (a : Axis) (I : Inst) (way : Way) → 1 ≤ extent a I way
    extent-some X I Lying = omega (arith, I.sides.short_min, I.sides.ordered)
    extent-some X I Standing = omega (arith, I.sides.short_min, I.sides.ordered)
    extent-some Y I Lying = omega (arith, I.sides.short_min, I.sides.ordered)
    extent-some Y I Standing = omega (arith, I.sides.short_min, I.sides.ordered)

side-few : (a : Axis) (I : Inst) → side a I ≤ 4000
side-few X I = omega (arith, I.sides.l_max)
side-few Y I = omega (arith, I.sides.w_max)

pub starts-few : (a : Axis) (I : Inst) (way : Way) (xs : List ℕ) → Lists (IsStart a I way) xs → length xs ≤ 4000
starts-few a I way xs h =
    omega (arith, side-few a I, lists-few (IsStart a I way) (side a I) xs (start-low a I way) h)

-- a line is below the side
pub line-low : (a : Axis) (I : Inst) (v : ℕ) → IsLine a I v → v < side a I
line-low a I v h =
    let e = h.line_of.first.ends.ends in
    let s = e.starts in
    let within = s.raster.down.normal.within in
    omega (arith, h.line_of.last.before, e.ends, s.fits, within)

pub lines-few : (a : Axis) (I : Inst) (xs : List ℕ) → Lists (IsLine a I) xs → length xs ≤ 4000
lines-few a I xs h = omega (arith, side-few a I, lists-few (IsLine a I) (side a I) xs (line-low a I) h)

-- an end is on the side
pub end-within : (a : Axis) (I : Inst) (v : ℕ) → IsEnd a I v → v ≤ side a I
end-within a I v h =
    let s = h.ends.starts in
    let within = s.raster.down.normal.within in
    omega (arith, h.ends.ends, s.fits, within)

-- where the first end behind a start has no such place before it, the start has no line
pub no-line-of : (a : Axis) (I : Inst) (start end : ℕ) (r : Option ℕ) → IsFirstEnd a I start end → IfNone r ((place : ℕ) → ¬ IsLastBefore a I end place) → IfNone r ((line : ℕ) → ¬ IsLineOf a I start line)
no-line-of a I start end (Some v) h n = tt
no-line-of a I start end None h n =
    λ line l. n line (subst (λ e. IsLastBefore a I e line) (first_end-unique a I start l.end end l.first h) l.last)

-- what is written over the whole of a list
pub kept-whole : (n : ℕ) (xs ys : List Bool) → length xs ≡ n → take n (xs ++ ys) ≡ xs
kept-whole n xs ys e = ap (λ m. take m (xs ++ ys)) (sym e) ∙ take-append_seam xs ys

-- ---- two lists of the same numbers

-- a number of the first list stands in the second one at least as far from its start
subset-index : (xs ys : List ℕ) (k : ℕ) → AllPairs (λ (x y : ℕ). x < y) xs → AllPairs (λ (x y : ℕ). x < y) ys → All (Contains ys) xs → k < length xs → (j : ℕ) × (k ≤ j) × (j < length ys) × (get_or ys j 0 ≡ get_or xs k 0)
subset-index xs ys zero up wp sub l =
    let at = sub 0 0 l in
    (at.0, omega arith, at.1, get_or_default ys at.0 0 (get_or xs 0 0) at.1 ∙ at.2)
subset-index xs ys (suc k) up wp sub l =
    let before = subset-index xs ys k up wp sub (omega arith) in
    let at = sub (suc k) 0 l in
    let here : get_or ys at.0 0 ≡ get_or xs (suc k) 0 = get_or_default ys at.0 0 (get_or xs (suc k) 0) at.1 ∙ at.2 in
    let rises : get_or xs k 0 < get_or xs (suc k) 0 = up k (suc k) 0 (omega arith) l in
    elim (cases_lt before.0 at.0) [
      | inl later ↦ (at.0, omega (arith, before.1), at.1, here)
      | inr le ↦ absurd (omega (arith, rising-le ys at.0 before.0 wp le before.2, before.3, here))
    ]

subset-few : (xs ys : List ℕ) → AllPairs (λ (x y : ℕ). x < y) xs → AllPairs (λ (x y : ℕ). x < y) ys → All (Contains ys) xs → length xs ≤ length ys
subset-few xs ys up wp sub = elim (cases_lt 0 (length xs)) [
  | inl some ↦
      let at = subset-index xs ys (length xs - 1) up wp sub (omega arith) in
      omega (arith, at.1, at.2)
  | inr none ↦ omega arith
]

pub lists-length : (P : ℕ → Type 0) (xs ys : List ℕ) → Lists P xs → Lists P ys → length xs ≡ length ys
lists-length P xs ys h k =
    let below = subset-few xs ys h.rising k.rising (λ i d l. k.whole (get_or xs i d) (h.each i d l)) in
    let above = subset-few ys xs k.rising h.rising (λ i d l. h.whole (get_or ys i d) (k.each i d l)) in
    omega arith

pub few-lines : (I : Inst) (columns rows : List ℕ) → Lists (IsLine X I) columns → Lists (IsLine Y I) rows
    → ((1 ≤ length columns) × (1 ≤ length rows) × (half (length columns) * half (length rows) ≤ 40000)) ↔ HasFewLines I
few-lines I columns rows h k = (
  λ f. record { columns = columns; rows = rows; are_columns = h; are_rows = k; columns_some = f.0; rows_some = f.1; few = f.2 },
  λ f.
      let a : length f.columns ≡ length columns = lists-length (IsLine X I) f.columns columns f.are_columns h in
      let b : length f.rows ≡ length rows = lists-length (IsLine Y I) f.rows rows f.are_rows k in
      let few : half (length columns) * half (length rows) ≤ 40000 = subst (λ n. half n * half (length rows) ≤ 40000) a (subst (λ n. half (length f.columns) * half n ≤ 40000) b f.few) in
      (omega (arith, a, f.columns_some), omega (arith, b, f.rows_some), few),
)

pub few-counts : (I : Inst) (columns rows : List ℕ) (k m : ℕ) → k ≡ length columns → m ≡ length rows → Lists (IsLine X I) columns → Lists (IsLine Y I) rows
    → ((1 ≤ k) × (1 ≤ m) × (half k * half m ≤ 40000)) ↔ HasFewLines I
few-counts I columns rows k m a b h l =
    subst (λ n. ((1 ≤ n) × (1 ≤ m) × (half n * half m ≤ 40000)) ↔ HasFewLines I) (sym a) (subst (λ n. ((1 ≤ length columns) × (1 ≤ n) × (half (length columns) * half n ≤ 40000)) ↔ HasFewLines I) (sym b) (few-lines I columns rows h l))
