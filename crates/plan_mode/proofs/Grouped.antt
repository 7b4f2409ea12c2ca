-- Rows that are planned together, and their entries.
use Rattle.std.proofs.Common.{◌≡◌, ℕ, zero, suc, ◌+◌, ◌-◌, ◌≤◌, ◌<◌, List, [], ◌∷◌, ◌++◌, length, get_or, take, drop, refl, sym, subst, ap, ◌∙◌, arith}
use Rattle.std.specs.List.{All}
use Rattle.std.proofs.lemmas.List.{drop_more, take_more, length-take-le}
use Rattle.std.proofs.lemmas.List.Elements.{All-nil, All-cons}
use Rattle.order_reader.specs.Orders.{OrderValue}
use Rattle.order_reader.specs.declared.rows.Row.{Row}
use Rattle.order_reader.specs.declared.rows.Row.TheVariants as row
use Rattle.cert_text.specs.declared.forms.Form.TheVariants.{Two}
use Rattle.plan_entries.specs.declared.entries.Plan.{Plan}
use Rattle.plan_entries.specs.declared.entries.Entry.{Entry}
use Rattle.plan_entries.specs.declared.entries.Entry.TheVariants.{Planned, Refused}
use Rattle.plan_entries.specs.Ranges.{IsInRange}
use Rattle.par_judge.specs.declared.plans.Numbered.{Numbered}
use Rattle.par_judge.specs.Planned.{IsNumbered, IsPlanOf, IsPlanOfNumbered, ArePlansOf}
use Rattle.par_judge.proofs.Joined.{paired-rest}
use Rattle.plan_mode.specs.Entries.{IsEntryOf, AreEntriesFrom}
use Rattle.plan_mode.specs.Groups.{orders_from, AreNextEntries}
use Rattle.plan_mode.specs.Pieces.{IsSoundEntry}
use Rattle.plan_mode.proofs.EntryFacts.{as_many, entries-more}
use Rattle.plan_mode.proofs.Acceptance.{refused_in_range}

-- the orders of at most so many rows are numbered as entries may be, and no more than the rows
pub orders-numbered : (n : ℕ) (rs : List Row) → 1 ≤ n → n + length rs ≤ 257 → All IsNumbered (orders_from n rs)
orders-numbered n [] low high = All-nil IsNumbered
orders-numbered n (row.Order o ∷ rs) low high =
    All-cons IsNumbered (record { number = n; order = o }) (orders_from (n + 1) rs) (low, omega arith) (orders-numbered (n + 1) rs (omega arith) (omega arith))
orders-numbered n (row.Refused k fault ∷ rs) low high = orders-numbered (n + 1) rs (omega arith) (omega arith)

pub orders-few : (n : ℕ) (rs : List Row) → length (orders_from n rs) ≤ length rs
orders-few n [] = omega arith
orders-few n (row.Order o ∷ rs) = let few = orders-few (n + 1) rs in omega arith
orders-few n (row.Refused k fault ∷ rs) = let few = orders-few (n + 1) rs in omega arith

pub take-few : {X : Type 0} (n : ℕ) (xs : List X) → length (take n xs) ≤ n
take-few zero xs = omega arith
take-few (suc n) [] = omega arith
take-few (suc n) (x ∷ xs) = let few = take-few n xs in omega arith

-- the plan of the first of so many orders
pub first-plan : (n : ℕ) (o : OrderValue) (rs : List Row) (p : Plan) (ps : List Plan) → ArePlansOf (orders_from n (row.Order o ∷ rs)) (p ∷ ps) → IsPlanOf n o p
first-plan n o rs p ps are = are.each 0 (record { number = n; order = o }) p refl refl

-- and those of the others
pub other-plans : (n : ℕ) (o : OrderValue) (rs : List Row) (p : Plan) (ps : List Plan) → ArePlansOf (orders_from n (row.Order o ∷ rs)) (p ∷ ps) → ArePlansOf (orders_from (n + 1) rs) ps
other-plans n o rs p ps are = paired-rest IsPlanOfNumbered (record { number = n; order = o }) p (orders_from (n + 1) rs) ps are

-- where an order stands first there is a plan
pub some-plan : (n : ℕ) (o : OrderValue) (rs : List Row) (ps : List Plan) → ArePlansOf (orders_from n (row.Order o ∷ rs)) ps → 1 ≤ length ps
some-plan n o rs ps are = omega (arith, are.as_many)

-- an entry of a row is within the ranges, and a plan is sound
pub entry-in_range : (n : ℕ) (r : Row) (e : Entry) → 1 ≤ n → n ≤ 256 → IsEntryOf n r e → IsInRange Two e
entry-in_range n (row.Order o) (Planned p) low high h = h.in_range
entry-in_range n (row.Order o) (Refused m fault) low high h = absurd h
entry-in_range n (row.Refused k fault) (Planned p) low high h = absurd h
entry-in_range n (row.Refused k fault) (Refused m told) low high h = subst (λ j. IsInRange Two (Refused j told)) (sym h.0) (refused_in_range n told low high)

pub entry-sound : (n : ℕ) (r : Row) (e : Entry) → IsEntryOf n r e → IsSoundEntry e
entry-sound n (row.Order o) (Planned p) h = h.sound
entry-sound n (row.Order o) (Refused m fault) h = absurd h
entry-sound n (row.Refused k fault) (Planned p) h = absurd h
entry-sound n (row.Refused k fault) (Refused m told) h = tt

-- the entry of the next row joins those of the rows before it
pub entry-joins : (rows : List Row) (i : ℕ) (es : List Entry) (e : Entry) → i + 1 ≤ length rows → AreEntriesFrom 1 (take i rows) es → ((d : Row) → IsEntryOf (i + 1) (get_or rows i d) e) → AreEntriesFrom 1 (take (i + 1) rows) (es ++ e ∷ [])
entry-joins [] i es e inside each of_row = absurd (omega (arith, inside))
entry-joins (d ∷ ds) i es e inside each of_row =
    let rows = d ∷ ds in
    let count : i + 1 ≡ 1 + length (take i rows) = omega (arith, length-take-le i rows (omega arith)) in
    let here : IsEntryOf (1 + length (take i rows)) (get_or rows i d) e = subst (λ n. IsEntryOf n (get_or rows i d) e) count (of_row d) in
    rw (take_more rows i d (omega arith)) (entries-more 1 (take i rows) es (get_or rows i d) e each here)

-- an entry of one of the rows is within the ranges, and a plan is sound
pub of-some-row : (rows : List Row) (i : ℕ) (e : Entry) → i < length rows → length rows ≤ 256 → ((d : Row) → IsEntryOf (i + 1) (get_or rows i d) e) → IsInRange Two e × IsSoundEntry e
of-some-row [] i e inside few of_row = absurd (omega (arith, inside))
of-some-row (d ∷ ds) i e inside few of_row =
    let r = get_or (d ∷ ds) i d in
    (entry-in_range (i + 1) r e (omega arith) (omega (arith, inside, few)) (of_row d), entry-sound (i + 1) r e (of_row d))

-- ---- the entries ahead

-- taking as many as were taken takes the same
take-again : {X : Type 0} (n : ℕ) (xs : List X) → take n xs ≡ take (length (take n xs)) xs
take-again zero xs = refl
take-again (suc n) [] = refl
take-again (suc n) (x ∷ xs) = ap (λ l. x ∷ l) (take-again n xs)

first-entry : (n : ℕ) (rs : List Row) (e : Entry) (es : List Entry) → AreEntriesFrom n (take (length (e ∷ es)) rs) (e ∷ es) → (d : Row) → IsEntryOf n (get_or rs 0 d) e × (1 ≤ length rs)
first-entry n [] e es are d = absurd are
first-entry n (r ∷ rs) e es are d = (are.0, omega arith)

other-entries : (n : ℕ) (rs : List Row) (e : Entry) (es : List Entry) → AreEntriesFrom n (take (length (e ∷ es)) rs) (e ∷ es) → AreEntriesFrom (n + 1) (take (length es) (drop 1 rs)) es
other-entries n [] e es are = absurd are
other-entries n (r ∷ rs) e es are = are.1

pub next-first : (n : ℕ) (rows : List Row) (e : Entry) (es : List Entry) → 1 ≤ n → n ≤ length rows → AreNextEntries n rows (e ∷ es) → (d : Row) → IsEntryOf n (get_or rows (n - 1) d) e
next-first n rows e es low high are d =
    let more : drop (n - 1) rows ≡ get_or rows (n - 1) d ∷ drop (n - 1 + 1) rows = drop_more rows (n - 1) d (omega arith) in
    let there : AreEntriesFrom n (take (length (e ∷ es)) (get_or rows (n - 1) d ∷ drop (n - 1 + 1) rows)) (e ∷ es) = subst (λ rs. AreEntriesFrom n (take (length (e ∷ es)) rs) (e ∷ es)) more are in
    (first-entry n (get_or rows (n - 1) d ∷ drop (n - 1 + 1) rows) e es there d).0

-- the entries of the rows from one to another are the next ones
pub next-of : (n size : ℕ) (rows : List Row) (es : List Entry) → AreEntriesFrom n (take size (drop (n - 1) rows)) es → AreNextEntries n rows es
next-of n size rows es are =
    let left = drop (n - 1) rows in
    let many : length es ≡ length (take size left) = as_many n (take size left) es are in
    subst (λ rs. AreEntriesFrom n rs es) (take-again size left ∙ ap (λ k. take k left) (sym many)) are

pub next-others : (n : ℕ) (rows : List Row) (e : Entry) (es : List Entry) → 1 ≤ n → n ≤ length rows → AreNextEntries n rows (e ∷ es) → AreNextEntries (n + 1) rows es
next-others n [] e es low high are = absurd (omega (arith, low, high))
next-others n (d ∷ ds) e es low high are =
    let rows = d ∷ ds in
    let more : drop (n - 1) rows ≡ get_or rows (n - 1) d ∷ drop (n - 1 + 1) rows = drop_more rows (n - 1) d (omega arith) in
    let there : AreEntriesFrom n (take (length (e ∷ es)) (get_or rows (n - 1) d ∷ drop (n - 1 + 1) rows)) (e ∷ es) = subst (λ rs. AreEntriesFrom n (take (length (e ∷ es)) rs) (e ∷ es)) more are in
    let rest : AreEntriesFrom (n + 1) (take (length es) (drop (n - 1 + 1) rows)) es = other-entries n (get_or rows (n - 1) d ∷ drop (n - 1 + 1) rows) e es there in
    let same : n - 1 + 1 ≡ n + 1 - 1 = omega arith in
    subst (λ k. AreEntriesFrom (n + 1) (take (length es) (drop k rows)) es) same rest
