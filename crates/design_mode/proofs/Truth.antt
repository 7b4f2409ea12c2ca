-- What a run told of the best size is so.
use Rattle.std.proofs.Common.{◌≡◌, ◌∙◌, ◌⊎◌, ℕ, zero, suc, ◌+◌, ◌*◌, ◌≤◌, ◌<◌, List, [], ◌∷◌, length, Option, Some, None, slice_get, arith, ap, refl, sym, subst, inl, inr}
use Rattle.std.specs.Prelude.{Bool, true, false, nat_lt, Contains, All, filter, map, cond}
use Rattle.std.proofs.lemmas.List.Elements.{Contains-append_right}
use Rattle.std.proofs.lemmas.Bool.{lt-ltb, cases_lt}
use Rattle.std.proofs.lemmas.Nat.{mul-le}
use Rattle.std.proofs.lemmas.Option.{same_Some}
use Rattle.plan_geometry.specs.declared.instances.Inst.{Inst}
use Rattle.plan_geometry.specs.declared.spots.Spot.{Spot}
use Rattle.plan_geometry.specs.Gap.{IsGapLayout}
use Rattle.plan_geometry.proofs.Same.{Inst-same}
use Rattle.order_reader.specs.Records.{Fields}
use Rattle.order_reader.specs.Orders.{OrderValue, gap_of}
use Rattle.order_reader.specs.Faults.{id_in, sides_fault}
use Rattle.order_reader.specs.Instances.{IsRealOf, IsLayerFor, IsBoundFor}
use Rattle.order_reader.specs.declared.rows.Row.{Row}
use Rattle.order_reader.specs.declared.rows.Row.TheVariants as rows
use Rattle.order_reader.specs.declared.faults.RowFault.{RowFault}
use Rattle.order_reader.specs.declared.faults.RowFault.TheVariants.{DoesNotFit, TooManyCases}
use Rattle.plan_entries.specs.declared.entries.Plan.{Plan}
use Rattle.plan_entries.specs.declared.entries.Entry.{Entry}
use Rattle.plan_entries.specs.declared.entries.Entry.TheVariants.{Planned, Refused}
use Rattle.plan_soundness.specs.Sound.{IsSound}
use Rattle.plan_soundness.proofs.Bounds.{reached}
use Rattle.par_judge.specs.Planned.{IsPlanOf}
use Rattle.plan_mode.specs.Entries.{IsEntryOf, AreEntriesFrom, AreEntriesOf}
use Rattle.case_design.specs.declared.briefs.Brief.{Brief}
use Rattle.case_design.specs.declared.sizes.Size.{Size}
use Rattle.case_design.specs.declared.designs.Design.{Design}
use Rattle.case_design.specs.declared.designs.Design.TheVariants as designs
use Rattle.case_design.specs.declared.best.Cover.{Cover}
use Rattle.case_design.specs.Designs.{GivesRows, rows_in}
use Rattle.case_design.specs.Briefs.{IsBriefOf}
use Rattle.case_design.specs.Sizes.{IsSize, size_row}
use Rattle.case_design.specs.Bests.{IsBest, IsFirstOfMost}
use Rattle.case_design.specs.Laws.{size_order, row_with_fault}
use Rattle.design_mode.specs.Covers.{case_area, cover_of, covers_of}
use Rattle.design_mode.specs.Laws.{HasLayerThatCovers, NoLayerCoversMore, HasOnlyEmptyLayer, HasSize, CoversMost, UnfitAreEmpty, IsTrueOf, BestCoversMost}
use Rattle.design_mode.proofs.EntryCovers.{further, is-covered, covered-by, none-covered}
use Rattle.design_mode.proofs.Sizes.{rows_from, entry-of, size-of, is-size, row-is, DoesNotFitOn, by-sides, only-empty}

-- ---- who may cover more is a rival

kept-behind : {X : Type 0} (test : X → Bool) (x y : X) (xs : List X) (b : Bool) → Contains (filter test xs) x → Contains (cond b (y ∷ filter test xs) (filter test xs)) x
kept-behind test x y xs true has = further y x (filter test xs) has
kept-behind test x y xs false has = has

-- what passes a filter is left by it
kept : {X : Type 0} (test : X → Bool) (x : X) (xs : List X) → test x ≡ true → Contains xs x → Contains (filter test xs) x
kept test x [] passes (k, lt, at) = absurd (omega (arith, lt))
kept {X} test x (y ∷ xs) passes (zero, lt, at) =
    let first : filter test (y ∷ xs) ≡ y ∷ filter test xs = ap (λ b. cond b (y ∷ filter test xs) (filter test xs)) (ap test at ∙ passes) in
    subst (λ (l : List X). Contains l x) (sym first) (0, omega arith, at)
kept test x (y ∷ xs) passes (suc k, lt, at) = kept-behind test x y xs (test y) (kept test x xs passes (k, omega (arith, lt), at))

mapped : {X Y : Type 0} (f : X → Y) (x : X) (xs : List X) → Contains xs x → Contains (map f xs) (f x)
mapped f x [] (k, lt, at) = absurd (omega (arith, lt))
mapped f x (y ∷ xs) (zero, lt, at) = (0, omega arith, ap f at)
mapped f x (y ∷ xs) (suc k, lt, at) = further (f y) (f x) (map f xs) (mapped f x xs (k, omega (arith, lt), at))

is-rival : (cells : ℕ) (covers : List Cover) (c : Cover) → cells < c.may → Contains covers c → Contains (map (λ r. r.number) (filter (λ r. nat_lt cells r.may) covers)) c.number
is-rival cells covers c more has =
    mapped (λ (r : Cover). r.number) c (filter (λ r. nat_lt cells r.may) covers) (kept (λ (r : Cover). nat_lt cells r.may) c covers (lt-ltb cells c.may more) has)

-- ---- no layer covers more

-- an order has one pallet and one case
one-real : (o : OrderValue) (I K : Inst) → IsRealOf o I → IsRealOf o K → I ≡ K
one-real o I K r s = Inst-same I K (r.l_side ∙ sym s.l_side) (r.w_side ∙ sym s.w_side) (r.long ∙ sym s.long) (r.short ∙ sym s.short)

layer-within : (o : OrderValue) (n : ℕ) (spots : List Spot) → IsBoundFor o n → IsLayerFor o spots → length spots ≤ n
layer-within o n spots b l =
    b.bounded spots (subst (λ (I : Inst). IsGapLayout I (gap_of o) spots) (one-real o l.real b.real l.is_real b.is_real) l.layout)

-- an order's layers cover no more than the cases of its bound do
covers-within : (o : OrderValue) (n cells : ℕ) → IsBoundFor o n → n * case_area o ≤ cells → NoLayerCoversMore o cells
covers-within o n cells bound le spots layer =
    omega (arith, le, mul-le (length spots) (case_area o) n (case_area o) (layer-within o n spots bound layer) (omega arith))

-- nor does a plan's order, where the plan is no rival
of-plan : (number cells : ℕ) (o : OrderValue) (es : List Entry) (p : Plan) → IsPlanOf number o p → Contains es (Planned p)
    → ¬ Contains (map (λ r. r.number) (filter (λ r. nat_lt cells r.may) (covers_of es))) number → NoLayerCoversMore o cells
of-plan number cells o es p plan has other =
    elim (cases_lt cells (p.bound * case_area p.order)) [
      | inl more ↦ absurd (other (subst (λ (n : ℕ). Contains (map (λ r. r.number) (filter (λ r. nat_lt cells r.may) (covers_of es))) n) plan.number (is-rival cells (covers_of es) (cover_of p) more (is-covered es p has))))
      | inr le ↦ covers-within o p.bound cells plan.bounded (subst (λ (q : OrderValue). p.bound * case_area q ≤ cells) plan.echo le)
    ]

-- the entry of an order whose sides pass their tests is its plan, and else that of a refused row
abbrev IsEntryBy : ℕ → OrderValue → Option RowFault → Entry → Type 0
IsEntryBy number o fault e = IsEntryOf number (row_with_fault number o fault) e

planned-by : (number cells : ℕ) (o : OrderValue) (es : List Entry) (e : Entry) → IsEntryBy number o None e → Contains es e
    → ¬ Contains (map (λ r. r.number) (filter (λ r. nat_lt cells r.may) (covers_of es))) number → NoLayerCoversMore o cells
planned-by number cells o es (Planned p) of_row has other = of-plan number cells o es p of_row has other
planned-by number cells o es (Refused m fault) of_row has other = absurd of_row

refused-by : (number : ℕ) (o : OrderValue) (es : List Entry) (e : Entry) (fault : RowFault) → IsEntryBy number o (Some fault) e → Contains es e → Contains es (Refused number fault)
refused-by number o es (Planned p) fault of_row has = absurd of_row
refused-by number o es (Refused m told) fault of_row has =
    subst (λ (e : Entry). Contains es e) (ap (λ (n : ℕ). Refused n told) of_row.0 ∙ ap (λ (f : RowFault). Refused number f) of_row.1) has

empty-covers : (o : OrderValue) (cells : ℕ) → HasOnlyEmptyLayer o → NoLayerCoversMore o cells
empty-covers o cells only spots layer = omega (arith, ap (λ (ss : List Spot). length ss * case_area o) (only spots layer))

by-fault : (number cells : ℕ) (o : OrderValue) (es : List Entry) (e : Entry) → IsEntryBy number o (sides_fault o) e → Contains es e
    → ¬ Contains (map (λ r. r.number) (filter (λ r. nat_lt cells r.may) (covers_of es))) number → ¬ Contains es (Refused number TooManyCases) → NoLayerCoversMore o cells
by-fault number cells o es e of_row has other few =
    elim (by-sides o) [
      | inl none ↦ planned-by number cells o es e (subst (λ (f : Option RowFault). IsEntryBy number o f e) none of_row) has other
      | inr (inl unfit) ↦ empty-covers o cells (only-empty o unfit)
      | inr (inr many) ↦ absurd (few (refused-by number o es e TooManyCases (subst (λ (f : Option RowFault). IsEntryBy number o f e) many of_row) has))
    ]

-- ---- the sizes of a row

-- what a row with sizes, and its entries, are
record AreSizeEntries (row : Fields) (id : List ℕ) (brief : Brief) (sizes : List Size) (es : List Entry) : Type 0 where
  pub same_id : id ≡ id_in row
  pub is_brief : IsBriefOf row brief
  pub each : All (IsSize brief) sizes
  pub entries : AreEntriesFrom 1 (rows_from id brief 1 sizes) es

-- the entry of a size, by the tests of the sides of its order
by-size : (row : Fields) (id : List ℕ) (brief : Brief) (sizes : List Size) (es : List Entry) (k : ℕ) (size : Size) (e : Entry) → AreSizeEntries row id brief sizes es → slice_get sizes k ≡ Some size
    → IsEntryOf (1 + k) (size_row id brief (1 + k) size) e → IsEntryBy (1 + k) (size_order id brief size) (sides_fault (size_order id brief size)) e
by-size row id brief sizes es k size e are stands of_size =
    subst (λ (r : Row). IsEntryOf (1 + k) r e) (row-is row id brief (1 + k) size are.same_id are.is_brief (is-size brief sizes k size are.each stands)) of_size

none-more : (row : Fields) (id : List ℕ) (brief : Brief) (sizes : List Size) (es : List Entry) (cells number : ℕ) (o : OrderValue) → AreSizeEntries row id brief sizes es → HasSize id brief sizes number o
    → ¬ Contains (map (λ r. r.number) (filter (λ r. nat_lt cells r.may) (covers_of es))) number → ¬ Contains es (Refused number TooManyCases) → NoLayerCoversMore o cells
none-more row id brief sizes es cells number o are has other few =
    let k = has.place in
    let (e, there, of_size) = entry-of id brief 1 sizes es k has.size are.entries has.stands in
    let same : number ≡ 1 + k = omega (arith, has.number_is) in
    let of_row = by-size row id brief sizes es k has.size e are has.stands of_size in
    let others = subst (λ (n : ℕ). ¬ Contains (map (λ r. r.number) (filter (λ r. nat_lt cells r.may) (covers_of es))) n) same other in
    let fews = subst (λ (n : ℕ). ¬ Contains es (Refused n TooManyCases)) same few in
    subst (λ (q : OrderValue). NoLayerCoversMore q cells) (sym has.order) (by-fault (1 + k) cells (size_order id brief has.size) es e of_row there others fews)

-- the best has its layer
layer-of : (number : ℕ) (o : OrderValue) (p : Plan) → IsPlanOf number o p → HasLayerThatCovers o (p.count * case_area p.order)
layer-of number o p plan =
    let (spots, layer, count) = reached p plan.sound in
    record {
      spots = spots;
      layer = subst (λ (q : OrderValue). IsLayerFor q spots) plan.echo layer;
      covers = ap (λ n. n * case_area o) count ∙ ap (λ (q : OrderValue). p.count * case_area q) (sym plan.echo);
    }

plan-by : (number : ℕ) (o : OrderValue) (p : Plan) → IsEntryBy number o (sides_fault o) (Planned p) → IsPlanOf number o p
plan-by number o p of_row =
    elim (by-sides o) [
      | inl none ↦ subst (λ (f : Option RowFault). IsEntryBy number o f (Planned p)) none of_row
      | inr (inl unfit) ↦ absurd (subst (λ (f : Option RowFault). IsEntryBy number o f (Planned p)) unfit.fault of_row)
      | inr (inr many) ↦ absurd (subst (λ (f : Option RowFault). IsEntryBy number o f (Planned p)) many of_row)
    ]

is-first : (covers : List Cover) (most : Cover) → IsFirstOfMost covers most → Contains covers most
is-first covers most f =
    subst (λ (l : List Cover). Contains l most) (sym f.parts) (Contains-append_right f.before (most ∷ f.after) most (0, omega arith, refl))

best-has : (row : Fields) (id : List ℕ) (brief : Brief) (sizes : List Size) (es : List Entry) (best : Cover) → AreSizeEntries row id brief sizes es → Contains (covers_of es) best
    → (o : OrderValue) × HasSize id brief sizes best.number o × HasLayerThatCovers o best.covers
best-has row id brief sizes es best are has =
    let (p, there, is) = covered-by es best has in
    let (k, size, stands, of_size) = size-of id brief 1 sizes es (Planned p) are.entries there in
    let o = size_order id brief size in
    let plan : IsPlanOf (1 + k) o p = plan-by (1 + k) o p (by-size row id brief sizes es k size (Planned p) are stands of_size) in
    let number : best.number ≡ k + 1 = omega (arith, ap (λ (c : Cover). c.number) is, plan.number) in (
      o,
      record { size = size; place = k; number_is = number; stands = stands; order = refl },
      subst (λ n. HasLayerThatCovers o n) (ap (λ (c : Cover). c.covers) is) (layer-of (1 + k) o p plan),
    )

covers-most : (row : Fields) (id : List ℕ) (brief : Brief) (sizes : List Size) (es : List Entry) (best : Option Cover) (rivals : List Cover) → AreSizeEntries row id brief sizes es → IsBest (covers_of es) best rivals → CoversMost id brief sizes es best rivals
covers-most row id brief sizes es None rivals are is = none-covered es is.0
covers-most row id brief sizes es (Some best) rivals are is = (
  best-has row id brief sizes es best are (is-first (covers_of es) best is.0),
  (λ number o has other few. none-more row id brief sizes es best.covers number o are has (subst (λ (cs : List Cover). ¬ Contains (map (λ r. r.number) cs) number) is.1 other) few),
)

-- ---- a size that does not fit

unfit-by : (number : ℕ) (o : OrderValue) (m : ℕ) → IsEntryBy number o (sides_fault o) (Refused m DoesNotFit) → HasOnlyEmptyLayer o
unfit-by number o m of_row =
    elim (by-sides o) [
      | inl none ↦ absurd (subst (λ (f : Option RowFault). IsEntryBy number o f (Refused m DoesNotFit)) none of_row)
      | inr (inl unfit) ↦ only-empty o unfit
      | inr (inr many) ↦ let other = subst (λ (f : Option RowFault). IsEntryBy number o f (Refused m DoesNotFit)) many of_row in absurd (cc other.1)
    ]

unfit-number : (number : ℕ) (o : OrderValue) (fault : Option RowFault) (m : ℕ) (told : RowFault) → IsEntryBy number o fault (Refused m told) → m ≡ number
unfit-number number o None m told of_row = absurd of_row
unfit-number number o (Some fault) m told of_row = of_row.0

unfit-empty : (row : Fields) (id : List ℕ) (brief : Brief) (sizes : List Size) (es : List Entry) → AreSizeEntries row id brief sizes es → UnfitAreEmpty id brief sizes es
unfit-empty row id brief sizes es are number o has refused =
    let (k, size, stands, of_size) = size-of id brief 1 sizes es (Refused number DoesNotFit) are.entries refused in
    let q = size_order id brief size in
    let of_row = by-size row id brief sizes es k size (Refused number DoesNotFit) are stands of_size in
    let here : has.place ≡ k = omega (arith, has.number_is, unfit-number (1 + k) q (sides_fault q) number DoesNotFit of_row) in
    let same : has.size ≡ size = same_Some has.size size (sym has.stands ∙ ap (slice_get sizes) here ∙ stands) in
    let order : q ≡ o = sym (has.order ∙ ap (size_order id brief) same) in
    subst HasOnlyEmptyLayer order (unfit-by (1 + k) q number of_row)

-- ---- the whole

no-entries : (es : List Entry) → AreEntriesOf [] es → es ≡ []
no-entries [] are = refl
no-entries (e ∷ es) are = absurd are

is-true : (design : Design) (es : List Entry) (best : Option Cover) (rivals : List Cover) → AreEntriesOf (rows_in design) es → IsBest (covers_of es) best rivals → IsTrueOf design es best rivals
is-true designs.Nothing es best rivals are is = no-entries es are
is-true (designs.Refused fault) es best rivals are is = no-entries es are
is-true (designs.Rows id rows) es best rivals are is = λ row gives.
    let entries : AreEntriesFrom 1 (rows_from id.items gives.brief 1 gives.sizes) es = subst (λ (rs : List Row). AreEntriesFrom 1 rs es) gives.are_rows are in
    let all : AreSizeEntries row id.items gives.brief gives.sizes es = record { same_id = gives.is_id; is_brief = gives.is_brief; each = gives.are_sizes.each; entries = entries } in
    (covers-most row id.items gives.brief gives.sizes es best rivals all is, unfit-empty row id.items gives.brief gives.sizes es all)

pub best-covers : BestCoversMost
best-covers read wrote found r = is-true r.design r.entries r.best r.rivals r.are_entries r.is_best
