-- The line of an order is read exactly.
use Rattle.std.proofs.Common.{◌≡◌, ℕ, ◌*◌, ◌/◌, List, [], ◌∷◌, ◌++◌, length, map, take, drop, get_or, Option, Some, None, refl, sym, ap, subst, ◌∙◌, arith, true, leb, eqb, drop-cons}
use Rattle.std.specs.Prelude.{decimal, codes, ◌&&◌, not, is_some, option_map}
use Rattle.std.specs.List.{list_all, AllByRecursion}
use Rattle.std.proofs.lemmas.Bool.{le-leb, eqb-true}
use Rattle.std.proofs.lemmas.List.{take-append-drop, take_at, length-take, length-drop, length-append, nil_from_length}
use Rattle.std.proofs.lemmas.List.Folds.{list_all-append}
use Rattle.std.proofs.lemmas.List.Sums.{list_all-from_AllPass}
use Rattle.texts.specs.Lines.{spaced, words_of}
use Rattle.texts.specs.Words.{◌>>=◌, numbers_by, all_words}
use Rattle.texts.proofs.Parsers.{Parses, parses_behind, AreNumbers, numbers_parse, numbers_solid, both_true, guard_some, map_some, bind_some, IsWord, words_spaced, ReadsLine, reads_line}
use Rattle.order_reader.specs.Orders.{OrderValue, order_with, pallet_x_of, pallet_y_of, long_of, short_of, gap_of}
use Rattle.order_reader.specs.Faults.{order_fault, IsOrder}
use Rattle.order_reader.specs.declared.faults.RowFault.{RowFault}
use Rattle.order_reader.proofs.OrderFacts.{passes, number-limited}
use Rattle.cert_text.specs.declared.forms.Form.{Form}
use Rattle.cert_text.specs.declared.forms.Form.TheVariants.{One, Two}
use Rattle.plan_entries.specs.Ranges.{has_orders_of, order_in_range}
use Rattle.report_text.specs.LineTexts.{numbers_written, order_words}
use Rattle.report_text.specs.Words.{number_count, all_numbers, numbers_at, numbers_of_line, order_if, order_of_line}

-- ---- what an order in range is

none_is : (o : Option RowFault) → not (is_some o) ≡ true → o ≡ None
none_is None h = refl
none_is (Some f) h = absurd cc

pub record HasOrder (form : Form) (o : OrderValue) : Type 0 where
  pub order : IsOrder o
  pub small : list_all (λ n. leb n 100000000) o.numbers ≡ true
  pub of_form : has_orders_of form o ≡ true

pub has_order : (form : Form) (o : OrderValue) → order_in_range form o ≡ true → HasOrder form o
has_order form o f =
    let a = both_true (eqb (length o.numbers) 12) (not (is_some (order_fault o)) && has_orders_of form o) f in
    let b = both_true (not (is_some (order_fault o))) (has_orders_of form o) a.1 in
    let twelve : length o.numbers ≡ 12 = eqb-true (length o.numbers) 12 a.0 in
    let is : IsOrder o = record { twelve = twelve; passes = none_is (order_fault o) b.0 } in
    let limited = number-limited o (passes o is).ranges twelve in
    record {
      order = is;
      small = list_all-from_AllPass (λ n. leb n 100000000) o.numbers (λ k d lt. le-leb _ _ (limited k d lt));
      of_form = b.1;
    }

no_gap : (o : OrderValue) → has_orders_of One o ≡ true → get_or o.numbers 11 0 ≡ 0
no_gap o f =
    let b = both_true (eqb (gap_of o) 0) (leb ((pallet_x_of o * pallet_y_of o) / (long_of o * short_of o)) 400) f in
    eqb-true (gap_of o) 0 b.0

-- ---- the numbers that are written

abbrev pub AreWritten : Form → List ℕ → Type 0
AreWritten form ns = AreNumbers 100000000 (number_count form) ns

abbrev written_words : List ℕ → List (List ℕ)
written_words ns = codes "order" ∷ map decimal ns

written_parses : (form : Form) → Parses written_words (AreWritten form) (numbers_at form)
unfolding numbers_at
written_parses form = parses_behind (codes "order") (map decimal) (AreWritten form) (numbers_by 100000000 (number_count form)) (numbers_parse 100000000 (number_count form) (omega arith))

written_solid : (ns : List ℕ) → list_all (λ n. leb n 100000000) ns ≡ true → AllByRecursion IsWord (written_words ns)
written_solid ns f = (refl, numbers_solid 100000000 ns (omega arith) f)

written_reads : (form : Form) → ReadsLine (λ ns. spaced (written_words ns)) (AreWritten form) (λ line. all_words (numbers_at form (words_of line)))
written_reads form = reads_line written_words (AreWritten form) (numbers_at form) (written_parses form) (λ ns f. words_spaced (codes "order") (map decimal ns) (written_solid ns f.1))

-- so many numbers were written
pub written_count : (form : Form) (line ns : List ℕ) → all_words (numbers_at form (words_of line)) ≡ Some ns → length ns ≡ number_count form
written_count form line ns e = ((written_reads form).only line ns e).0.0

small_front : (n : ℕ) (ns : List ℕ) → list_all (λ m. leb m 100000000) ns ≡ true → list_all (λ m. leb m 100000000) (take n ns) ≡ true
small_front n ns f =
    (both_true (list_all (λ m. leb m 100000000) (take n ns)) (list_all (λ m. leb m 100000000) (drop n ns)) (sym (list_all-append (λ m. leb m 100000000) (take n ns) (drop n ns)) ∙ ap (list_all (λ m. leb m 100000000)) (take-append-drop n ns) ∙ f)).0

pub are_written : (form : Form) (o : OrderValue) → order_in_range form o ≡ true → AreWritten form (numbers_written form o)
are_written One o f =
    let h = has_order One o f in
    let twelve = h.order.twelve in
    (omega (arith, length-take 11 o.numbers), small_front 11 o.numbers h.small)
are_written Two o f = let h = has_order Two o f in (h.order.twelve, h.small)

last_is : (ns : List ℕ) → length ns ≡ 12 → get_or ns 11 0 ≡ 0 → take 11 ns ++ 0 ∷ [] ≡ ns
last_is ns twelve zero_last =
    let none : drop 12 ns ≡ [] = nil_from_length (drop 12 ns) (omega (arith, length-drop 12 ns)) in
    let last : drop 11 ns ≡ 0 ∷ [] = drop-cons ns 11 0 (omega arith) ∙ ap (λ (n : ℕ). n ∷ drop 12 ns) zero_last ∙ ap (λ (t : List ℕ). 0 ∷ t) none in
    ap (λ (t : List ℕ). take 11 ns ++ t) (sym last) ∙ take-append-drop 11 ns

all_back : (form : Form) (o : OrderValue) → order_in_range form o ≡ true → all_numbers form (numbers_written form o) ≡ o.numbers
all_back One o f =
    let h = has_order One o f in
    last_is o.numbers h.order.twelve (no_gap o h.of_form)
all_back Two o f = refl

written_of : (form : Form) (id ns : List ℕ) → AreWritten form ns → numbers_written form (order_with id (all_numbers form ns)) ≡ ns
written_of One id ns f = take_at ns (0 ∷ []) 11 f.0
written_of Two id ns f = refl

-- ---- the order

abbrev pub IsOrderOf : Form → List ℕ → OrderValue → Type 0
IsOrderOf form id o = (order_in_range form o ≡ true) × (o.id ≡ id)

order_back : (form : Form) (id : List ℕ) (o : OrderValue) → IsOrderOf form id o → order_of_line form id (spaced (order_words form o)) ≡ Some o
unfolding order_of_line numbers_of_line
order_back form id o f =
    let w = are_written form o f.0 in
    let read = (written_reads form).back (numbers_written form o) w in
    let numbers : option_map (all_numbers form) (all_words (numbers_at form (words_of (spaced (order_words form o))))) ≡ Some o.numbers =
    ap (option_map (all_numbers form)) read ∙ ap (λ (ns : List ℕ). Some ns) (all_back form o f.0) in
    let same : order_with id o.numbers ≡ o = ap (λ (i : List ℕ). order_with i o.numbers) (sym f.1) in
    ap (λ (r : Option (List ℕ)). r >>= λ ns. order_if form (order_with id ns)) numbers ∙ ap (order_if form) same ∙ rw f.0 refl

order_only : (form : Form) (id line : List ℕ) (o : OrderValue) → order_of_line form id line ≡ Some o → IsOrderOf form id o × (line ≡ spaced (order_words form o))
unfolding order_of_line numbers_of_line
order_only form id line o e =
    let b = bind_some (option_map (all_numbers form) (all_words (numbers_at form (words_of line)))) (λ ns. order_if form (order_with id ns)) o e in
    let m = map_some (all_words (numbers_at form (words_of line))) (all_numbers form) b.0 b.1 in
    let g = guard_some (order_in_range form (order_with id b.0)) (order_with id b.0) o b.2 in
    let r = (written_reads form).only line m.0 m.1 in
    let same : order_with id (all_numbers form m.0) ≡ o = ap (order_with id) m.2 ∙ g.1 in
    let written : m.0 ≡ numbers_written form o = sym (written_of form id m.0 r.0) ∙ ap (numbers_written form) same in
    ((subst (λ (v : OrderValue). order_in_range form v ≡ true) g.1 g.0, ap (λ (v : OrderValue). v.id) (sym g.1)), r.1 ∙ ap (λ (ns : List ℕ). spaced (written_words ns)) written)

pub order_reads : (form : Form) (id : List ℕ) → ReadsLine (λ o. spaced (order_words form o)) (IsOrderOf form id) (order_of_line form id)
order_reads form id = record { back = order_back form id; only = order_only form id }

pub order_solid : (form : Form) (o : OrderValue) → order_in_range form o ≡ true → AllByRecursion IsWord (order_words form o)
order_solid form o f = written_solid (numbers_written form o) (are_written form o f).1

-- a small order of any id
abbrev pub unit_order : List ℕ → OrderValue
unit_order id = order_with id (1 ∷ 1 ∷ 1 ∷ 1 ∷ 1 ∷ 1 ∷ 1 ∷ 1 ∷ 0 ∷ 0 ∷ 0 ∷ 0 ∷ [])

-- what the numbers of an order make with the gap is twelve numbers
pub all_count : (form : Form) (ns : List ℕ) → length ns ≡ number_count form → length (all_numbers form ns) ≡ 12
all_count One ns e = omega (arith, length-append ns (0 ∷ []))
all_count Two ns e = e
