-- An entry is read exactly, line by line.
use Rattle.std.proofs.Common.{◌≡◌, ℕ, suc, ◌≤◌, List, [], ◌∷◌, ◌++◌, length, Option, Some, None, Ok, Err, refl, sym, ap, subst, ◌∙◌, arith, Bool, true, false, leb, cond, inl, inr}
use Rattle.std.specs.Prelude.{◌&&◌, codes}
use Rattle.std.specs.Str.{bytes_eq}
use Rattle.std.proofs.lemmas.Slice.Eq.{bytes_eq-Decides}
use Rattle.texts.specs.Lines.{spaced}
use Rattle.texts.specs.Grammar.{Begins, NoneGoesOn, StopsAt, Reads, Reading, ◌>>=◌, or_stop, first_by}
use Rattle.texts.proofs.Readers.{reads_first, reads_none, reads_then, reads_as, bind_ok, bind_err, ok_is}
use Rattle.texts.proofs.Parsers.{both_true, guard_some, ReadsLine}
use Rattle.cert_text.proofs.OneWord.{Any}
use Rattle.cert_text.proofs.CertReaders.{cert_reads}
use Rattle.cert_text.specs.Ranges.{InRange, in_range}
use Rattle.cert_text.specs.Text.{cert_lines}
use Rattle.cert_text.specs.Lines.{cert_at}
use Rattle.cert_text.specs.declared.forms.Form.{Form}
use Rattle.cert_text.specs.declared.forms.Form.TheVariants.{One, Two}
use Rattle.weightings.specs.declared.certs.Cert.{Cert}
use Rattle.plan_geometry.specs.declared.instances.Inst.{Inst}
use Rattle.order_reader.specs.Columns.{all_columns}
use Rattle.order_reader.specs.Faults.{is_id, fits, is_small}
use Rattle.order_reader.specs.declared.faults.RowFault.{RowFault}
use Rattle.order_reader.specs.declared.faults.RowFault.TheVariants as faults
use Rattle.order_reader.proofs.OrderFacts.{passes}
use Rattle.stack_builder.specs.declared.lists.StackAnswer.{StackAnswer}
use Rattle.listing_text.specs.Ranges.{AreLayersInRange, IsAnswerInRange}
use Rattle.listing_text.specs.Text.{layers_lines, answer_lines}
use Rattle.listing_text.specs.Lines.{layers_at, answer_at}
use Rattle.listing_text.proofs.LayerReaders.{few_layers, layers_read}
use Rattle.listing_text.proofs.AnswerReaders.{answer_reads}
use Rattle.plan_entries.specs.Entries.{number_of_entry}
use Rattle.plan_entries.specs.Ranges.{most_entries, most_cases, is_within, order_in_range, layers_in_range, stack_in_range, numbers_in_range, plan_in_range, fault_in_range, IsInRange}
use Rattle.plan_entries.specs.declared.listed.Listed.{Listed}
use Rattle.plan_entries.specs.declared.entries.Status.TheVariants.{Optimal}
use Rattle.plan_entries.specs.declared.entries.Plan.{Plan}
use Rattle.plan_entries.specs.declared.entries.Entry.{Entry}
use Rattle.plan_entries.specs.declared.entries.Entry.TheVariants.{Planned, Refused}
use Rattle.report_text.specs.LineTexts.{number_words, order_words, reduced_words, count_words, bound_words, status_line, end_line}
use Rattle.report_text.specs.Text.{entry_lines}
use Rattle.report_text.specs.Words.{number_of_line, count_of_line, bound_of_line, status_of_line, second_of, order_of_line, reduced_of_line}
use Rattle.report_text.specs.HeadLines.{head_from}
use Rattle.report_text.specs.Lines.{behind_line, plan_from, entry_of_second, entry_behind, entry_at}
use Rattle.report_text.specs.declared.heads.PlanHead.{PlanHead}
use Rattle.report_text.specs.declared.seconds.Second.{Second}
use Rattle.report_text.specs.declared.seconds.Second.TheVariants as seconds
use Rattle.report_text.proofs.EntryWords.{IsWithin, named_reads, status_reads, reduced_reads}
use Rattle.report_text.proofs.OrderWords.{IsOrderOf, order_reads, unit_order, has_order}
use Rattle.report_text.proofs.FaultWords.{GoodFault, second_line, GoodSecond, second_reads}

-- a reader of one line
pub by_line : {A : Type 0} (text : A → List ℕ) (Fits : A → Type 0) (f : List ℕ → Option A) → ReadsLine text Fits f → (example : A) → Fits example → Reads (λ a. text a ∷ []) Fits (first_by f)
by_line text Fits f r example fits = reads_first f text Fits example fits r.back r.only

-- ---- a line that is known, and then nothing

pub reads_line_alone : {B : Type 0} (line : List ℕ) (Fits : B → Type 0) (b : B) → Fits b → ((c : B) → Fits c → c ≡ b) → Reads (λ _. line ∷ []) Fits (λ ls. behind_line line ls >>= λ rest. Ok (b, rest))
reads_line_alone {B} line Fits b fits one =
    reads_as (λ _. line ∷ []) (λ _. line ∷ []) Fits Fits (first_by (λ l. cond (bytes_eq l line) (Some b) None)) (λ ls. behind_line line ls >>= λ rest. Ok (b, rest))
    (reads_first (λ l. cond (bytes_eq l line) (Some b) None) (λ _. line) Fits b fits back only)
    (λ c f. f) (λ c f. f) (λ c f. refl) same
  where
    back : (c : B) → Fits c → cond (bytes_eq line line) (Some b) None ≡ Some c
    back c f = rw ((bytes_eq-Decides line line).1 refl) (ap (λ (d : B). Some d) (sym (one c f)))

    only : (l : List ℕ) (c : B) → cond (bytes_eq l line) (Some b) None ≡ Some c → Fits c × (l ≡ line)
    only l c e =
        let g = guard_some (bytes_eq l line) b c e in
        (subst Fits g.1 fits, (bytes_eq-Decides l line).0 g.0)

    by_test : (t : Bool) (ls : List (List ℕ)) → (cond t (Ok ls) (Err (suc (length ls))) >>= λ rest. Ok (b, rest)) ≡ or_stop (cond t (Some b) None) ls
    by_test true ls = refl
    by_test false ls = refl

    same : (ls : List (List ℕ)) → (behind_line line ls >>= λ rest. Ok (b, rest)) ≡ first_by (λ l. cond (bytes_eq l line) (Some b) None) ls
    same [] = refl
    same (l ∷ ls) = by_test (bytes_eq l line) ls

-- ---- the values of one kind as those of another

-- a reading as one of the other kind
abbrev pub carried : {S A B : Type 0} → (A → B) → A × List S → Reading S B
carried into x = Ok (into x.0, x.1)

module _ {S A B : Type 0} (into : A → B) (la : A → List S) (Fa : A → Type 0) (ra : List S → Reading S A) (lb : B → List S) (Fb : B → Type 0)
    (P : Reads la Fa ra) (same : (a : A) → Fa a → lb (into a) ≡ la a) (made : (a : A) → Fa a → Fb (into a)) (from : (b : B) → Fb b → (a : A) × (b ≡ into a) × Fa a) where
  into_again : (b : B) (rest : List S) → Fb b → (ra (lb b ++ rest) >>= carried into) ≡ Ok (b, rest)
  into_again b rest f =
      let o = from b f in
      let texts : lb b ≡ la o.0 = ap lb o.1 ∙ same o.0 o.2 in
      let read : ra (lb b ++ rest) ≡ Ok (o.0, rest) = ap (λ (t : List S). ra (t ++ rest)) texts ∙ P.again o.0 rest o.2 in
      ap (λ (r : Reading S A). r >>= carried into) read ∙ ap (λ (c : B). Ok (c, rest)) (sym o.1)

  into_takes : (xs : List S) (b : B) (rest : List S) → (ra xs >>= carried into) ≡ Ok (b, rest) → Fb b × (xs ≡ lb b ++ rest)
  into_takes xs b rest e =
      let s = bind_ok (ra xs) (carried into) (b, rest) e in
      let pair = ok_is (into s.0.0, s.0.1) (b, rest) s.2 in
      let p = P.takes xs s.0.0 s.0.1 s.1 in
      let same_b : into s.0.0 ≡ b = ap (λ (q : B × List S). q.0) pair in
      let same_rest : s.0.1 ≡ rest = ap (λ (q : B × List S). q.1) pair in
      (subst Fb same_b (made s.0.0 p.0), p.1 ∙ ap (λ (t : List S). t ++ s.0.1) (sym (same s.0.0 p.0) ∙ ap lb same_b) ∙ ap (λ (t : List S). lb b ++ t) same_rest)

  into_begun : (front : List S) → Begins la Fa front → Begins lb Fb front
  into_begun front h = record { value = into h.value; fits = made h.value h.fits; more = h.more; whole = same h.value h.fits ∙ h.whole }

  from_begun : (front : List S) → Begins lb Fb front → Begins la Fa front
  from_begun front h =
      let o = from h.value h.fits in
      record { value = o.0; fits = o.2; more = h.more; whole = sym (same o.0 o.2) ∙ ap lb (sym o.1) ∙ h.whole }

  into_ends : (front rest : List S) → NoneGoesOn la Fa front rest → NoneGoesOn lb Fb front rest
  into_ends front [] none = tt
  into_ends front (x ∷ rest) none = λ h. none (from_begun (front ++ x ∷ []) h)

  into_stops : (xs : List S) (left : ℕ) → (ra xs >>= carried into) ≡ Err left → StopsAt lb Fb xs left
  into_stops xs left e =
      elim (bind_err (ra xs) (carried into) left e) [
        | inl one ↦
            let s = P.stops xs left one in
            record {
              front = s.front;
              rest = s.rest;
              left_is = s.left_is;
              stops = record { parts = s.stops.parts; begun = into_begun s.front s.stops.begun; ends = into_ends s.front s.rest s.stops.ends };
            }
        | inr two ↦ absurd (let h = two.2 in cc)
      ]

  pub reads_into : Reads lb Fb (λ xs. ra xs >>= carried into)
  reads_into = record { some = into P.some; some_fits = made P.some P.some_fits; again = into_again; takes = into_takes; stops = into_stops }

-- ---- the first lines of a plan

pub few_cases : (form : Form) → most_cases form ≤ 9999999999
few_cases One = omega arith
few_cases Two = omega arith

pub few_entries : (form : Form) → most_entries form ≤ 9999999999
few_entries One = omega arith
few_entries Two = omega arith

one_case : (form : Form) → IsWithin (most_cases form) 1
one_case One = refl
one_case Two = refl

one_entry : (form : Form) → IsWithin (most_entries form) 1
one_entry One = refl
one_entry Two = refl

unit_inst : Inst
unit_inst = record { l_side = 1; w_side = 1; long = 1; short = 1; sides = record { short_min = omega arith; ordered = omega arith; long_max = omega arith; l_min = omega arith; l_max = omega arith; w_min = omega arith; w_max = omega arith } }

unit_fits : (form : Form) (id : List ℕ) → is_id id ≡ true → IsOrderOf form id (unit_order id)
unfolding all_columns fits is_small
unit_fits One id f = (rw f refl, refl)
unit_fits Two id f = (rw f refl, refl)

abbrev pub head_lines : Form → PlanHead → List (List ℕ)
head_lines form h =
    spaced (order_words form h.order) ∷ spaced (reduced_words h.reduced) ∷ spaced (count_words h.count) ∷ spaced (bound_words h.bound) ∷ status_line h.status ∷ []

pub record GoodHead (form : Form) (id : List ℕ) (h : PlanHead) : Type 0 where
  pub order : IsOrderOf form id h.order
  pub count : IsWithin (most_cases form) h.count
  pub bound : IsWithin (most_cases form) h.bound

pub head_reads : (form : Form) (id : List ℕ) → is_id id ≡ true → Reads (head_lines form) (GoodHead form id) (head_from form id)
unfolding head_from
head_reads form id is =
    reads_as (head_lines form) (head_lines form) (GoodHead form id) (GoodHead form id)
    (λ ls. first_by (order_of_line form id) ls >>= λ o. first_by reduced_of_line o.1 >>= λ r. first_by (count_of_line form) r.1 >>= λ c. first_by (bound_of_line form) c.1 >>= λ b. first_by status_of_line b.1 >>= λ s. Ok (record { order = o.0; reduced = r.0; count = c.0; bound = b.0; status = s.0 }, s.1)) (head_from form id)
    (reads_then (λ o. spaced (order_words form o) ∷ []) (IsOrderOf form id) (first_by (order_of_line form id)) (λ h. h.order)
    (λ h. spaced (reduced_words h.reduced) ∷ spaced (count_words h.count) ∷ spaced (bound_words h.bound) ∷ status_line h.status ∷ []) (GoodHead form id)
    (λ o ls. first_by reduced_of_line ls >>= λ r. first_by (count_of_line form) r.1 >>= λ c. first_by (bound_of_line form) c.1 >>= λ b. first_by status_of_line b.1 >>= λ s. Ok (record { order = o; reduced = r.0; count = c.0; bound = b.0; status = s.0 }, s.1))
    (by_line (λ o. spaced (order_words form o)) (IsOrderOf form id) (order_of_line form id) (order_reads form id) (unit_order id) (unit_fits form id is))
    (λ o ho. reads_then (λ r. spaced (reduced_words r) ∷ []) Any (first_by reduced_of_line) (λ h. h.reduced)
    (λ h. spaced (count_words h.count) ∷ spaced (bound_words h.bound) ∷ status_line h.status ∷ []) (λ h. GoodHead form id h × (h.order ≡ o))
    (λ r ls. first_by (count_of_line form) ls >>= λ c. first_by (bound_of_line form) c.1 >>= λ b. first_by status_of_line b.1 >>= λ s. Ok (record { order = o; reduced = r; count = c.0; bound = b.0; status = s.0 }, s.1))
    (by_line (λ r. spaced (reduced_words r)) Any reduced_of_line reduced_reads unit_inst tt)
    (λ r hr. reads_then (λ c. spaced (count_words c) ∷ []) (IsWithin (most_cases form)) (first_by (count_of_line form)) (λ h. h.count)
    (λ h. spaced (bound_words h.bound) ∷ status_line h.status ∷ []) (λ h. (GoodHead form id h × (h.order ≡ o)) × (h.reduced ≡ r))
    (λ c ls. first_by (bound_of_line form) ls >>= λ b. first_by status_of_line b.1 >>= λ s. Ok (record { order = o; reduced = r; count = c; bound = b.0; status = s.0 }, s.1))
    (by_line (λ c. spaced (count_words c)) (IsWithin (most_cases form)) (count_of_line form) (named_reads (codes "count") (most_cases form) (few_cases form) refl) 1 (one_case form))
    (λ c hc. reads_then (λ b. spaced (bound_words b) ∷ []) (IsWithin (most_cases form)) (first_by (bound_of_line form)) (λ h. h.bound)
    (λ h. status_line h.status ∷ []) (λ h. ((GoodHead form id h × (h.order ≡ o)) × (h.reduced ≡ r)) × (h.count ≡ c))
    (λ b ls. first_by status_of_line ls >>= λ s. Ok (record { order = o; reduced = r; count = c; bound = b; status = s.0 }, s.1))
    (by_line (λ b. spaced (bound_words b)) (IsWithin (most_cases form)) (bound_of_line form) (named_reads (codes "bound") (most_cases form) (few_cases form) refl) 1 (one_case form))
    (λ b hb. reads_as (λ h. status_line h.status ∷ []) (λ h. status_line h.status ∷ []) (λ h. (((GoodHead form id h × (h.order ≡ o)) × (h.reduced ≡ r)) × (h.count ≡ c)) × (h.bound ≡ b)) (λ h. (((GoodHead form id h × (h.order ≡ o)) × (h.reduced ≡ r)) × (h.count ≡ c)) × (h.bound ≡ b))
    (λ ls. first_by status_of_line ls >>= λ s. Ok (record { order = o; reduced = r; count = c; bound = b; status = s.0 }, s.1)) (λ ls. first_by status_of_line ls >>= λ s. Ok (record { order = o; reduced = r; count = c; bound = b; status = s.0 }, s.1))
    (reads_then (λ s. status_line s ∷ []) Any (first_by status_of_line) (λ h. h.status) (λ h. []) (λ h. (((GoodHead form id h × (h.order ≡ o)) × (h.reduced ≡ r)) × (h.count ≡ c)) × (h.bound ≡ b))
    (λ s ls. Ok (record { order = o; reduced = r; count = c; bound = b; status = s }, ls))
    (by_line status_line Any status_of_line status_reads Optimal tt)
    (λ s hs. reads_none (λ h. ((((GoodHead form id h × (h.order ≡ o)) × (h.reduced ≡ r)) × (h.count ≡ c)) × (h.bound ≡ b)) × (h.status ≡ s))
    (record { order = o; reduced = r; count = c; bound = b; status = s })
    (((((record { order = ho; count = hc; bound = hb }, refl), refl), refl), refl), refl)
    (λ h f. rw (← f.0.0.0.0.1, ← f.0.0.0.1, ← f.0.0.1, ← f.0.1, ← f.1) refl))
    (λ h f. tt))
    (λ h f. f) (λ h f. f) (λ h f. refl) (λ ls. refl))
    (λ h f. f.0.0.0.bound))
    (λ h f. f.0.0.count))
    (λ h f. tt))
    (λ h f. f.order))
    (λ h f. f) (λ h f. f) (λ h f. refl) (λ ls. refl)

-- ---- a plan

abbrev pub plan_head : Plan → PlanHead
plan_head p = record { order = p.order; reduced = p.reduced; count = p.count; bound = p.bound; status = p.status }

pub record PlanParts (form : Form) (p : Plan) : Type 0 where
  pub number : IsWithin (most_entries form) p.number
  pub count : IsWithin (most_cases form) p.count
  pub bound : IsWithin (most_cases form) p.bound
  pub allowed : leb p.allowed 10000 ≡ true
  pub order : order_in_range form p.order ≡ true
  pub cert : InRange form p.cert
  pub layers : AreLayersInRange p.count p.layers
  pub stack : stack_in_range p.order (length p.layers) p.stack ≡ true

pub plan_parts : (form : Form) (p : Plan) → plan_in_range form p ≡ true → PlanParts form p
plan_parts form p f =
    let a = both_true (numbers_in_range form p) (order_in_range form p.order && (in_range form p.cert && (layers_in_range p.count p.layers && stack_in_range p.order (length p.layers) p.stack))) f in
    let b = both_true (order_in_range form p.order) (in_range form p.cert && (layers_in_range p.count p.layers && stack_in_range p.order (length p.layers) p.stack)) a.1 in
    let c = both_true (in_range form p.cert) (layers_in_range p.count p.layers && stack_in_range p.order (length p.layers) p.stack) b.1 in
    let d = both_true (layers_in_range p.count p.layers) (stack_in_range p.order (length p.layers) p.stack) c.1 in
    let n = both_true (is_within (most_entries form) p.number) (is_within (most_cases form) p.count && (is_within (most_cases form) p.bound && leb p.allowed 10000)) a.0 in
    let m = both_true (is_within (most_cases form) p.count) (is_within (most_cases form) p.bound && leb p.allowed 10000) n.1 in
    let k = both_true (is_within (most_cases form) p.bound) (leb p.allowed 10000) m.1 in
    record { number = n.0; count = m.0; bound = k.0; allowed = k.1; order = b.0; cert = c.0; layers = d.0; stack = d.1 }

pub plan_from_parts : (form : Form) (p : Plan) → PlanParts form p → plan_in_range form p ≡ true
plan_from_parts form p f =
    let a : numbers_in_range form p ≡ true = rw (f.number, f.count, f.bound, f.allowed) refl in
    rw (a, f.order, f.cert, f.layers, f.stack) refl

abbrev pub tail_lines : Plan → List (List ℕ)
tail_lines p = cert_lines p.cert ++ (layers_lines p.layers ++ (answer_lines (p.allowed, p.stack) ++ end_line ∷ []))

abbrev pub GoodPlan : Form → ℕ → List ℕ → Plan → Type 0
GoodPlan form n id p = (plan_in_range form p ≡ true) × (p.number ≡ n) × (p.order.id ≡ id)

plan_made : (form : Form) (n : ℕ) (id : List ℕ) (h : PlanHead) (c : Cert) (l : List Listed) (a : ℕ × StackAnswer) → IsWithin (most_entries form) n → GoodHead form id h → InRange form c → AreLayersInRange h.count l → IsAnswerInRange h.order (length l) a
    → GoodPlan form n id (record { number = n; order = h.order; reduced = h.reduced; count = h.count; bound = h.bound; status = h.status; cert = c; layers = l; allowed = a.0; stack = a.1 })
plan_made form n id h c l a hn hh hc hl ha =
    let s = both_true (leb a.0 10000) (stack_in_range h.order (length l) a.1) ha in (
      plan_from_parts form (record { number = n; order = h.order; reduced = h.reduced; count = h.count; bound = h.bound; status = h.status; cert = c; layers = l; allowed = a.0; stack = a.1 })
          (record { number = hn; count = hh.count; bound = hh.bound; allowed = s.0; order = hh.order.0; cert = hc; layers = hl; stack = s.1 }),
      refl,
      hh.order.1,
    )

few_variants : (count : ℕ) (l : List Listed) → AreLayersInRange count l → length l ≤ 8
few_variants = few_layers

pub answer_good : (form : Form) (p : Plan) → PlanParts form p → IsAnswerInRange p.order (length p.layers) (p.allowed, p.stack)
answer_good form p f = rw (f.allowed, f.stack) refl

pub plan_reads : (form : Form) (n : ℕ) (id : List ℕ) → IsWithin (most_entries form) n → is_id id ≡ true → Reads (λ p. head_lines form (plan_head p) ++ tail_lines p) (GoodPlan form n id) (plan_from form n id)
unfolding plan_from
plan_reads form n id hn is =
    reads_as (λ p. head_lines form (plan_head p) ++ tail_lines p) (λ p. head_lines form (plan_head p) ++ tail_lines p) (GoodPlan form n id) (GoodPlan form n id)
    (λ ls. head_from form id ls >>= λ h. cert_at form h.1 >>= λ c. layers_at h.0.count c.1 >>= λ l. answer_at h.0.order (length l.0) l.1 >>= λ a. behind_line end_line a.1 >>= λ rest. Ok (record { number = n; order = h.0.order; reduced = h.0.reduced; count = h.0.count; bound = h.0.bound; status = h.0.status; cert = c.0; layers = l.0; allowed = a.0.0; stack = a.0.1 }, rest)) (plan_from form n id)
    (reads_then (head_lines form) (GoodHead form id) (head_from form id) plan_head tail_lines (GoodPlan form n id)
    (λ h ls. cert_at form ls >>= λ c. layers_at h.count c.1 >>= λ l. answer_at h.order (length l.0) l.1 >>= λ a. behind_line end_line a.1 >>= λ rest. Ok (record { number = n; order = h.order; reduced = h.reduced; count = h.count; bound = h.bound; status = h.status; cert = c.0; layers = l.0; allowed = a.0.0; stack = a.0.1 }, rest))
    (head_reads form id is)
    (λ h hh. reads_then cert_lines (InRange form) (cert_at form) (λ p. p.cert) (λ p. layers_lines p.layers ++ (answer_lines (p.allowed, p.stack) ++ end_line ∷ [])) (λ p. GoodPlan form n id p × (plan_head p ≡ h))
    (λ c ls. layers_at h.count ls >>= λ l. answer_at h.order (length l.0) l.1 >>= λ a. behind_line end_line a.1 >>= λ rest. Ok (record { number = n; order = h.order; reduced = h.reduced; count = h.count; bound = h.bound; status = h.status; cert = c; layers = l.0; allowed = a.0.0; stack = a.0.1 }, rest))
    (cert_reads form)
    (λ c hc. reads_then layers_lines (AreLayersInRange h.count) (layers_at h.count) (λ p. p.layers) (λ p. answer_lines (p.allowed, p.stack) ++ end_line ∷ []) (λ p. (GoodPlan form n id p × (plan_head p ≡ h)) × (p.cert ≡ c))
    (λ l ls. answer_at h.order (length l) ls >>= λ a. behind_line end_line a.1 >>= λ rest. Ok (record { number = n; order = h.order; reduced = h.reduced; count = h.count; bound = h.bound; status = h.status; cert = c; layers = l; allowed = a.0.0; stack = a.0.1 }, rest))
    (layers_read h.count)
    (λ l hl. reads_then answer_lines (IsAnswerInRange h.order (length l)) (answer_at h.order (length l)) (λ p. (p.allowed, p.stack)) (λ p. end_line ∷ []) (λ p. ((GoodPlan form n id p × (plan_head p ≡ h)) × (p.cert ≡ c)) × (p.layers ≡ l))
    (λ a ls. behind_line end_line ls >>= λ rest. Ok (record { number = n; order = h.order; reduced = h.reduced; count = h.count; bound = h.bound; status = h.status; cert = c; layers = l; allowed = a.0; stack = a.1 }, rest))
    (answer_reads h.order (length l) (few_variants h.count l hl))
    (λ a ha. reads_line_alone end_line (λ p. (((GoodPlan form n id p × (plan_head p ≡ h)) × (p.cert ≡ c)) × (p.layers ≡ l)) × ((p.allowed, p.stack) ≡ a))
    (record { number = n; order = h.order; reduced = h.reduced; count = h.count; bound = h.bound; status = h.status; cert = c; layers = l; allowed = a.0; stack = a.1 })
    ((((plan_made form n id h c l a hn hh hc hl ha, refl), refl), refl), refl)
    (λ p f. rw (← f.0.0.0.0.1, ← f.0.0.0.1, ← f.0.0.1, ← f.0.1, ← f.1) refl))
    (λ p f. subst (λ (m : PlanHead). IsAnswerInRange m.order (length l) (p.allowed, p.stack)) f.0.0.1 (subst (λ (ls : List Listed). IsAnswerInRange p.order (length ls) (p.allowed, p.stack)) f.1 (answer_good form p (plan_parts form p f.0.0.0.0)))))
    (λ p f. subst (λ (m : PlanHead). AreLayersInRange m.count p.layers) f.0.1 (plan_parts form p f.0.0.0).layers))
    (λ p f. (plan_parts form p f.0.0).cert))
    (λ p f. let q = plan_parts form p f.0 in record { order = (q.order, f.2); count = q.count; bound = q.bound }))
    (λ p f. f) (λ p f. f) (λ p f. refl) (λ ls. refl)

-- ---- an entry

abbrev pub second_key : Entry → Second
second_key (Planned p) = seconds.Id p.order.id
second_key (Refused n fault) = seconds.Fault fault

abbrev pub body_lines : Form → Entry → List (List ℕ)
body_lines form (Planned p) = head_lines form (plan_head p) ++ tail_lines p
body_lines form (Refused n fault) = end_line ∷ []

abbrev pub IsEntryOf : Form → ℕ → Entry → Type 0
IsEntryOf form n e = IsInRange form e × (number_of_entry e ≡ n)

planned_is : (form : Form) (n : ℕ) (id : List ℕ) (e : Entry) → IsEntryOf form n e × (second_key e ≡ seconds.Id id) → (p : Plan) × (e ≡ Planned p) × GoodPlan form n id p
planned_is form n id (Planned p) f = let e = f.1 in (p, refl, (f.0.0, f.0.1, cc))
planned_is form n id (Refused m fault) f = let e = f.1 in absurd cc

refused_is : (form : Form) (n : ℕ) (fault : RowFault) (e : Entry) → IsEntryOf form n e × (second_key e ≡ seconds.Fault fault) → e ≡ Refused n fault
refused_is form n fault (Planned p) f = let e = f.1 in absurd cc
refused_is form n fault (Refused m told) f =
    let e = f.1 in
    let same : told ≡ fault = cc in
    ap (λ (k : ℕ). Refused k told) f.0.1 ∙ ap (λ (t : RowFault). Refused n t) same

refused_lines : (form : Form) (n : ℕ) (fault : RowFault) (e : Entry) → IsEntryOf form n e × (second_key e ≡ seconds.Fault fault) → body_lines form e ≡ end_line ∷ []
refused_lines form n fault e f = ap (body_lines form) (refused_is form n fault e f)

refused_good : (form : Form) (n : ℕ) (fault : RowFault) → IsWithin (most_entries form) n → GoodFault form fault → IsInRange form (Refused n fault)
refused_good form n fault hn hf = rw (hn, hf) refl

body_reads : (form : Form) (n : ℕ) → IsWithin (most_entries form) n → (s : Second) → GoodSecond form s → Reads (body_lines form) (λ e. IsEntryOf form n e × (second_key e ≡ s)) (entry_of_second form n s)
unfolding entry_of_second
body_reads form n hn (seconds.Id id) hs =
    reads_as (body_lines form) (body_lines form) (λ e. IsEntryOf form n e × (second_key e ≡ seconds.Id id)) (λ e. IsEntryOf form n e × (second_key e ≡ seconds.Id id))
    (λ ls. plan_from form n id ls >>= λ p. Ok (Planned p.0, p.1)) (entry_of_second form n (seconds.Id id))
    (reads_into (λ p. Planned p) (λ p. head_lines form (plan_head p) ++ tail_lines p) (GoodPlan form n id) (plan_from form n id) (body_lines form) (λ e. IsEntryOf form n e × (second_key e ≡ seconds.Id id))
    (plan_reads form n id hn hs) (λ p f. refl) (λ p f. ((f.0, f.1), ap (λ (i : List ℕ). seconds.Id i) f.2)) (planned_is form n id))
    (λ e f. f) (λ e f. f) (λ e f. refl) (λ ls. refl)
body_reads form n hn (seconds.Fault fault) hs =
    reads_as (λ e. end_line ∷ []) (body_lines form) (λ e. IsEntryOf form n e × (second_key e ≡ seconds.Fault fault)) (λ e. IsEntryOf form n e × (second_key e ≡ seconds.Fault fault))
    (λ ls. behind_line end_line ls >>= λ rest. Ok (Refused n fault, rest)) (entry_of_second form n (seconds.Fault fault))
    (reads_line_alone end_line (λ e. IsEntryOf form n e × (second_key e ≡ seconds.Fault fault)) (Refused n fault) ((refused_good form n fault hn hs, refl), refl) (refused_is form n fault))
    (λ e f. f) (λ e f. f) (refused_lines form n fault) (λ ls. refl)

good_second : (form : Form) (e : Entry) → IsInRange form e → GoodSecond form (second_key e)
good_second form (Planned p) f = (passes p.order (has_order form p.order (plan_parts form p f).order).order).id
good_second form (Refused n fault) f = (both_true (is_within (most_entries form) n) (fault_in_range form fault) f).1

abbrev pub behind_number : Form → Entry → List (List ℕ)
behind_number form e = second_line (second_key e) ∷ body_lines form e

-- an entry whose number was read is read exactly
pub behind_reads : (form : Form) (n : ℕ) → IsWithin (most_entries form) n → Reads (behind_number form) (IsEntryOf form n) (entry_behind form n)
unfolding entry_behind
behind_reads form n hn =
    reads_as (behind_number form) (behind_number form) (IsEntryOf form n) (IsEntryOf form n)
    (λ ls. first_by (second_of form) ls >>= λ s. entry_of_second form n s.0 s.1) (entry_behind form n)
    (reads_then (λ s. second_line s ∷ []) (GoodSecond form) (first_by (second_of form)) second_key (body_lines form) (IsEntryOf form n) (entry_of_second form n)
    (by_line second_line (GoodSecond form) (second_of form) (second_reads form) (seconds.Fault faults.FieldCount) refl)
    (body_reads form n hn) (λ e f. good_second form e f.0))
    (λ e f. f) (λ e f. f) (λ e f. refl) (λ ls. refl)

pub number_good : (form : Form) (e : Entry) → IsInRange form e → IsWithin (most_entries form) (number_of_entry e)
number_good form (Planned p) f = (plan_parts form p f).number
number_good form (Refused n fault) f = (both_true (is_within (most_entries form) n) (fault_in_range form fault) f).0

pub entry_split : (form : Form) (e : Entry) → entry_lines form e ≡ spaced (number_words (number_of_entry e)) ∷ behind_number form e
unfolding entry_lines
entry_split form (Planned p) = refl
entry_split form (Refused n fault) = refl

-- an entry is read exactly
pub entry_reads : (form : Form) → Reads (entry_lines form) (IsInRange form) (entry_at form)
unfolding entry_at
entry_reads form =
    reads_as (λ e. spaced (number_words (number_of_entry e)) ∷ behind_number form e) (entry_lines form) (IsInRange form) (IsInRange form)
    (λ ls. first_by (number_of_line form) ls >>= λ n. entry_behind form n.0 n.1) (entry_at form)
    (reads_then (λ n. spaced (number_words n) ∷ []) (IsWithin (most_entries form)) (first_by (number_of_line form)) number_of_entry (behind_number form) (IsInRange form) (entry_behind form)
    (by_line (λ n. spaced (number_words n)) (IsWithin (most_entries form)) (number_of_line form) (named_reads (codes "entry") (most_entries form) (few_entries form) refl) 1 (one_entry form))
    (λ n hn. behind_reads form n hn) (number_good form))
    (λ e f. f) (λ e f. f) (λ e f. entry_split form e) (λ ls. refl)

-- ---- what a reader of a part knows

pub layers_few : (count : ℕ) (ls : List (List ℕ)) (l : List Listed) (rest : List (List ℕ)) → layers_at count ls ≡ Ok (l, rest) → length l ≤ 8
layers_few count ls l rest e = few_layers count l ((layers_read count).takes ls l rest e).0
