-- What reading an entry says of the bytes.
use Rattle.std.proofs.Common.{◌≡◌, ℕ, ◌≤◌, List, [], ◌∷◌, ◌++◌, length, Ok, Err, refl, sym, ◌∙◌, arith, true, false, leb, eqb, inl, inr}
use Rattle.std.specs.Prelude.{◌&&◌, codes}
use Rattle.std.specs.List.{list_all, AllByRecursion}
use Rattle.std.proofs.lemmas.Bool.{cases_Bool, leb-true, eqb-true}
use Rattle.std.proofs.lemmas.List.{length-append}
use Rattle.texts.specs.Lines.{spaced, whole_lines, unfinished}
use Rattle.texts.proofs.LineEnds.{IsPlain}
use Rattle.texts.proofs.Parsers.{both_true, plain_spaced}
use Rattle.texts.specs.Spelling.{HasOneSpelling}
use Rattle.texts.proofs.Bytes.{Got, got, same_value, no_fault, Stopped, stopped, has_one_spelling}
use Rattle.cert_text.proofs.CertReaders.{cert_plain, few_lines as few_cert_lines}
use Rattle.cert_text.specs.Text.{cert_lines}
use Rattle.cert_text.specs.declared.forms.Form.{Form}
use Rattle.cert_text.specs.declared.forms.Form.TheVariants.{One, Two}
use Rattle.order_reader.specs.Faults.{is_id}
use Rattle.order_reader.proofs.OrderFacts.{passes}
use Rattle.listing_text.specs.Text.{layers_lines, answer_lines}
use Rattle.listing_text.proofs.LayerReaders.{few_layers, all_both, layers_plain}
use Rattle.listing_text.proofs.AnswerReaders.{answer_plain}
use Rattle.listing_text.proofs.Lengths.{lines_within, layers_short, answer_short}
use Rattle.plan_entries.specs.Ranges.{most_entries, most_cases, IsInRange}
use Rattle.plan_entries.specs.declared.entries.Status.{Status}
use Rattle.plan_entries.specs.declared.entries.Status.TheVariants.{Optimal, StillOpen}
use Rattle.plan_entries.specs.declared.entries.Entry.{Entry}
use Rattle.plan_entries.specs.declared.entries.Entry.TheVariants.{Planned, Refused}
use Rattle.report_text.specs.LineTexts.{number_words, id_line, order_words, reduced_words, count_words, bound_words, status_line, end_line}
use Rattle.report_text.specs.Text.{entry_lines, entry_text}
use Rattle.report_text.specs.Lines.{entry_at}
use Rattle.report_text.proofs.EntryWords.{IsWithin, within_is, named_solid, reduced_solid}
use Rattle.report_text.proofs.OrderWords.{has_order, order_solid}
use Rattle.report_text.proofs.FaultWords.{fault_plain}
use Rattle.report_text.proofs.EntryReaders.{few_cases, few_entries, plan_parts, answer_good, number_good, entry_reads}

-- ---- no line has an end inside

id_byte : (b : ℕ) → (leb 32 b && leb b 126) ≡ true → eqb b 10 ≡ false
id_byte b f = elim (cases_Bool (eqb b 10)) [
  | inl y ↦ let e = eqb-true b 10 y in let low = leb-true 32 b (both_true (leb 32 b) (leb b 126) f).0 in absurd (omega arith)
  | inr n ↦ n
]

id_bytes_plain : (id : List ℕ) → list_all (λ b. leb 32 b && leb b 126) id ≡ true → IsPlain id
id_bytes_plain [] f = tt
id_bytes_plain (b ∷ id) f =
    let p = both_true (leb 32 b && leb b 126) (list_all (λ c. leb 32 c && leb c 126) id) f in
    (id_byte b p.0, id_bytes_plain id p.1)

pub id_short : (id : List ℕ) → is_id id ≡ true → (length id ≤ 40) × IsPlain id
unfolding is_id
id_short id f =
    let p = both_true (leb 1 (length id)) (leb (length id) 40 && list_all (λ b. leb 32 b && leb b 126) id) f in
    let q = both_true (leb (length id) 40) (list_all (λ b. leb 32 b && leb b 126) id) p.1 in
    (leb-true (length id) 40 q.0, id_bytes_plain id q.1)

id_plain : (id : List ℕ) → is_id id ≡ true → IsPlain (id_line id)
id_plain id f = (refl, (refl, (refl, (id_short id f).1)))

status_plain : (s : Status) → IsPlain (status_line s)
status_plain Optimal = plain_spaced (codes "status" ∷ codes "optimal" ∷ []) (refl, (refl, tt))
status_plain StillOpen = plain_spaced (codes "status" ∷ codes "open" ∷ []) (refl, (refl, tt))

number_plain : (form : Form) (e : Entry) (n : ℕ) → IsWithin (most_entries form) n → IsPlain (spaced (number_words n))
number_plain form e n f = plain_spaced (number_words n) (named_solid (codes "entry") (most_entries form) n (few_entries form) refl f)

end_plain : IsPlain end_line
end_plain = (refl, (refl, (refl, tt)))

pub entry_plain : (form : Form) (e : Entry) → IsInRange form e → AllByRecursion IsPlain (entry_lines form e)
unfolding entry_lines
entry_plain form (Planned p) f =
    let q = plan_parts form p f in
    let o = has_order form p.order q.order in
    let few = few_layers p.count p.layers q.layers in
    let answers = all_both IsPlain (answer_lines (p.allowed, p.stack)) (end_line ∷ []) (answer_plain p.order (length p.layers) few (p.allowed, p.stack) (answer_good form p q)) (end_plain, tt) in
    let layers = all_both IsPlain (layers_lines p.layers) (answer_lines (p.allowed, p.stack) ++ end_line ∷ []) (layers_plain p.count p.layers q.layers) answers in
    let rest = all_both IsPlain (cert_lines p.cert) (layers_lines p.layers ++ (answer_lines (p.allowed, p.stack) ++ end_line ∷ [])) (cert_plain form p.cert q.cert) layers in (
      number_plain form (Planned p) p.number q.number,
      (
        id_plain p.order.id (passes p.order o.order).id,
        (
          plain_spaced (order_words form p.order) (order_solid form p.order q.order),
          (
            plain_spaced (reduced_words p.reduced) (reduced_solid p.reduced),
            (
              plain_spaced (count_words p.count) (named_solid (codes "count") (most_cases form) p.count (few_cases form) refl q.count),
              (
                plain_spaced (bound_words p.bound) (named_solid (codes "bound") (most_cases form) p.bound (few_cases form) refl q.bound),
                (status_plain p.status, rest),
              ),
            ),
          ),
        ),
      ),
    )
entry_plain form (Refused n fault) f = (number_plain form (Refused n fault) n (number_good form (Refused n fault) f), (fault_plain fault, (end_plain, tt)))

-- ---- an entry has few lines

pub count_few : (form : Form) (n : ℕ) → IsWithin (most_cases form) n → n ≤ 1000
count_few One n f = let h = (within_is 400 n f).1 in omega arith
count_few Two n f = (within_is 1000 n f).1

pub few_entry_lines : (form : Form) (e : Entry) → IsInRange form e → length (entry_lines form e) ≤ 120300
unfolding entry_lines
few_entry_lines form (Planned p) f =
    let q = plan_parts form p f in
    let few = few_layers p.count p.layers q.layers in
    let count = count_few form p.count q.count in
    let cert = few_cert_lines form p.cert q.cert in
    let layers = lines_within (layers_lines p.layers) in
    let layers_text = layers_short p.count p.layers q.layers in
    let answer = lines_within (answer_lines (p.allowed, p.stack)) in
    let answer_text = answer_short p.order (length p.layers) few (p.allowed, p.stack) (answer_good form p q) in
    let end = length-append (answer_lines (p.allowed, p.stack)) (end_line ∷ []) in
    let more = length-append (layers_lines p.layers) (answer_lines (p.allowed, p.stack) ++ end_line ∷ []) in
    let all = length-append (cert_lines p.cert) (layers_lines p.layers ++ (answer_lines (p.allowed, p.stack) ++ end_line ∷ [])) in
    omega arith
few_entry_lines form (Refused n fault) f = omega arith

-- ---- what reading says

pub got_entry : (form : Form) (bytes rest : List ℕ) (e : Entry) → entry_at form (whole_lines bytes) ≡ Ok (e, whole_lines rest) → unfinished rest ≡ unfinished bytes → Got (entry_lines form) (IsInRange form) (entry_at form) (entry_reads form) (entry_plain form) bytes rest e
got_entry form = got (entry_lines form) (IsInRange form) (entry_at form) (entry_reads form) (entry_plain form)

pub same_entry : (form : Form) (bytes rest after : List ℕ) (e d : Entry) → IsInRange form e → bytes ≡ entry_text form e ++ rest → entry_at form (whole_lines bytes) ≡ Ok (d, whole_lines after) → d ≡ e
same_entry form = same_value (entry_lines form) (IsInRange form) (entry_at form) (entry_reads form) (entry_plain form)

pub no_entry_fault : (form : Form) (bytes rest : List ℕ) (e : Entry) (n : ℕ) → IsInRange form e → bytes ≡ entry_text form e ++ rest → entry_at form (whole_lines bytes) ≡ Err n → ⊥
no_entry_fault form = no_fault (entry_lines form) (IsInRange form) (entry_at form) (entry_reads form) (entry_plain form)

pub entry_stopped : (form : Form) (bytes : List ℕ) (left : ℕ) → entry_at form (whole_lines bytes) ≡ Err left → Stopped (entry_lines form) (IsInRange form) (entry_at form) (entry_reads form) (entry_plain form) bytes 120300 left
entry_stopped form bytes left e = stopped (entry_lines form) (IsInRange form) (entry_at form) (entry_reads form) (entry_plain form) bytes 120300 left (few_entry_lines form) e

pub entries_one_spelling : (form : Form) → HasOneSpelling (entry_lines form) (IsInRange form)
entries_one_spelling form = has_one_spelling (entry_lines form) (IsInRange form) (entry_at form) (entry_reads form) (entry_plain form)

-- the entry that was read is the one in front, and so is what stands behind it
pub this_entry : (form : Form) (bytes rest behind : List ℕ) (d e : Entry) → entry_at form (whole_lines bytes) ≡ Ok (d, whole_lines rest) → unfinished rest ≡ unfinished bytes → IsInRange form e → bytes ≡ entry_text form e ++ behind → (d ≡ e) × (rest ≡ behind)
this_entry form bytes rest behind d e read u fits parts =
    let g = got_entry form bytes rest d read u in
    entries_one_spelling form d e rest behind g.fits fits (sym g.parts ∙ parts)
