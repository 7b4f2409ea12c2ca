-- What reading a report says of the bytes.
use Rattle.std.proofs.Common.{◌≡◌, ℕ, suc, ◌≤◌, ◌<◌, ◌+◌, ◌-◌, List, [], ◌∷◌, ◌++◌, length, Ok, Err, refl, sym, ap, subst, ◌∙◌, append_assoc, arith}
use Rattle.std.proofs.lemmas.List.{append-nil, length-append, nil_from_length}
use Rattle.std.proofs.lemmas.List.Concat.{flat_map-cons, flat_map-append}
use Rattle.texts.specs.Lines.{ended, text_of, whole_lines, unfinished}
use Rattle.texts.specs.Grammar.{NoneGoesOn, Reading, ◌>>=◌, first_by}
use Rattle.texts.specs.Spelling.{FaultsAt, HasOneSpelling}
use Rattle.texts.proofs.LineEnds.{whole_text, unfinished_text, whole_is, taken_is}
use Rattle.texts.proofs.Readers.{bind_ok, ok_is, one_spelling}
use Rattle.texts.proofs.Bytes.{Got, got, got_again, no_fault, Stopped, stopped, has_one_spelling}
use Rattle.cert_text.specs.declared.forms.Form.{Form}
use Rattle.plan_entries.specs.Ranges.{most_entries, IsInRange}
use Rattle.plan_entries.specs.declared.entries.Entry.{Entry}
use Rattle.report_text.specs.Text.{entry_lines, entry_text, BeginsWithEntry}
use Rattle.report_text.specs.ReportLines.{form_of, entries_from, counted, entries_counted}
use Rattle.report_text.specs.Reports.{Report, head_line, done_line, entries_lines, report_lines, head_text, entries_text, done_text, report_text, AreNumberedFrom, AreReported, IsReport}
use Rattle.report_text.specs.Cursors.{entries_in, entries_of, IsRest}
use Rattle.report_text.specs.ReportAnswers.{IsReportIn}
use Rattle.report_text.proofs.ReportReaders.{rest_lines, entries_read, report_at, report_reads, rest_plain, report_plain, few_report_lines}

-- ---- a report's text is that of its lines

entries_text_is : (form : Form) (es : List Entry) → text_of (entries_lines form es) ≡ entries_text form es
entries_text_is form [] = refl
entries_text_is form (e ∷ es) =
    ap text_of (flat_map-cons (entry_lines form) e es) ∙ flat_map-append ended (entry_lines form e) (entries_lines form es) ∙ ap (λ (t : List ℕ). entry_text form e ++ t) (entries_text_is form es) ∙ sym (flat_map-cons (entry_text form) e es)

pub rest_text_is : (form : Form) (before : ℕ) (es : List Entry) → text_of (rest_lines form before es) ≡ entries_text form es ++ done_text (before + length es)
rest_text_is form before es =
    flat_map-append ended (entries_lines form es) (done_line (before + length es) ∷ []) ∙ ap (λ (t : List ℕ). t ++ text_of (done_line (before + length es) ∷ [])) (entries_text_is form es)
    ∙ ap (λ (t : List ℕ). entries_text form es ++ t) (append-nil (done_text (before + length es)))

pub report_text_is : (r : Report) → text_of (report_lines r) ≡ report_text r.form r.entries
report_text_is r =
    let z : 0 + length r.entries ≡ length r.entries = omega arith in
    flat_map-cons ended (head_line r.form) (entries_lines r.form r.entries ++ done_line (length r.entries) ∷ [])
    ∙ ap (λ (t : List ℕ). head_text r.form ++ t) (sym (ap (λ (n : ℕ). text_of (entries_lines r.form r.entries ++ done_line n ∷ [])) z) ∙ rest_text_is r.form 0 r.entries ∙ ap (λ (n : ℕ). entries_text r.form r.entries ++ done_text n) z)

-- ---- what is still to be read

pub record Ahead (form : Form) (left before : ℕ) (bytes : List ℕ) (es : List Entry) : Type 0 where
  pub entries : entries_in form left before bytes ≡ es
  pub is_rest : IsRest form left before bytes

pub ahead : (form : Form) (left before : ℕ) (bytes : List ℕ) (es : List Entry) → before + left ≤ most_entries form → length es ≡ left → AreNumberedFrom form (before + 1) es → bytes ≡ entries_text form es ++ done_text (before + left) → Ahead form left before bytes es
unfolding entries_in whole_lines
ahead form left before bytes es few count numbered text =
    let lines : bytes ≡ text_of (rest_lines form before es) ++ [] = text ∙ ap (λ (n : ℕ). entries_text form es ++ done_text (before + n)) (sym count) ∙ sym (rest_text_is form before es) ∙ sym (append-nil (text_of (rest_lines form before es))) in
    let plain = rest_plain form before es (omega arith) numbered in
    let whole : whole_lines bytes ≡ rest_lines form before es ++ [] = ap whole_lines lines ∙ whole_text (rest_lines form before es) [] plain in
    let read : entries_from form left before (whole_lines bytes) ≡ Ok (es, []) = ap (entries_from form left before) whole ∙ (entries_read form left before few).again es [] (omega arith, numbered) in
    let same : entries_of (entries_from form left before (whole_lines bytes)) ≡ es = ap entries_of read in
    record {
      entries = same;
      is_rest = record {
        few = few;
        count = ap length same ∙ count;
        numbered = subst (AreNumberedFrom form (before + 1)) (sym same) numbered;
        text = text ∙ ap (λ (ds : List Entry). entries_text form ds ++ done_text (before + left)) (sym same);
      };
    }

-- the first of the entries, and what is then ahead
pub record Parted (form : Form) (left before : ℕ) (bytes : List ℕ) : Type 0 where
  pub entry : Entry
  pub others : List Entry
  pub behind : List ℕ
  pub entries : entries_in form left before bytes ≡ entry ∷ others
  pub fits : IsInRange form entry
  pub parts : bytes ≡ entry_text form entry ++ behind
  pub next : Ahead form (left - 1) (before + 1) behind others

parted_by : (form : Form) (left before : ℕ) (bytes : List ℕ) (es : List Entry) → entries_in form left before bytes ≡ es → 0 < left → IsRest form left before bytes → Parted form left before bytes
parted_by form left before bytes [] e pos rest =
    let n : length (entries_in form left before bytes) ≡ 0 = ap length e in
    let c = rest.count in
    absurd (omega arith)
parted_by form left before bytes (d ∷ ds) e pos rest =
    let numbered : AreNumberedFrom form (before + 1) (d ∷ ds) = subst (AreNumberedFrom form (before + 1)) e rest.numbered in
    let count : suc (length ds) ≡ left = sym (ap length e) ∙ rest.count in
    let few = rest.few in
    let text : bytes ≡ entries_text form (d ∷ ds) ++ done_text (before + left) = rest.text ∙ ap (λ (xs : List Entry). entries_text form xs ++ done_text (before + left)) e in
    let n : before + left ≡ (before + 1) + (left - 1) = omega arith in
    let behind = entries_text form ds ++ done_text ((before + 1) + (left - 1)) in
    record {
      entry = d;
      others = ds;
      behind = entries_text form ds ++ done_text ((before + 1) + (left - 1));
      entries = e;
      fits = numbered.0.1;
      parts = text ∙ ap (λ (t : List ℕ). t ++ done_text (before + left)) (flat_map-cons (entry_text form) d ds) ∙ append_assoc (entry_text form d) (entries_text form ds) (done_text (before + left)) ∙ ap (λ (k : ℕ). entry_text form d ++ (entries_text form ds ++ done_text k)) n;
      next = ahead form (left - 1) (before + 1) (entries_text form ds ++ done_text ((before + 1) + (left - 1))) ds (omega arith) (omega arith) numbered.1 refl;
    }

pub parted : (form : Form) (left before : ℕ) (bytes : List ℕ) → 0 < left → IsRest form left before bytes → Parted form left before bytes
parted form left before bytes pos rest = parted_by form left before bytes (entries_in form left before bytes) refl pos rest

pub begins : (form : Form) (left before : ℕ) (bytes : List ℕ) → 0 < left → IsRest form left before bytes → BeginsWithEntry form bytes
begins form left before bytes pos rest =
    let p = parted form left before bytes pos rest in
    record { entry = p.entry; fits = p.fits; behind = p.behind; parts = p.parts }

pub none_left : (form : Form) (before : ℕ) (bytes : List ℕ) → IsRest form 0 before bytes → entries_in form 0 before bytes ≡ []
none_left form before bytes rest = nil_from_length (entries_in form 0 before bytes) rest.count

-- ---- faults

pub form_fault : (bytes : List ℕ) (left : ℕ) → first_by form_of (whole_lines bytes) ≡ Err left → report_at (whole_lines bytes) ≡ Err left
unfolding report_at
form_fault bytes left e = rw e refl

counted_err : (form : Form) (ls : List (List ℕ)) (left : ℕ) → entries_counted form ls ≡ Err left → entries_from form (most_entries form) 0 ls ≡ Err left
unfolding entries_counted
counted_err form ls left e = by (entries_from form (most_entries form) 0 ls) refl e
  where
    by : (read : Reading (List ℕ) (List Entry)) → entries_from form (most_entries form) 0 ls ≡ read → (read >>= counted) ≡ Err left → entries_from form (most_entries form) 0 ls ≡ Err left
    by (Ok x) h g = absurd cc
    by (Err n) h g = let same : n ≡ left = cc in h ∙ ap (λ (k : ℕ). Err k) same

pub entries_fault : (form : Form) (bytes entries : List ℕ) (left : ℕ) → first_by form_of (whole_lines bytes) ≡ Ok (form, whole_lines entries) → entries_counted form (whole_lines entries) ≡ Err left → report_at (whole_lines bytes) ≡ Err left
unfolding report_at
entries_fault form bytes entries left f e = rw (f, counted_err form (whole_lines entries) left e) refl

pub report_stopped : (bytes : List ℕ) (left : ℕ) → report_at (whole_lines bytes) ≡ Err left → Stopped report_lines IsReport report_at report_reads report_plain bytes 30800000 left
report_stopped bytes left e = stopped report_lines IsReport report_at report_reads report_plain bytes 30800000 left few_report_lines e

pub faults_at : (bytes : List ℕ) (left number : ℕ) → report_at (whole_lines bytes) ≡ Err left → number + left ≡ length (whole_lines bytes) + 1 → FaultsAt report_lines IsReport bytes number
faults_at bytes left number e n =
    let s = report_stopped bytes left e in
    let c = s.count in
    record { before = s.front; rest = s.rest; stops = s.stops; number_is = omega arith }

-- a whole report's text is no fault
pub no_report_fault : (bytes : List ℕ) (form : Form) (es : List Entry) (left : ℕ) → AreReported form es → bytes ≡ report_text form es → report_at (whole_lines bytes) ≡ Err left → ⊥
no_report_fault bytes form es left fits e h =
    no_fault report_lines IsReport report_at report_reads report_plain bytes [] (record { form = form; entries = es }) left fits (e ∙ sym (report_text_is (record { form = form; entries = es })) ∙ sym (append-nil (text_of (report_lines (record { form = form; entries = es }))))) h

-- ---- what was counted

pub record Counted (form : Form) (bytes entries rest : List ℕ) (left : ℕ) : Type 0 where
  pub es : List Entry
  pub read : entries_from form (most_entries form) 0 (whole_lines entries) ≡ Ok (es, whole_lines rest)
  pub count : length es ≡ left
  pub whole : report_at (whole_lines bytes) ≡ Ok (record { form = form; entries = es }, whole_lines rest)

read_whole : (form : Form) (ls mid : List (List ℕ)) (x : List Entry × List (List ℕ)) → first_by form_of ls ≡ Ok (form, mid) → entries_from form (most_entries form) 0 mid ≡ Ok x → report_at ls ≡ Ok (record { form = form; entries = x.0 }, x.1)
unfolding report_at
read_whole form ls mid x f e = rw (f, e) refl

pub was_counted : (form : Form) (bytes entries rest : List ℕ) (left : ℕ) → first_by form_of (whole_lines bytes) ≡ Ok (form, whole_lines entries) → entries_counted form (whole_lines entries) ≡ Ok (left, whole_lines rest) → Counted form bytes entries rest left
unfolding entries_counted
was_counted form bytes entries rest left f e =
    let b = bind_ok (entries_from form (most_entries form) 0 (whole_lines entries)) counted (left, whole_lines rest) e in
    let pair = ok_is (length b.0.0, b.0.1) (left, whole_lines rest) b.2 in
    let behind : b.0.1 ≡ whole_lines rest = ap (λ (p : ℕ × List (List ℕ)). p.1) pair in
    let read : entries_from form (most_entries form) 0 (whole_lines entries) ≡ Ok (b.0.0, whole_lines rest) = b.1 ∙ ap (λ (ls : List (List ℕ)). Ok (b.0.0, ls)) behind in
    record { es = b.0.0; read = read; count = ap (λ (p : ℕ × List (List ℕ)). p.0) pair; whole = read_whole form (whole_lines bytes) (whole_lines entries) (b.0.0, whole_lines rest) f read }

-- nothing stands behind: the entries are ahead
pub all_ahead : (form : Form) (bytes entries : List ℕ) (left : ℕ) (c : Counted form bytes entries [] left) → unfinished [] ≡ unfinished entries → Ahead form left 0 entries c.es
unfolding whole_lines
all_ahead form bytes entries left c u =
    let t = (entries_read form (most_entries form) 0 (omega arith)).takes (whole_lines entries) c.es [] c.read in
    let fits = t.0 in
    let count = c.count in
    let le = fits.0 in
    let text : entries ≡ text_of (rest_lines form 0 c.es) ++ [] = taken_is (rest_lines form 0 c.es) entries [] t.1 (sym u) in
    ahead form left 0 entries c.es (omega arith) count fits.1 (text ∙ append-nil (text_of (rest_lines form 0 c.es)) ∙ rest_text_is form 0 c.es ∙ ap (λ (n : ℕ). entries_text form c.es ++ done_text (0 + n)) count)

pub got_report : (bytes rest : List ℕ) (r : Report) → report_at (whole_lines bytes) ≡ Ok (r, whole_lines rest) → unfinished rest ≡ unfinished bytes → Got report_lines IsReport report_at report_reads report_plain bytes rest r
got_report = got report_lines IsReport report_at report_reads report_plain

-- what is read is the report whose text the bytes are
pub same_report : (bytes after : List ℕ) (form : Form) (es : List Entry) (r : Report) → AreReported form es → bytes ≡ report_text form es → report_at (whole_lines bytes) ≡ Ok (r, whole_lines after) → (r ≡ record { form = form; entries = es }) × (whole_lines after ≡ [])
unfolding whole_lines
same_report bytes after form es r fits e h =
    let text : bytes ≡ text_of (report_lines (record { form = form; entries = es })) ++ [] = e ∙ sym (report_text_is (record { form = form; entries = es })) ∙ sym (append-nil (text_of (report_lines (record { form = form; entries = es })))) in
    let again = got_again report_lines IsReport report_at report_reads report_plain bytes [] (record { form = form; entries = es }) fits text in
    let pair = ok_is (r, whole_lines after) (record { form = form; entries = es }, []) (sym h ∙ again) in
    (ap (λ (p : Report × List (List ℕ)). p.0) pair, ap (λ (p : Report × List (List ℕ)). p.1) pair)

-- something stands behind: no report's text goes on there
none_goes_on : (r : Report) (rest : List (List ℕ)) → IsReport r → NoneGoesOn report_lines IsReport (report_lines r) rest
none_goes_on r [] fits = tt
none_goes_on r (x ∷ rest) fits = λ h.
    let e : report_lines h.value ++ [] ≡ report_lines r ++ (x ∷ h.more) = append-nil (report_lines h.value) ∙ h.whole ∙ append_assoc (report_lines r) (x ∷ []) h.more in
    let same = one_spelling report_lines IsReport report_at report_reads h.value r [] (x ∷ h.more) h.fits fits e in
    let none = same.1 in
    absurd cc

pub more_behind : (bytes rest : List ℕ) (r : Report) (number : ℕ) → report_at (whole_lines bytes) ≡ Ok (r, whole_lines rest) → number + length (whole_lines rest) ≡ length (whole_lines bytes) + 1 → FaultsAt report_lines IsReport bytes number
more_behind bytes rest r number e n =
    let t = report_reads.takes (whole_lines bytes) r (whole_lines rest) e in
    let len : length (whole_lines bytes) ≡ length (report_lines r) + length (whole_lines rest) = ap length t.1 ∙ length-append (report_lines r) (whole_lines rest) in
    record {
      before = report_lines r;
      rest = whole_lines rest;
      stops = record { parts = t.1; begun = record { value = r; fits = t.0; more = []; whole = sym (append-nil (report_lines r)) }; ends = none_goes_on r (whole_lines rest) t.0 };
      number_is = omega arith;
    }

-- how many lines stand before what is behind
pub record FewBefore (bytes rest : List ℕ) : Type 0 where
  pub within : length (whole_lines rest) ≤ length (whole_lines bytes)
  pub few : length (whole_lines bytes) ≤ length (whole_lines rest) + 30800000

pub few_before : (bytes rest : List ℕ) (r : Report) → report_at (whole_lines bytes) ≡ Ok (r, whole_lines rest) → FewBefore bytes rest
few_before bytes rest r e =
    let t = report_reads.takes (whole_lines bytes) r (whole_lines rest) e in
    let len : length (whole_lines bytes) ≡ length (report_lines r) + length (whole_lines rest) = ap length t.1 ∙ length-append (report_lines r) (whole_lines rest) in
    let few = few_report_lines r t.0 in
    record { within = omega arith; few = omega arith }

-- a report's text leaves nothing behind
pub nothing_behind : (bytes after : List ℕ) (form : Form) (es : List Entry) (r : Report) → AreReported form es → bytes ≡ report_text form es → report_at (whole_lines bytes) ≡ Ok (r, whole_lines after) → unfinished after ≡ unfinished bytes → after ≡ []
unfolding unfinished
nothing_behind bytes after form es r fits e h u =
    let same = same_report bytes after form es r fits e h in
    let text : bytes ≡ text_of (report_lines (record { form = form; entries = es })) ++ [] = e ∙ sym (report_text_is (record { form = form; entries = es })) ∙ sym (append-nil (text_of (report_lines (record { form = form; entries = es })))) in
    let none : unfinished bytes ≡ [] = ap unfinished text ∙ unfinished_text (report_lines (record { form = form; entries = es })) [] (report_plain (record { form = form; entries = es }) fits) in
    whole_is after ∙ ap (λ (ls : List (List ℕ)). text_of ls ++ unfinished after) same.1 ∙ u ∙ none

-- ---- what is answered

report_same : (r : Report) (form : Form) (es : List Entry) → r.form ≡ form → r.entries ≡ es → r ≡ record { form = form; entries = es }
report_same r form es f e = ap (λ (g : Form). report_with g r.entries) f ∙ ap (λ (xs : List Entry). report_with form xs) e
  where
    report_with : Form → List Entry → Report
    report_with g xs = record { form = g; entries = xs }

pub report_found : (bytes : List ℕ) (form : Form) (es : List Entry) (r : Report) → report_at (whole_lines bytes) ≡ Ok (record { form = form; entries = es }, whole_lines []) → unfinished [] ≡ unfinished bytes → r.form ≡ form → r.entries ≡ es → IsReportIn bytes r
report_found bytes form es r read u f e =
    let g = got_report bytes [] (record { form = form; entries = es }) read u in
    let text : bytes ≡ report_text form es = g.parts ∙ append-nil (text_of (report_lines (record { form = form; entries = es }))) ∙ report_text_is (record { form = form; entries = es }) in
    let found : IsReportIn bytes (record { form = form; entries = es }) = record { reported = g.fits; text = text } in
    subst (IsReportIn bytes) (sym (report_same r form es f e)) found

pub report_only : (bytes : List ℕ) (form other : Form) (es others : List Entry) (r : Report) → report_at (whole_lines bytes) ≡ Ok (record { form = form; entries = es }, whole_lines []) → r.form ≡ form → r.entries ≡ es
    → AreReported other others → bytes ≡ report_text other others → (r.form ≡ other) × (r.entries ≡ others)
report_only bytes form other es others r read f e fits text =
    let same = (same_report bytes [] other others (record { form = form; entries = es }) fits text read).0 in
    (f ∙ ap (λ (x : Report). x.form) same, e ∙ ap (λ (x : Report). x.entries) same)

pub reports_one_spelling : HasOneSpelling report_lines IsReport
reports_one_spelling = has_one_spelling report_lines IsReport report_at report_reads report_plain
