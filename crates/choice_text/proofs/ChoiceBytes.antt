-- What reading the text of a choice says of the bytes.
use Rattle.std.proofs.Common.{◌≡◌, ℕ, ◌≤◌, ◌+◌, List, [], ◌∷◌, ◌++◌, length, Ok, Err, refl, sym, ap, ◌∙◌, append_assoc, arith}
use Rattle.std.specs.Prelude.{codes}
use Rattle.std.specs.List.{AllByRecursion}
use Rattle.std.proofs.lemmas.List.{append-nil, length-append}
use Rattle.std.proofs.lemmas.List.Concat.{flat_map-cons, flat_map-append}
use Rattle.texts.specs.Lines.{ended, text_of, whole_lines, unfinished}
use Rattle.texts.specs.Grammar.{NoneGoesOn}
use Rattle.texts.specs.Spelling.{FaultsAt, HasOneSpelling}
use Rattle.texts.proofs.LineEnds.{IsPlain}
use Rattle.texts.proofs.Parsers.{plain_spaced}
use Rattle.texts.proofs.Readers.{one_spelling}
use Rattle.texts.proofs.Bytes.{Got, got, no_fault, Stopped, stopped, has_one_spelling}
use Rattle.cert_text.specs.declared.forms.Form.TheVariants.{Two}
use Rattle.listing_text.proofs.LayerReaders.{all_both}
use Rattle.listing_text.proofs.Lengths.{lines_within}
use Rattle.plan_entries.specs.declared.entries.Entry.{Entry}
use Rattle.pallet_choice.specs.Text.{tail_lines, tail_text}
use Rattle.pallet_choice.proofs.TailLines.{tail_plain}
use Rattle.pallet_choice.proofs.Lengths.{tail_short}
use Rattle.report_text.specs.Text.{entry_lines, entry_text}
use Rattle.report_text.specs.Reports.{Report, done_line, done_text, entries_lines, entries_text}
use Rattle.report_text.proofs.ReportReaders.{report_plain, few_report_lines}
use Rattle.choice_text.specs.Text.{ChoiceFile, head_line, head_text, file_lines, file_text, IsChoiceFile, IsChoiceIn}
use Rattle.choice_text.specs.Lines.{file_at}
use Rattle.choice_text.proofs.ChoiceReaders.{file_reads}

-- ---- a choice's text is that of its lines

entries_text_is : (es : List Entry) → text_of (entries_lines Two es) ≡ entries_text Two es
entries_text_is [] = refl
entries_text_is (e ∷ es) =
    ap text_of (flat_map-cons (entry_lines Two) e es) ∙ flat_map-append ended (entry_lines Two e) (entries_lines Two es) ∙ ap (λ (t : List ℕ). entry_text Two e ++ t) (entries_text_is es) ∙ sym (flat_map-cons (entry_text Two) e es)

pub file_text_is : (f : ChoiceFile) → text_of (file_lines f) ≡ file_text f
file_text_is f =
    let done = done_line (length f.entries) ∷ [] in
    flat_map-cons ended head_line (entries_lines Two f.entries ++ (tail_lines f.tail ++ done))
    ∙ ap (λ (t : List ℕ). head_text ++ t) (flat_map-append ended (entries_lines Two f.entries) (tail_lines f.tail ++ done)
    ∙ ap (λ (t : List ℕ). t ++ text_of (tail_lines f.tail ++ done)) (entries_text_is f.entries)
    ∙ ap (λ (t : List ℕ). entries_text Two f.entries ++ t) (flat_map-append ended (tail_lines f.tail) done ∙ ap (λ (t : List ℕ). tail_text f.tail ++ t) (append-nil (done_text (length f.entries)))))

-- ---- no line has an end inside, and there are few

abbrev report_of : ChoiceFile → Report
report_of f = record { form = Two; entries = f.entries }

parted : (xs ys : List (List ℕ)) → AllByRecursion IsPlain (xs ++ ys) → AllByRecursion IsPlain xs × AllByRecursion IsPlain ys
parted [] ys f = (tt, f)
parted (x ∷ xs) ys f = let p = parted xs ys f.1 in ((f.0, p.0), p.1)

pub file_plain : (f : ChoiceFile) → IsChoiceFile f → AllByRecursion IsPlain (file_lines f)
file_plain f h =
    let p = parted (entries_lines Two f.entries) (done_line (length f.entries) ∷ []) (report_plain (report_of f) h.reported).1 in
    let end = all_both IsPlain (tail_lines f.tail) (done_line (length f.entries) ∷ []) (tail_plain f.tail h.is_tail) p.1 in
    (plain_spaced (codes "pallet-choice" ∷ codes "1" ∷ []) (refl, (refl, tt)), all_both IsPlain (entries_lines Two f.entries) (tail_lines f.tail ++ done_line (length f.entries) ∷ []) p.0 end)

few_file_lines : (f : ChoiceFile) → IsChoiceFile f → length (file_lines f) ≤ 31000000
few_file_lines f h =
    let report = few_report_lines (report_of f) h.reported in
    let tail = lines_within (tail_lines f.tail) in
    let tail_bytes = tail_short f.tail h.is_tail in
    let a = length-append (entries_lines Two f.entries) (done_line (length f.entries) ∷ []) in
    let b = length-append (entries_lines Two f.entries) (tail_lines f.tail ++ done_line (length f.entries) ∷ []) in
    let c = length-append (tail_lines f.tail) (done_line (length f.entries) ∷ []) in
    omega arith

-- ---- what reading says

pub got_file : (bytes rest : List ℕ) (f : ChoiceFile) → file_at (whole_lines bytes) ≡ Ok (f, whole_lines rest) → unfinished rest ≡ unfinished bytes → Got file_lines IsChoiceFile file_at file_reads file_plain bytes rest f
got_file = got file_lines IsChoiceFile file_at file_reads file_plain

pub files_one_spelling : HasOneSpelling file_lines IsChoiceFile
files_one_spelling = has_one_spelling file_lines IsChoiceFile file_at file_reads file_plain

pub file_found : (bytes rest : List ℕ) (f : ChoiceFile) → file_at (whole_lines bytes) ≡ Ok (f, whole_lines rest) → unfinished rest ≡ unfinished bytes → rest ≡ [] → IsChoiceIn bytes f
file_found bytes rest f e u nil =
    let g = got_file bytes rest f e u in
    record { is_file = g.fits; text = g.parts ∙ ap (λ (t : List ℕ). text_of (file_lines f) ++ t) nil ∙ append-nil (text_of (file_lines f)) ∙ file_text_is f }

whole_text_of : (bytes : List ℕ) (f : ChoiceFile) → bytes ≡ file_text f → bytes ≡ text_of (file_lines f) ++ []
whole_text_of bytes f e = e ∙ sym (file_text_is f) ∙ sym (append-nil (text_of (file_lines f)))

-- what was read is the choice whose text the bytes are, and leaves nothing
pub this_file : (bytes rest : List ℕ) (f g : ChoiceFile) → file_at (whole_lines bytes) ≡ Ok (f, whole_lines rest) → unfinished rest ≡ unfinished bytes → IsChoiceFile g → bytes ≡ file_text g → (f ≡ g) × (rest ≡ [])
this_file bytes rest f g e u fits text =
    let h = got_file bytes rest f e u in
    files_one_spelling f g rest [] h.fits fits (sym h.parts ∙ whole_text_of bytes g text)

-- ---- faults

pub file_stopped : (bytes : List ℕ) (left : ℕ) → file_at (whole_lines bytes) ≡ Err left → Stopped file_lines IsChoiceFile file_at file_reads file_plain bytes 31000000 left
file_stopped bytes left e = stopped file_lines IsChoiceFile file_at file_reads file_plain bytes 31000000 left few_file_lines e

pub faults_at : (bytes : List ℕ) (left number : ℕ) → file_at (whole_lines bytes) ≡ Err left → number + left ≡ length (whole_lines bytes) + 1 → FaultsAt file_lines IsChoiceFile bytes number
faults_at bytes left number e n =
    let s = file_stopped bytes left e in
    let c = s.count in
    record { before = s.front; rest = s.rest; stops = s.stops; number_is = omega arith }

pub no_file_fault : (bytes : List ℕ) (f : ChoiceFile) (left : ℕ) → IsChoiceFile f → bytes ≡ file_text f → file_at (whole_lines bytes) ≡ Err left → ⊥
no_file_fault bytes f left fits e h = no_fault file_lines IsChoiceFile file_at file_reads file_plain bytes [] f left fits (whole_text_of bytes f e) h

-- something stands after it: no choice's text goes on there
none_goes_on : (f : ChoiceFile) (rest : List (List ℕ)) → IsChoiceFile f → NoneGoesOn file_lines IsChoiceFile (file_lines f) rest
none_goes_on f [] fits = tt
none_goes_on f (x ∷ rest) fits = λ h.
    let e : file_lines h.value ++ [] ≡ file_lines f ++ (x ∷ h.more) = append-nil (file_lines h.value) ∙ h.whole ∙ append_assoc (file_lines f) (x ∷ []) h.more in
    let same = one_spelling file_lines IsChoiceFile file_at file_reads h.value f [] (x ∷ h.more) h.fits fits e in
    let none = same.1 in
    absurd cc

-- the lines of the text in front, and those that are left
pub record FrontLines (bytes rest : List ℕ) : Type 0 where
  pub within : length (whole_lines rest) ≤ length (whole_lines bytes)
  pub few : length (whole_lines bytes) ≤ length (whole_lines rest) + 31000000
  pub faults : (number : ℕ) → number + length (whole_lines rest) ≡ length (whole_lines bytes) + 1 → FaultsAt file_lines IsChoiceFile bytes number

pub front_lines : (bytes rest : List ℕ) (f : ChoiceFile) → file_at (whole_lines bytes) ≡ Ok (f, whole_lines rest) → FrontLines bytes rest
front_lines bytes rest f e =
    let t = file_reads.takes (whole_lines bytes) f (whole_lines rest) e in
    let len : length (whole_lines bytes) ≡ length (file_lines f) + length (whole_lines rest) = ap length t.1 ∙ length-append (file_lines f) (whole_lines rest) in
    let few = few_file_lines f t.0 in
    record {
      within = omega arith;
      few = omega arith;
      faults = λ number n. record {
        before = file_lines f;
        rest = whole_lines rest;
        stops = record { parts = t.1; begun = record { value = f; fits = t.0; more = []; whole = sym (append-nil (file_lines f)) }; ends = none_goes_on f (whole_lines rest) t.0 };
        number_is = omega arith;
      };
    }
