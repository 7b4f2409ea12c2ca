-- The second line of an entry is read exactly.
use Rattle.std.proofs.Common.{◌≡◌, ℕ, List, [], ◌∷◌, ◌++◌, take, drop, Option, Some, None, refl, sym, ap, subst, ◌∙◌, true, cond, inl, inr}
use Rattle.std.specs.Prelude.{codes, option_map}
use Rattle.std.specs.Str.{bytes_eq}
use Rattle.std.specs.List.{AllByRecursion}
use Rattle.std.proofs.lemmas.List.{take-append-drop}
use Rattle.std.proofs.lemmas.Slice.Eq.{bytes_eq-Decides}
use Rattle.texts.specs.Lines.{words_of}
use Rattle.texts.specs.Words.{◌>>=◌, word_by, behind}
use Rattle.texts.proofs.LineEnds.{IsPlain}
use Rattle.texts.proofs.Parsers.{Parses, parses_word, parses_behind, parses_none, parses_then, parses_as, guard_some, map_some, some_is, IsWord, words_spaced, plain_spaced, ReadsLine, reads_line}
use Rattle.cert_text.proofs.OneWord.{Any, pick, three_of, three_is}
use Rattle.order_reader.specs.Columns.{column_name}
use Rattle.order_reader.specs.Faults.{is_id}
use Rattle.order_reader.specs.declared.fields.Field.{Field}
use Rattle.order_reader.specs.declared.fields.Field.TheVariants.{PalletX, PalletY, CaseX, CaseY, CaseZ, Weight, MaxHeight, MaxWeight, Contact, Support, Cut, Gap}
use Rattle.order_reader.specs.declared.faults.RowFault.{RowFault}
use Rattle.order_reader.specs.declared.faults.RowFault.TheVariants as faults
use Rattle.cert_text.specs.declared.forms.Form.{Form}
use Rattle.plan_entries.specs.Ranges.{has_column, fault_in_range}
use Rattle.report_text.specs.LineTexts.{id_line, fault_words, fault_line}
use Rattle.report_text.specs.Words.{fault_name_of, column_of, fault_of_name, fault_at, fault_of_line, id_of_line, id_if, second_by, second_of}
use Rattle.report_text.specs.declared.faults.FaultName.{FaultName}
use Rattle.report_text.specs.declared.faults.FaultName.TheVariants as names
use Rattle.report_text.specs.declared.seconds.Second.{Second}
use Rattle.report_text.specs.declared.seconds.Second.TheVariants as seconds
use Rattle.report_text.proofs.Columns.{column_back, column_is}

-- ---- the name of a fault

name_text : FaultName → List ℕ
name_text names.FieldCount = codes "FieldCount"
name_text names.BadId = codes "BadId"
name_text names.BadNumber = codes "BadNumber"
name_text names.OutOfRange = codes "OutOfRange"
name_text names.DoesNotFit = codes "DoesNotFit"
name_text names.TooManyCases = codes "TooManyCases"

-- what one of six words says
six_is : {A : Type 0} (text : A → List ℕ) (a1 a2 a3 a4 a5 a6 : A) (w : List ℕ) (a : A)
    → cond (bytes_eq w (text a1)) (Some a1) (cond (bytes_eq w (text a2)) (Some a2) (cond (bytes_eq w (text a3)) (Some a3) (three_of (text a4) (text a5) (text a6) a4 a5 a6 w))) ≡ Some a → w ≡ text a
six_is {A} text a1 a2 a3 a4 a5 a6 w a e =
    elim (pick (bytes_eq w (text a1)) (Some a1) (cond (bytes_eq w (text a2)) (Some a2) (cond (bytes_eq w (text a3)) (Some a3) (three_of (text a4) (text a5) (text a6) a4 a5 a6 w))) (Some a) e) [
      | inl p ↦ (bytes_eq-Decides w (text a1)).0 p.0 ∙ ap text (some_is a1 a p.1)
      | inr q ↦ elim (pick (bytes_eq w (text a2)) (Some a2) (cond (bytes_eq w (text a3)) (Some a3) (three_of (text a4) (text a5) (text a6) a4 a5 a6 w)) (Some a) q.1) [
        | inl p ↦ (bytes_eq-Decides w (text a2)).0 p.0 ∙ ap text (some_is a2 a p.1)
        | inr r ↦ elim (pick (bytes_eq w (text a3)) (Some a3) (three_of (text a4) (text a5) (text a6) a4 a5 a6 w) (Some a) r.1) [
          | inl p ↦ (bytes_eq-Decides w (text a3)).0 p.0 ∙ ap text (some_is a3 a p.1)
          | inr s ↦ three_is text a4 a5 a6 w a s.1
        ]
      ]
    ]

name_parses : Parses (λ k. name_text k ∷ []) Any (word_by fault_name_of)
unfolding name_text
name_parses = parses_word fault_name_of name_text Any back (λ w k e. (tt, six_is name_text names.FieldCount names.BadId names.BadNumber names.OutOfRange names.DoesNotFit names.TooManyCases w k e))
  where
    back : (k : FaultName) → Any k → fault_name_of (name_text k) ≡ Some k
    back names.FieldCount h = refl
    back names.BadId h = refl
    back names.BadNumber h = refl
    back names.OutOfRange h = refl
    back names.DoesNotFit h = refl
    back names.TooManyCases h = refl

abbrev name_key : RowFault → FaultName
name_key faults.FieldCount = names.FieldCount
name_key faults.BadId = names.BadId
name_key (faults.BadNumber field) = names.BadNumber
name_key (faults.OutOfRange field) = names.OutOfRange
name_key faults.DoesNotFit = names.DoesNotFit
name_key faults.TooManyCases = names.TooManyCases

-- ---- the column of a fault

abbrev column_words : RowFault → List (List ℕ)
column_words faults.FieldCount = []
column_words faults.BadId = []
column_words (faults.BadNumber field) = column_name field ∷ []
column_words (faults.OutOfRange field) = column_name field ∷ []
column_words faults.DoesNotFit = []
column_words faults.TooManyCases = []

abbrev column_key : RowFault → Field
column_key faults.FieldCount = PalletX
column_key faults.BadId = PalletX
column_key (faults.BadNumber field) = field
column_key (faults.OutOfRange field) = field
column_key faults.DoesNotFit = PalletX
column_key faults.TooManyCases = PalletX

abbrev pub GoodFault : Form → RowFault → Type 0
GoodFault form fault = fault_in_range form fault ≡ true

abbrev IsFaultOf : Form → FaultName → RowFault → Type 0
IsFaultOf form k fault = GoodFault form fault × (name_key fault ≡ k)

column_parses : (form : Form) → Parses (λ f. column_name f ∷ []) (λ f. has_column form f ≡ true) (word_by (column_of form))
column_parses form = parses_word (column_of form) column_name (λ f. has_column form f ≡ true) (column_back form) (column_is form)

-- a fault without a column
plain_parses : (form : Form) (k : FaultName) (fault : RowFault) (read : List (List ℕ) → Option (RowFault × List (List ℕ)))
    → IsFaultOf form k fault → ((f : RowFault) → IsFaultOf form k f → f ≡ fault) → column_words fault ≡ [] → ((ws : List (List ℕ)) → read ws ≡ Some (fault, ws)) → Parses column_words (IsFaultOf form k) read
plain_parses form k fault read good one none same =
    parses_as (λ f. []) column_words (IsFaultOf form k) (IsFaultOf form k) (λ ws. Some (fault, ws)) read
    (parses_none (IsFaultOf form k) fault good one) (λ f g. g) (λ f g. g) (λ f g. ap column_words (one f g) ∙ none) same

-- a fault with a column
named_parses : (form : Form) (k : FaultName) (with : Field → RowFault) (read : List (List ℕ) → Option (RowFault × List (List ℕ)))
    → ((field : Field) → has_column form field ≡ true → IsFaultOf form k (with field) × (column_key (with field) ≡ field))
    → ((f : RowFault) → IsFaultOf form k f → (f ≡ with (column_key f)) × (has_column form (column_key f) ≡ true) × (column_words f ≡ column_name (column_key f) ∷ []))
    → ((ws : List (List ℕ)) → read ws ≡ (word_by (column_of form) ws >>= λ field. Some (with field.0, field.1))) → Parses column_words (IsFaultOf form k) read
named_parses form k with read made one same =
    parses_as (λ f. column_name (column_key f) ∷ []) column_words (IsFaultOf form k) (IsFaultOf form k)
    (λ ws. word_by (column_of form) ws >>= λ field. Some (with field.0, field.1)) read
    (parses_then (λ f. column_name f ∷ []) (λ f. has_column form f ≡ true) (word_by (column_of form)) column_key (λ f. []) (IsFaultOf form k) (λ field ws. Some (with field, ws))
    (column_parses form)
    (λ field h. parses_none (λ f. IsFaultOf form k f × (column_key f ≡ field)) (with field) (made field h) (λ f g. (one f g.0).0 ∙ ap with g.1))
    (λ f g. (one f g).1))
    (λ f g. g) (λ f g. g) (λ f g. (one f g).2) same

field_count_is : (form : Form) (f : RowFault) → IsFaultOf form names.FieldCount f → f ≡ faults.FieldCount
field_count_is form faults.FieldCount f = refl
field_count_is form faults.BadId f = let e = f.1 in absurd cc
field_count_is form (faults.BadNumber field) f = let e = f.1 in absurd cc
field_count_is form (faults.OutOfRange field) f = let e = f.1 in absurd cc
field_count_is form faults.DoesNotFit f = let e = f.1 in absurd cc
field_count_is form faults.TooManyCases f = let e = f.1 in absurd cc

bad_id_is : (form : Form) (f : RowFault) → IsFaultOf form names.BadId f → f ≡ faults.BadId
bad_id_is form faults.FieldCount f = let e = f.1 in absurd cc
bad_id_is form faults.BadId f = refl
bad_id_is form (faults.BadNumber field) f = let e = f.1 in absurd cc
bad_id_is form (faults.OutOfRange field) f = let e = f.1 in absurd cc
bad_id_is form faults.DoesNotFit f = let e = f.1 in absurd cc
bad_id_is form faults.TooManyCases f = let e = f.1 in absurd cc

not_fit_is : (form : Form) (f : RowFault) → IsFaultOf form names.DoesNotFit f → f ≡ faults.DoesNotFit
not_fit_is form faults.FieldCount f = let e = f.1 in absurd cc
not_fit_is form faults.BadId f = let e = f.1 in absurd cc
not_fit_is form (faults.BadNumber field) f = let e = f.1 in absurd cc
not_fit_is form (faults.OutOfRange field) f = let e = f.1 in absurd cc
not_fit_is form faults.DoesNotFit f = refl
not_fit_is form faults.TooManyCases f = let e = f.1 in absurd cc

too_many_is : (form : Form) (f : RowFault) → IsFaultOf form names.TooManyCases f → f ≡ faults.TooManyCases
too_many_is form faults.FieldCount f = let e = f.1 in absurd cc
too_many_is form faults.BadId f = let e = f.1 in absurd cc
too_many_is form (faults.BadNumber field) f = let e = f.1 in absurd cc
too_many_is form (faults.OutOfRange field) f = let e = f.1 in absurd cc
too_many_is form faults.DoesNotFit f = let e = f.1 in absurd cc
too_many_is form faults.TooManyCases f = refl

bad_number_is : (form : Form) (f : RowFault) → IsFaultOf form names.BadNumber f → (f ≡ faults.BadNumber (column_key f)) × (has_column form (column_key f) ≡ true) × (column_words f ≡ column_name (column_key f) ∷ [])
bad_number_is form faults.FieldCount f = let e = f.1 in absurd cc
bad_number_is form faults.BadId f = let e = f.1 in absurd cc
bad_number_is form (faults.BadNumber field) f = (refl, f.0, refl)
bad_number_is form (faults.OutOfRange field) f = let e = f.1 in absurd cc
bad_number_is form faults.DoesNotFit f = let e = f.1 in absurd cc
bad_number_is form faults.TooManyCases f = let e = f.1 in absurd cc

out_of_range_is : (form : Form) (f : RowFault) → IsFaultOf form names.OutOfRange f → (f ≡ faults.OutOfRange (column_key f)) × (has_column form (column_key f) ≡ true) × (column_words f ≡ column_name (column_key f) ∷ [])
out_of_range_is form faults.FieldCount f = let e = f.1 in absurd cc
out_of_range_is form faults.BadId f = let e = f.1 in absurd cc
out_of_range_is form (faults.BadNumber field) f = let e = f.1 in absurd cc
out_of_range_is form (faults.OutOfRange field) f = (refl, f.0, refl)
out_of_range_is form faults.DoesNotFit f = let e = f.1 in absurd cc
out_of_range_is form faults.TooManyCases f = let e = f.1 in absurd cc

columns_parse : (form : Form) (k : FaultName) → Any k → Parses column_words (IsFaultOf form k) (fault_of_name form k)
unfolding fault_of_name
columns_parse form names.FieldCount h = plain_parses form names.FieldCount faults.FieldCount (fault_of_name form names.FieldCount) (refl, refl) (field_count_is form) refl (λ ws. refl)
columns_parse form names.BadId h = plain_parses form names.BadId faults.BadId (fault_of_name form names.BadId) (refl, refl) (bad_id_is form) refl (λ ws. refl)
columns_parse form names.BadNumber h = named_parses form names.BadNumber (λ field. faults.BadNumber field) (fault_of_name form names.BadNumber) (λ field g. ((g, refl), refl)) (bad_number_is form) (λ ws. refl)
columns_parse form names.OutOfRange h = named_parses form names.OutOfRange (λ field. faults.OutOfRange field) (fault_of_name form names.OutOfRange) (λ field g. ((g, refl), refl)) (out_of_range_is form) (λ ws. refl)
columns_parse form names.DoesNotFit h = plain_parses form names.DoesNotFit faults.DoesNotFit (fault_of_name form names.DoesNotFit) (refl, refl) (not_fit_is form) refl (λ ws. refl)
columns_parse form names.TooManyCases h = plain_parses form names.TooManyCases faults.TooManyCases (fault_of_name form names.TooManyCases) (refl, refl) (too_many_is form) refl (λ ws. refl)

-- ---- the line of a fault

fault_parses : (form : Form) → Parses fault_words (GoodFault form) (fault_at form)
unfolding fault_at name_text
fault_parses form =
    parses_as (λ f. codes "refused" ∷ name_text (name_key f) ∷ column_words f) fault_words (GoodFault form) (GoodFault form)
    (λ ws. behind (codes "refused") ws >>= λ rest. word_by fault_name_of rest >>= λ k. fault_of_name form k.0 k.1) (fault_at form)
    (parses_behind (codes "refused") (λ f. name_text (name_key f) ∷ column_words f) (GoodFault form) (λ rest. word_by fault_name_of rest >>= λ k. fault_of_name form k.0 k.1)
    (parses_then (λ k. name_text k ∷ []) Any (word_by fault_name_of) name_key column_words (GoodFault form) (fault_of_name form) name_parses (columns_parse form) (λ f g. tt)))
    (λ f g. g) (λ f g. g) texts (λ ws. refl)
  where
    texts : (f : RowFault) → GoodFault form f → fault_words f ≡ codes "refused" ∷ name_text (name_key f) ∷ column_words f
    texts faults.FieldCount g = refl
    texts faults.BadId g = refl
    texts (faults.BadNumber field) g = refl
    texts (faults.OutOfRange field) g = refl
    texts faults.DoesNotFit g = refl
    texts faults.TooManyCases g = refl

column_is_word : (field : Field) → IsWord (column_name field)
column_is_word PalletX = refl
column_is_word PalletY = refl
column_is_word CaseX = refl
column_is_word CaseY = refl
column_is_word CaseZ = refl
column_is_word Weight = refl
column_is_word MaxHeight = refl
column_is_word MaxWeight = refl
column_is_word Contact = refl
column_is_word Support = refl
column_is_word Cut = refl
column_is_word Gap = refl

fault_solid : (f : RowFault) → AllByRecursion IsWord (fault_words f)
fault_solid faults.FieldCount = (refl, (refl, tt))
fault_solid faults.BadId = (refl, (refl, tt))
fault_solid (faults.BadNumber field) = (refl, (refl, (column_is_word field, tt)))
fault_solid (faults.OutOfRange field) = (refl, (refl, (column_is_word field, tt)))
fault_solid faults.DoesNotFit = (refl, (refl, tt))
fault_solid faults.TooManyCases = (refl, (refl, tt))

pub fault_plain : (f : RowFault) → IsPlain (fault_line f)
fault_plain f = plain_spaced (fault_words f) (fault_solid f)

words_back : (f : RowFault) → words_of (fault_line f) ≡ fault_words f
words_back faults.FieldCount = refl
words_back faults.BadId = refl
words_back (faults.BadNumber field) = words_spaced (codes "refused") (codes "BadNumber" ∷ column_name field ∷ []) (fault_solid (faults.BadNumber field))
words_back (faults.OutOfRange field) = words_spaced (codes "refused") (codes "OutOfRange" ∷ column_name field ∷ []) (fault_solid (faults.OutOfRange field))
words_back faults.DoesNotFit = refl
words_back faults.TooManyCases = refl

fault_reads : (form : Form) → ReadsLine fault_line (GoodFault form) (fault_of_line form)
unfolding fault_of_line
fault_reads form = reads_line fault_words (GoodFault form) (fault_at form) (fault_parses form) (λ f g. words_back f)

-- ---- an id or a fault

abbrev pub second_line : Second → List ℕ
second_line (seconds.Id id) = id_line id
second_line (seconds.Fault fault) = fault_line fault

abbrev pub GoodSecond : Form → Second → Type 0
GoodSecond form (seconds.Id id) = is_id id ≡ true
GoodSecond form (seconds.Fault fault) = GoodFault form fault

no_id : (f : RowFault) → id_of_line (fault_line f) ≡ None
unfolding id_of_line
no_id faults.FieldCount = refl
no_id faults.BadId = refl
no_id (faults.BadNumber field) = refl
no_id (faults.OutOfRange field) = refl
no_id faults.DoesNotFit = refl
no_id faults.TooManyCases = refl

second_back : (form : Form) (s : Second) → GoodSecond form s → second_of form (second_line s) ≡ Some s
unfolding second_of id_of_line
second_back form (seconds.Id id) g = rw g refl
second_back form (seconds.Fault f) g =
    ap (λ (o : Option (List ℕ)). second_by o (fault_of_line form (fault_line f))) (no_id f) ∙ ap (option_map (λ x. seconds.Fault x)) ((fault_reads form).back f g)

id_front : (line id : List ℕ) → id_of_line line ≡ Some id → line ≡ codes "id " ++ id
unfolding id_of_line
id_front line id h =
    let g = guard_some (bytes_eq (take 3 line) (codes "id ")) (drop 3 line) id h in
    sym (take-append-drop 3 line) ∙ ap (λ (t : List ℕ). t ++ drop 3 line) ((bytes_eq-Decides (take 3 line) (codes "id ")).0 g.0) ∙ ap (λ (t : List ℕ). codes "id " ++ t) g.1

second_by_is : (form : Form) (line : List ℕ) (s : Second) (o : Option (List ℕ)) → id_of_line line ≡ o → second_by o (fault_of_line form line) ≡ Some s → GoodSecond form s × (line ≡ second_line s)
second_by_is form line s None h f =
    let m = map_some (fault_of_line form line) (λ x. seconds.Fault x) s f in
    let r = (fault_reads form).only line m.0 m.1 in
    subst (λ (t : Second). GoodSecond form t × (line ≡ second_line t)) m.2 (r.0, r.1)
second_by_is form line s (Some id) h f =
    let m = map_some (id_if id) (λ x. seconds.Id x) s f in
    let g = guard_some (is_id id) id m.0 m.1 in
    subst (λ (t : Second). GoodSecond form t × (line ≡ second_line t)) (ap (λ (x : List ℕ). seconds.Id x) g.1 ∙ m.2) (g.0, id_front line id h)

second_only : (form : Form) (line : List ℕ) (s : Second) → second_of form line ≡ Some s → GoodSecond form s × (line ≡ second_line s)
unfolding second_of
second_only form line s e = second_by_is form line s (id_of_line line) refl e

pub second_reads : (form : Form) → ReadsLine second_line (GoodSecond form) (second_of form)
second_reads form = record { back = second_back form; only = second_only form }
