-- Number columns by their names, and an instance by its numbers.
use Rattle.std.proofs.Common.{◌≡◌, ℕ, Bool, true, false, List, [], ◌∷◌, Option, Some, None, refl, sym, ap, ◌∙◌, inl, inr}
use Rattle.std.specs.Prelude.{◌↔◌, IsSome, IfSome, find}
use Rattle.std.specs.Str.{bytes_eq}
use Rattle.std.specs.List.{list_all}
use Rattle.std.proofs.lemmas.Bool.{cases_Bool, le-leb, false≢true}
use Rattle.std.proofs.lemmas.Slice.Eq.{bytes_eq-Decides}
use Rattle.texts.proofs.Parsers.{both_true, some_is}
use Rattle.plan_geometry.proofs.Same.{Inst-same}
use Rattle.plan_geometry.specs.Sides.{AreSides}
use Rattle.plan_geometry.specs.declared.instances.Inst.{Inst}
use Rattle.order_reader.specs.Columns.{column_name, columns_before_gap, all_columns}
use Rattle.order_reader.specs.declared.fields.Field.{Field}
use Rattle.order_reader.specs.declared.fields.Field.TheVariants.{PalletX, PalletY, CaseX, CaseY, CaseZ, Weight, MaxHeight, MaxWeight, Contact, Support, Cut, Gap}
use Rattle.cert_text.specs.declared.forms.Form.{Form}
use Rattle.cert_text.specs.declared.forms.Form.TheVariants.{One, Two}
use Rattle.plan_entries.specs.Ranges.{has_column}
use Rattle.report_text.specs.Sides.{are_sides, sides_hold, inst_by, inst_of}
use Rattle.report_text.specs.Words.{columns_named, column_of}

-- ---- columns

-- what is found passes, and is one of those that were searched
find_passes : {X : Type 0} (p q : X → Bool) (xs : List X) (x : X) → list_all q xs ≡ true → find p xs ≡ Some x → (p x ≡ true) × (q x ≡ true)
find_passes p q [] x all e = absurd cc
find_passes {X} p q (y ∷ ys) x all e =
    let parts = both_true (q y) (list_all q ys) all in
    elim (cases_Bool (p y)) [
      | inl is ↦
          let same : y ≡ x = some_is y x (rw is at e) in
          (ap p (sym same) ∙ is, ap q (sym same) ∙ parts.0)
      | inr is ↦ find_passes p q ys x parts.1 (rw is at e)
    ]

pub column_back : (form : Form) (field : Field) → has_column form field ≡ true → column_of form (column_name field) ≡ Some field
unfolding columns_before_gap all_columns
column_back One PalletX h = refl
column_back One PalletY h = refl
column_back One CaseX h = refl
column_back One CaseY h = refl
column_back One CaseZ h = refl
column_back One Weight h = refl
column_back One MaxHeight h = refl
column_back One MaxWeight h = refl
column_back One Contact h = refl
column_back One Support h = refl
column_back One Cut h = refl
column_back One Gap h = absurd cc
column_back Two PalletX h = refl
column_back Two PalletY h = refl
column_back Two CaseX h = refl
column_back Two CaseY h = refl
column_back Two CaseZ h = refl
column_back Two Weight h = refl
column_back Two MaxHeight h = refl
column_back Two MaxWeight h = refl
column_back Two Contact h = refl
column_back Two Support h = refl
column_back Two Cut h = refl
column_back Two Gap h = refl

all_stand : (form : Form) → list_all (has_column form) (columns_named form) ≡ true
unfolding columns_before_gap all_columns
all_stand One = refl
all_stand Two = refl

pub column_is : (form : Form) (w : List ℕ) (field : Field) → column_of form w ≡ Some field → (has_column form field ≡ true) × (w ≡ column_name field)
column_is form w field e =
    let p = find_passes (λ f. bytes_eq (column_name f) w) (has_column form) (columns_named form) field (all_stand form) e in
    (p.1, sym ((bytes_eq-Decides (column_name field) w).0 p.0))

-- where no column can be found, none is
absent : (o : Option Field) → ((field : Field) → o ≡ Some field → ⊥) → None ≡ o
absent None h = refl
absent (Some field) h = absurd (h field refl)

pub no_column : (form : Form) (name : List ℕ) → ((field : Field) → column_name field ≡ name → has_column form field ≡ true → ⊥) → None ≡ column_of form name
no_column form name none = absent (column_of form name) (λ field e. let i = column_is form name field e in none field (sym i.1) i.0)

pub this_column : (form : Form) (name : List ℕ) (field : Field) → column_name field ≡ name → has_column form field ≡ true → Some field ≡ column_of form name
this_column form name field is stands = sym (ap (column_of form) (sym is) ∙ column_back form field stands)

-- ---- instances

pub sides_pass : (l_side w_side long short : ℕ) → AreSides l_side w_side long short → are_sides l_side w_side long short ≡ true
sides_pass l_side w_side long short s =
    rw (le-leb 1 short s.short_min, le-leb short long s.ordered, le-leb long 4000 s.long_max, le-leb 1 l_side s.l_min, le-leb l_side 4000 s.l_max, le-leb 1 w_side s.w_min, le-leb w_side 4000 s.w_max) refl

abbrev pub HasNumbers : ℕ → ℕ → ℕ → ℕ → Inst → Type 0
HasNumbers l_side w_side long short i = (i.l_side ≡ l_side) × (i.w_side ≡ w_side) × (i.long ≡ long) × (i.short ≡ short)

none_passes : (l_side w_side long short : ℕ) (passed : Bool) (sides : passed ≡ true → AreSides l_side w_side long short) → (AreSides l_side w_side long short → ⊥) → None ≡ inst_by l_side w_side long short passed sides
none_passes l_side w_side long short true sides never = absurd (never (sides refl))
none_passes l_side w_side long short false sides never = refl

some_passes : (l_side w_side long short : ℕ) (passed : Bool) (sides : passed ≡ true → AreSides l_side w_side long short) (i : Inst) → passed ≡ true → HasNumbers l_side w_side long short i → Some i ≡ inst_by l_side w_side long short passed sides
some_passes l_side w_side long short true sides i p h =
    ap (λ (j : Inst). Some j) (Inst-same i (record { l_side = l_side; w_side = w_side; long = long; short = short; sides = sides refl }) h.0 h.1 h.2 h.3)
some_passes l_side w_side long short false sides i p h = absurd cc

-- the instance of numbers, by what tells of it
pub inst_back : (l_side w_side long short : ℕ) (i : Inst) → HasNumbers l_side w_side long short i → inst_of l_side w_side long short ≡ Some i
unfolding inst_of
inst_back l_side w_side long short i h =
    let s : AreSides l_side w_side long short = rw (← h.0, ← h.1, ← h.2, ← h.3) i.sides in
    sym (some_passes l_side w_side long short (are_sides l_side w_side long short) (sides_hold l_side w_side long short) i (sides_pass l_side w_side long short s) h)

pub inst_is : (l_side w_side long short : ℕ) (o : Option Inst) → (IsSome o ↔ AreSides l_side w_side long short) → IfSome o (λ i. (i.l_side ≡ l_side) × (i.w_side ≡ w_side) × (i.long ≡ long) × (i.short ≡ short)) → o ≡ inst_of l_side w_side long short
unfolding inst_of
inst_is l_side w_side long short None accepted numbers =
    none_passes l_side w_side long short (are_sides l_side w_side long short) (sides_hold l_side w_side long short) (λ s. false≢true (accepted.1 s))
inst_is l_side w_side long short (Some i) accepted numbers = sym (inst_back l_side w_side long short i numbers)

inst_has : (l_side w_side long short : ℕ) (passed : Bool) (sides : passed ≡ true → AreSides l_side w_side long short) (i : Inst) → inst_by l_side w_side long short passed sides ≡ Some i → HasNumbers l_side w_side long short i
inst_has l_side w_side long short true sides i e =
    let same = some_is (record { l_side = l_side; w_side = w_side; long = long; short = short; sides = sides refl }) i e in
    (ap (λ (j : Inst). j.l_side) (sym same), ap (λ (j : Inst). j.w_side) (sym same), ap (λ (j : Inst). j.long) (sym same), ap (λ (j : Inst). j.short) (sym same))
inst_has l_side w_side long short false sides i e = absurd cc

pub inst_takes : (l_side w_side long short : ℕ) (i : Inst) → inst_of l_side w_side long short ≡ Some i → HasNumbers l_side w_side long short i
unfolding inst_of
inst_takes l_side w_side long short i e = inst_has l_side w_side long short (are_sides l_side w_side long short) (sides_hold l_side w_side long short) i e
