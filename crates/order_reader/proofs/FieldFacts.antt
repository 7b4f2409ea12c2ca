-- Columns by their names.
use Rattle.std.proofs.Common.{◌≡◌, ℕ, Bool, true, false, List, [], ◌∷◌, Some, refl}
use Rattle.std.specs.Prelude.{find, if◌then◌else◌, IfSome}
use Rattle.std.specs.Str.{bytes_eq}
use Rattle.std.proofs.lemmas.Slice.Eq.{bytes_eq-Decides}
use Rattle.order_reader.specs.declared.fields.Field.{Field}
use Rattle.order_reader.specs.declared.fields.Field.TheVariants.{PalletX, PalletY, CaseX, CaseY, CaseZ, Weight, MaxHeight, MaxWeight, Contact, Support, Cut, Gap}
use Rattle.order_reader.specs.Columns.{column_name, all_columns}

-- each column is the only one of its name
pub own-named : (field : Field) → find (λ f. bytes_eq (column_name f) (column_name field)) all_columns ≡ Some field
unfolding all_columns
own-named PalletX = refl
own-named PalletY = refl
own-named CaseX = refl
own-named CaseY = refl
own-named CaseZ = refl
own-named Weight = refl
own-named MaxHeight = refl
own-named MaxWeight = refl
own-named Contact = refl
own-named Support = refl
own-named Cut = refl
own-named Gap = refl

pub found-named : (name : List ℕ) (columns : List Field) → IfSome (find (λ f. bytes_eq (column_name f) name) columns) (λ field. column_name field ≡ name)
found-named name [] = tt
found-named name (f ∷ fs) = by (bytes_eq (column_name f) name) refl (found-named name fs)
  where
    by : (b : Bool) → bytes_eq (column_name f) name ≡ b → IfSome (find (λ f. bytes_eq (column_name f) name) fs) (λ field. column_name field ≡ name)
        → IfSome (if b then Some f else find (λ f. bytes_eq (column_name f) name) fs) (λ field. column_name field ≡ name)
    by true is rest = (bytes_eq-Decides (column_name f) name).0 is
    by false is rest = rest
