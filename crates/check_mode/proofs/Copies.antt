-- The texts of entries.
use Rattle.std.proofs.Common.{◌≡◌, ◌∙◌, List, [], ◌∷◌, ◌++◌, ap}
use Rattle.std.specs.Prelude.{OnOk, Result, Ok, Err}
use Rattle.std.proofs.lemmas.List.{append-nil}
use Rattle.std.proofs.lemmas.Grind.{flat_map-append}
use Rattle.cert_text.specs.declared.forms.Form.TheVariants.{Two}
use Rattle.plan_entries.specs.declared.entries.Entry.{Entry}
use Rattle.report_text.specs.Text.{entry_text}
use Rattle.report_text.specs.Reports.{entries_text}

pub copies-more : (before : List Entry) (e : Entry) → entries_text Two (before ++ e ∷ []) ≡ entries_text Two before ++ entry_text Two e
copies-more before e = flat_map-append (entry_text Two) before (e ∷ []) ∙ ap (λ t. entries_text Two before ++ t) (append-nil (entry_text Two e))

-- what is so where a call answered Ok follows from what is so then
pub on-ok : {X E : Type 0} {P Q : Type 0} (r : Result X E) → (P → Q) → OnOk r P → OnOk r Q
on-ok (Ok x) f h = f h
on-ok (Err e) f h = h
