use Rattle.std.proofs.Common.{◌∙◌, Bor, List, ℕ, map, ap}
use Rattle.csv.specs.Records.{fields_of}
use Rattle.order_reader.specs.Columns.{same_fields}
use Rattle.case_design.specs.Columns.{header}
use Rattle.case_design.proofs.columns.is_header.Goals as goal

pub returns : goal.returns
unfolding header
returns c = c.has_fields.ensures ∙ ap (λ (names : List (Bor (List ℕ))). same_fields (fields_of c.args.fields.now) (map (λ (f : Bor (List ℕ)). f.now) names)) c.as_slice.ensures
