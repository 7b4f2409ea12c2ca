-- What `plan` writes for each entry: its text, and, where drawings are asked for, the drawing of a plan behind it.
use Rattle.std.specs.Prelude.{ℕ, ◌≡◌, ◌==◌, Bool, true, false, ⊤, List, [], ◌∷◌, ◌++◌, length, codes}
use Rattle.std.specs.List.{flat_map}
use Rattle.texts.specs.Lines.{ended}
use Rattle.plan_geometry.specs.declared.spots.Spot.{Spot}
use Rattle.plan_geometry.specs.declared.instances.Inst.{Inst}
use Rattle.plan_geometry.specs.Layout.{IsInOrder}
use Rattle.layout_map.specs.Chains.{IsMapped}
use Rattle.order_reader.specs.Instances.{IsGivenOf}
use Rattle.cert_text.specs.declared.forms.Form.TheVariants.{Two}
use Rattle.layer_drawing.specs.Drawing.{drawing_text}
use Rattle.plan_entries.specs.declared.entries.Plan.{Plan}
use Rattle.plan_entries.specs.declared.entries.Entry.{Entry}
use Rattle.plan_entries.specs.declared.entries.Entry.TheVariants.{Planned, Refused}
use Rattle.plan_entries.specs.Entries.{first_spots}
use Rattle.plan_soundness.specs.Sound.{IsSound}
use Rattle.report_text.specs.Text.{entry_text}
use Rattle.report_text.specs.Reports.{head_text, done_text, report_text}

-- where the entry is a plan, it is sound
abbrev pub IsSoundEntry : Entry → Type 0
IsSoundEntry (Planned p) = IsSound p
IsSoundEntry (Refused n fault) = ⊤

-- the drawing of a plan: that of its first layer, mapped to the instance that was planned
pub record IsDrawingOf (p : Plan) (drawing : List ℕ) : Type 0 where
  pub given : Inst
  pub is_given : IsGivenOf p.order given
  pub spots : List Spot
  pub mapped : IsMapped given (first_spots p.layers) p.reduced spots
  pub in_order : IsInOrder spots
  pub text : drawing ≡ drawing_text p.reduced spots

-- what stands behind the text of an entry: the drawing of a plan, where drawings are asked for, and else nothing
abbrev pub IsPlanTail : Bool → Plan → List ℕ → Type 0
IsPlanTail false p tail = tail ≡ []
IsPlanTail true p tail = IsDrawingOf p tail

abbrev pub IsTailOf : Bool → Entry → List ℕ → Type 0
IsTailOf draw (Planned p) tail = IsPlanTail draw p tail
IsTailOf draw (Refused n fault) tail = tail ≡ []

-- the text of an entry, and what stands behind it
pub record IsPieceOf (draw : Bool) (e : Entry) (piece : List ℕ) : Type 0 where
  pub tail : List ℕ
  pub is_tail : IsTailOf draw e tail
  pub piece_is : piece ≡ entry_text Two e ++ tail

-- a piece for each entry, in order
abbrev pub ArePieces : Bool → List Entry → List (List ℕ) → Type 0
ArePieces draw [] [] = ⊤
ArePieces draw [] (t ∷ ts) = ⊥
ArePieces draw (e ∷ es) [] = ⊥
ArePieces draw (e ∷ es) (t ∷ ts) = IsPieceOf draw e t × ArePieces draw es ts

abbrev pub joined : List (List ℕ) → List ℕ
joined pieces = flat_map (λ piece. piece) pieces

-- the first line: that of a report, or of a report with drawings
abbrev pub drawn_head_line : List ℕ
drawn_head_line = codes "pallet-drawing 1"

abbrev pub head_of : Bool → List ℕ
head_of false = head_text Two
head_of true = ended drawn_head_line

-- the whole text of these entries
pub record IsTextOf (draw : Bool) (entries : List Entry) (text : List ℕ) : Type 0 where
  pub pieces : List (List ℕ)
  pub are_pieces : ArePieces draw entries pieces
  pub text_is : text ≡ head_of draw ++ (joined pieces ++ done_text (length entries))

-- without drawings, the text is that of the report of these entries, which `check` reads
abbrev pub IsPlainReport : Bool → List Entry → List ℕ → Type 0
IsPlainReport false entries text = text ≡ report_text Two entries
IsPlainReport true entries text = ⊤

-- the text of the entries of some of so many rows: the last line only where each row has its entry
abbrev pub done_if : Bool → ℕ → List ℕ
done_if true count = done_text count
done_if false count = []

pub record IsBegunText (draw : Bool) (rows : ℕ) (entries : List Entry) (text : List ℕ) : Type 0 where
  pub pieces : List (List ℕ)
  pub are_pieces : ArePieces draw entries pieces
  pub text_is : text ≡ head_of draw ++ (joined pieces ++ done_if (length entries == rows) rows)

-- the first line and the entries' pieces, without the last line
pub record IsBrokenText (draw : Bool) (entries : List Entry) (text : List ℕ) : Type 0 where
  pub pieces : List (List ℕ)
  pub are_pieces : ArePieces draw entries pieces
  pub text_is : text ≡ head_of draw ++ joined pieces
