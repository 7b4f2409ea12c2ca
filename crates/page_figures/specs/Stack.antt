-- The picture of a stack, which is made of its layers' symbols.
use Rattle.std.specs.Prelude.{ℕ, ◌+◌, ◌-◌, ◌*◌, ◌/◌, ◌==◌, List, ◌++◌, length, slice_index, min, codes, decimal, nat_lt, if◌then◌else◌}
use Rattle.plan_entries.specs.declared.listed.Listed.{Listed}
use Rattle.page_pieces.specs.Pieces.{numbered}
use Rattle.page_figures.specs.declared.sides.Sides.{Sides}
use Rattle.page_figures.specs.Slabs.{slabs_text}

-- how many layers a picture shows in full; of a higher stack it shows the first and the last, and a break between them that is as high as a layer
abbrev pub most_drawn : ℕ
most_drawn = 60

-- how many layers high the picture is
abbrev pub drawn_layers : ℕ → ℕ
drawn_layers count = if nat_lt most_drawn count then 3 else count

-- how high so many layers are
abbrev pub height_of : Sides → ℕ → ℕ
height_of s layers = 10 * s.height * layers

-- what is left free round the picture
abbrev pub margin : Sides → ℕ
margin s = s.pallet_x / 4 + 1

-- 1 layer, 2 layers
abbrev pub layers_word : ℕ → List ℕ
layers_word count = if count == 1 then codes " layer" else codes " layers"

-- the frame: the margin, the pallet's width and depth, and the stack's height
abbrev pub frame_text : Sides → ℕ → ℕ → List ℕ
frame_text s edge high =
    codes "<figure class=\"stack\"><svg role=\"img\" class=\"stack\" viewBox=\"-" ++ (decimal edge ++ (codes " -" ++ (decimal (high + 3 * s.pallet_y + edge) ++ (codes " " ++ (decimal (10 * s.pallet_x + 4 * s.pallet_y + 2 * edge) ++ (codes " " ++ (decimal (high + 3 * s.pallet_y + 2 * edge) ++ codes "\"><title>The stack</title>")))))))

unfoldable pub stack_frame : Sides → ℕ → List ℕ
stack_frame s count = frame_text s (margin s) (height_of s (drawn_layers count))

-- what the picture is of
unfoldable pub stack_words : ℕ → List ℕ
stack_words count = codes "<desc>" ++ (decimal count ++ (layers_word count ++ codes ", seen from the front and the right</desc><defs>\n"))

-- the pallet, from above
abbrev pub floor_text : Sides → List ℕ
floor_text s =
    codes "</defs><path class=\"pallet\" d=\"M0 0h" ++ (decimal (10 * s.pallet_x) ++ (codes "l" ++ (decimal (4 * s.pallet_y) ++ (codes " -" ++ (decimal (3 * s.pallet_y) ++ (codes "h-" ++ (decimal (10 * s.pallet_x) ++ codes "z\"/>\n")))))))

-- the frame, and what the picture is of
unfoldable pub stack_head : Sides → ℕ → List ℕ
stack_head s count = stack_frame s count ++ stack_words count

-- the symbols of all forms, and the pallet
unfoldable pub stack_ground : Sides → ℕ → List Listed → List ℕ
stack_ground s sheet layers = slabs_text s sheet layers ++ floor_text s

-- a form's symbol, raised so high
abbrev pub use_text : ℕ → ℕ → ℕ → List ℕ
use_text sheet form up = codes "<use href=\"#form-" ++ (decimal sheet ++ (codes "-" ++ (decimal form ++ (codes "\" y=\"-" ++ (decimal up ++ codes "\"/>\n")))))

-- the layer of this place in the stack, counted from 1 at the pallet: it stands on the layers below it
unfoldable pub layer_text : Sides → ℕ → ℕ → ℕ → List ℕ
layer_text s sheet place form = use_text sheet form (height_of s (place - 1))

-- each layer, from the lowest up
unfoldable pub each_layer : Sides → ℕ → List ℕ → List ℕ
each_layer s sheet numbers = numbered (layer_text s sheet) 1 numbers

-- a mark on the first layer, as high as a layer: the front and the right side of those that are left out
unfoldable pub break_mark : Sides → List ℕ
break_mark s =
    codes "<path class=\"break\" d=\"M0 -" ++ (decimal (10 * s.height) ++ (codes "v-" ++ (decimal (10 * s.height) ++ (codes "h" ++ (decimal (10 * s.pallet_x) ++ (codes "l" ++ (decimal (4 * s.pallet_y) ++ (codes " -" ++ (decimal (3 * s.pallet_y) ++ (codes "v" ++ (decimal (10 * s.height) ++ (codes "l-" ++ (decimal (4 * s.pallet_y) ++ (codes " " ++ (decimal (3 * s.pallet_y) ++ codes "z\"/>")))))))))))))))

-- letters that fit the mark's front, for some twenty of them
abbrev pub letters : Sides → ℕ
letters s = min (s.pallet_x / 2) (8 * s.height)

-- how many are left out, in the middle of the mark's front
abbrev pub break_words : Sides → ℕ → ℕ → List ℕ
break_words s size between =
    codes "<text x=\"" ++ (decimal (5 * s.pallet_x) ++ (codes "\" y=\"-" ++ (decimal (15 * s.height) ++ (codes "\" font-size=\"" ++ (decimal size ++ (codes "\" text-anchor=\"middle\" dominant-baseline=\"central\">" ++ (decimal between ++ codes " layers between</text>\n")))))))

unfoldable pub break_note : Sides → ℕ → List ℕ
break_note s between = break_words s (letters s) between

unfoldable pub break_text : Sides → ℕ → List ℕ
break_text s between = break_mark s ++ break_note s between

-- the first layer, the break, and the last layer in the third place
unfoldable pub ends_text : Sides → ℕ → ℕ → ℕ → ℕ → List ℕ
ends_text s sheet first between last = layer_text s sheet 1 first ++ (break_text s between ++ layer_text s sheet 3 last)

unfoldable pub broken_stack : Sides → ℕ → List ℕ → List ℕ
broken_stack s sheet numbers = ends_text s sheet (slice_index numbers 0) (length numbers - 2) (slice_index numbers (length numbers - 1))

-- the layers that the picture shows
unfoldable pub layers_text : Sides → ℕ → List ℕ → List ℕ
layers_text s sheet numbers = if nat_lt most_drawn (length numbers) then broken_stack s sheet numbers else each_layer s sheet numbers

-- the line below the picture
abbrev pub stack_end : ℕ → List ℕ
stack_end count = codes "</svg><figcaption>The stack from the front and the right: " ++ (decimal count ++ (layers_word count ++ codes ", the first at the bottom</figcaption></figure>\n"))

-- the stack of these forms, from the lowest layer up
unfoldable pub stack_figure : Sides → ℕ → List Listed → List ℕ → List ℕ
stack_figure s sheet layers numbers =
    stack_head s (length numbers) ++ (stack_ground s sheet layers ++ (layers_text s sheet numbers ++ stack_end (length numbers)))
