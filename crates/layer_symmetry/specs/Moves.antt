use Rattle.std.specs.Prelude.{◌≡◌, ℕ, ◌-◌, ◌==◌, List, [], ◌∷◌, length, map, nat_lt, if◌then◌else◌, IsPermutation, codes}
use Rattle.plan_geometry.specs.declared.spots.Way.{Way}
use Rattle.plan_geometry.specs.declared.spots.Way.TheVariants.{Lying, Standing}
use Rattle.plan_geometry.specs.declared.spots.Spot.{Spot}
use Rattle.plan_geometry.specs.declared.instances.Inst.{Inst}
use Rattle.plan_geometry.specs.Layout.{x_end, y_end, IsLayout, IsInOrder}
use Rattle.layer_symmetry.specs.declared.symmetries.Move.{Move}
use Rattle.layer_symmetry.specs.declared.symmetries.Move.TheVariants.{Same, MirrorX, MirrorY, HalfTurn, Diagonal, Anti, Left, Right}

-- the moves that exchange the directions are lawful on a square pallet alone
abbrev pub IsLawfulMove : Inst → Move → Type 0
IsLawfulMove I Same = Unit {0}
IsLawfulMove I MirrorX = Unit {0}
IsLawfulMove I MirrorY = Unit {0}
IsLawfulMove I HalfTurn = Unit {0}
IsLawfulMove I Diagonal = I.l_side ≡ I.w_side
IsLawfulMove I Anti = I.l_side ≡ I.w_side
IsLawfulMove I Left = I.l_side ≡ I.w_side
IsLawfulMove I Right = I.l_side ≡ I.w_side

-- the lawful moves, in order
abbrev pub lawful_moves : Inst → List Move
lawful_moves I =
    if I.l_side == I.w_side
    then Same ∷ MirrorX ∷ MirrorY ∷ HalfTurn ∷ Diagonal ∷ Anti ∷ Left ∷ Right ∷ []
    else Same ∷ MirrorX ∷ MirrorY ∷ HalfTurn ∷ []

-- the place of a move in that order
abbrev pub move_number : Move → ℕ
move_number Same = 0
move_number MirrorX = 1
move_number MirrorY = 2
move_number HalfTurn = 3
move_number Diagonal = 4
move_number Anti = 5
move_number Left = 6
move_number Right = 7

-- the printed name of a move
abbrev pub move_name : Move → List ℕ
move_name Same = codes "same"
move_name MirrorX = codes "mirror-x"
move_name MirrorY = codes "mirror-y"
move_name HalfTurn = codes "half-turn"
move_name Diagonal = codes "diagonal"
move_name Anti = codes "anti"
move_name Left = codes "left"
move_name Right = codes "right"

-- the case seen in a mirror: left for right, and far for near
abbrev pub mirror_x : Inst → Spot → Spot
mirror_x I s = record { x = I.l_side - x_end I s; y = s.y; way = s.way }

abbrev pub mirror_y : Inst → Spot → Spot
mirror_y I s = record { x = s.x; y = I.w_side - y_end I s; way = s.way }

-- the other way of a case; one of equal sides stays lying
abbrev pub turned_way : Inst → Way → Way
turned_way I Lying = if nat_lt I.short I.long then Standing else Lying
turned_way I Standing = Lying

-- the case with x and y exchanged
abbrev pub exchanged : Inst → Spot → Spot
exchanged I s = record { x = s.y; y = s.x; way = turned_way I s.way }

-- where a move brings a case
abbrev pub image_spot : Inst → Move → Spot → Spot
image_spot I Same s = s
image_spot I MirrorX s = mirror_x I s
image_spot I MirrorY s = mirror_y I s
image_spot I HalfTurn s = mirror_x I (mirror_y I s)
image_spot I Diagonal s = exchanged I s
image_spot I Anti s = mirror_x I (mirror_y I (exchanged I s))
image_spot I Left s = mirror_x I (exchanged I s)
image_spot I Right s = mirror_y I (exchanged I s)

-- where a move brings each case of a list
abbrev pub image_spots : Inst → Move → List Spot → List Spot
image_spots I m spots = map (λ s. image_spot I m s) spots

-- the second list has the cases to which the move brings those of the first, in the order of y, then x
pub record IsImage (I : Inst) (m : Move) (spots image : List Spot) : Type 0 where
  pub same : IsPermutation (image_spots I m spots) image
  pub in_order : IsInOrder image

-- the move brings each layout to a layout of as many cases
abbrev pub KeepsLayouts : Inst → Move → Type 0
KeepsLayouts I m =
    (spots : List Spot) → IsLayout I spots → IsLayout I (image_spots I m spots) × (length (image_spots I m spots) ≡ length spots)
