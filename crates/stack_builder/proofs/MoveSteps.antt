-- The moves of a pallet: one after another is a move, and each is undone by one.
use Rattle.std.proofs.Common.{◌≡◌, ℕ, ◌+◌, ◌-◌, ltb, ap, sym, refl, ◌∙◌, inl, inr, arith}
use Rattle.std.proofs.lemmas.Bool.{cases_Bool}
use Rattle.std.proofs.lemmas.Bool.Decides.{nat_tests}
use Rattle.plan_geometry.specs.declared.spots.Way.{Way}
use Rattle.plan_geometry.specs.declared.spots.Way.TheVariants.{Lying, Standing}
use Rattle.plan_geometry.specs.declared.spots.Spot.{Spot}
use Rattle.plan_geometry.specs.declared.instances.Inst.{Inst}
use Rattle.plan_geometry.specs.Layout.{x_extent, y_extent, IsInside, IsLawfulWay}
use Rattle.layer_symmetry.specs.declared.symmetries.Move.{Move}
use Rattle.layer_symmetry.specs.declared.symmetries.Move.TheVariants.{Same, MirrorX, MirrorY, HalfTurn, Diagonal, Anti, Left, Right}
use Rattle.layer_symmetry.specs.Moves.{IsLawfulMove, mirror_x, mirror_y, turned_way, exchanged, image_spot}
use Rattle.layer_symmetry.proofs.TurnSteps.{extents-turned, Keeps-image}

-- ---- the three moves of which each move is made

abbrev case_at : ℕ → ℕ → Way → Spot
case_at x y w = record { x = x; y = y; way = w }

case-same : (x x' y y' : ℕ) (w w' : Way) → x ≡ x' → y ≡ y' → w ≡ w' → case_at x y w ≡ case_at x' y' w'
case-same x x' y y' w w' e f g =
    ap (λ n. case_at n y w) e ∙ (ap (λ n. case_at x' n w) f ∙ ap (λ v. case_at x' y' v) g)

twice-x : (I : Inst) (s : Spot) → IsInside I s → mirror_x I (mirror_x I s) ≡ s
twice-x I s i =
    let e : I.l_side - (I.l_side - (s.x + x_extent I s.way) + x_extent I s.way) ≡ s.x = omega (arith, i.in_x) in
    ap (λ n. case_at n s.y s.way) e

twice-y : (I : Inst) (s : Spot) → IsInside I s → mirror_y I (mirror_y I s) ≡ s
twice-y I s i =
    let e : I.w_side - (I.w_side - (s.y + y_extent I s.way) + y_extent I s.way) ≡ s.y = omega (arith, i.in_y) in
    ap (λ n. case_at s.x n s.way) e

way-twice : (I : Inst) (w : Way) → IsLawfulWay I w → turned_way I (turned_way I w) ≡ w
way-twice I Lying h = elim (cases_Bool (ltb I.short I.long)) [ inl e ↦ rw e refl | inr e ↦ rw (e, e) refl ]
way-twice I Standing h =
    elim (cases_Bool (ltb I.short I.long)) [
      | inl e ↦ rw e refl
      | inr e ↦ let lt = h refl in absurd (grind (arith, nat_tests))
    ]

exchanged-twice : (I : Inst) (s : Spot) → IsLawfulWay I s.way → exchanged I (exchanged I s) ≡ s
exchanged-twice I s w = ap (λ v. case_at s.x s.y v) (way-twice I s.way w)

exchanged-mirror_x : (I : Inst) (s : Spot) → I.l_side ≡ I.w_side → exchanged I (mirror_x I s) ≡ mirror_y I (exchanged I s)
exchanged-mirror_x I s e =
    let f : I.l_side - (s.x + x_extent I s.way) ≡ I.w_side - (s.x + y_extent I (turned_way I s.way)) = omega (arith, e, (extents-turned I s.way).1) in
    ap (λ n. case_at s.y n (turned_way I s.way)) f

exchanged-mirror_y : (I : Inst) (s : Spot) → I.l_side ≡ I.w_side → exchanged I (mirror_y I s) ≡ mirror_x I (exchanged I s)
exchanged-mirror_y I s e =
    let f : I.w_side - (s.y + y_extent I s.way) ≡ I.l_side - (s.y + x_extent I (turned_way I s.way)) = omega (arith, e, (extents-turned I s.way).0) in
    ap (λ n. case_at n s.x (turned_way I s.way)) f

-- ---- a move after a move

-- some move brings each case of a layout to where f brings its image under the move
pub record IsMoveAfter (I : Inst) (f : Spot → Spot) (m : Move) : Type 0 where
  pub move : Move
  pub lawful : IsLawfulMove I move
  pub same : (s : Spot) → IsInside I s → IsLawfulWay I s.way → image_spot I move s ≡ f (image_spot I m s)

after-x : (I : Inst) (m : Move) → IsLawfulMove I m → IsMoveAfter I (λ s. mirror_x I s) m
after-x I Same h = record { move = MirrorX; lawful = tt; same = λ s i w. refl }
after-x I MirrorX h = record { move = Same; lawful = tt; same = λ s i w. sym (twice-x I s i) }
after-x I MirrorY h = record { move = HalfTurn; lawful = tt; same = λ s i w. refl }
after-x I HalfTurn h =
    record { move = MirrorY; lawful = tt; same = λ s i w. sym (twice-x I (mirror_y I s) ((Keeps-image I MirrorY tt).inside s i)) }
after-x I Diagonal h = record { move = Left; lawful = h; same = λ s i w. refl }
after-x I Anti h =
    record { move = Right; lawful = h; same = λ s i w. sym (twice-x I (mirror_y I (exchanged I s)) ((Keeps-image I Right h).inside s i)) }
after-x I Left h =
    record { move = Diagonal; lawful = h; same = λ s i w. sym (twice-x I (exchanged I s) ((Keeps-image I Diagonal h).inside s i)) }
after-x I Right h = record { move = Anti; lawful = h; same = λ s i w. refl }

after-y : (I : Inst) (m : Move) → IsLawfulMove I m → IsMoveAfter I (λ s. mirror_y I s) m
after-y I Same h = record { move = MirrorY; lawful = tt; same = λ s i w. refl }
after-y I MirrorX h = record { move = HalfTurn; lawful = tt; same = λ s i w. refl }
after-y I MirrorY h = record { move = Same; lawful = tt; same = λ s i w. sym (twice-y I s i) }
after-y I HalfTurn h = record { move = MirrorX; lawful = tt; same = λ s i w. ap (λ t. mirror_x I t) (sym (twice-y I s i)) }
after-y I Diagonal h = record { move = Right; lawful = h; same = λ s i w. refl }
after-y I Anti h =
    record { move = Left; lawful = h; same = λ s i w. ap (λ t. mirror_x I t) (sym (twice-y I (exchanged I s) ((Keeps-image I Diagonal h).inside s i))) }
after-y I Left h = record { move = Anti; lawful = h; same = λ s i w. refl }
after-y I Right h =
    record { move = Diagonal; lawful = h; same = λ s i w. sym (twice-y I (exchanged I s) ((Keeps-image I Diagonal h).inside s i)) }

after-exchange : (I : Inst) (m : Move) → I.l_side ≡ I.w_side → IsLawfulMove I m → IsMoveAfter I (λ s. exchanged I s) m
after-exchange I Same e h = record { move = Diagonal; lawful = e; same = λ s i w. refl }
after-exchange I MirrorX e h = record { move = Right; lawful = e; same = λ s i w. sym (exchanged-mirror_x I s e) }
after-exchange I MirrorY e h = record { move = Left; lawful = e; same = λ s i w. sym (exchanged-mirror_y I s e) }
after-exchange I HalfTurn e h =
    record {
      move = Anti;
      lawful = e;
      same = λ s i w. sym (exchanged-mirror_x I (mirror_y I s) e ∙ ap (λ t. mirror_y I t) (exchanged-mirror_y I s e));
    }
after-exchange I Diagonal e h = record { move = Same; lawful = tt; same = λ s i w. sym (exchanged-twice I s w) }
after-exchange I Anti e h =
    record {
      move = HalfTurn;
      lawful = tt;
      same = λ s i w.
          let t = exchanged I s in
          sym (exchanged-mirror_x I (mirror_y I t) e ∙ ap (λ t. mirror_y I t) (exchanged-mirror_y I t e ∙ ap (λ t. mirror_x I t) (exchanged-twice I s w)));
    }
after-exchange I Left e h =
    record {
      move = MirrorY;
      lawful = tt;
      same = λ s i w. sym (exchanged-mirror_x I (exchanged I s) e ∙ ap (λ t. mirror_y I t) (exchanged-twice I s w));
    }
after-exchange I Right e h =
    record {
      move = MirrorX;
      lawful = tt;
      same = λ s i w. sym (exchanged-mirror_y I (exchanged I s) e ∙ ap (λ t. mirror_x I t) (exchanged-twice I s w));
    }

-- one map of cases after another
after-both : (I : Inst) (f g : Spot → Spot) (m : Move) → ((n : Move) → IsLawfulMove I n → IsMoveAfter I f n) → IsMoveAfter I g m → IsMoveAfter I (λ s. f (g s)) m
after-both I f g m first a =
    let b = first a.move a.lawful in
    record { move = b.move; lawful = b.lawful; same = λ s i w. b.same s i w ∙ ap f (a.same s i w) }

pub move-after : (I : Inst) (n m : Move) → IsLawfulMove I n → IsLawfulMove I m → IsMoveAfter I (λ s. image_spot I n s) m
move-after I Same m e h = record { move = m; lawful = h; same = λ s i w. refl }
move-after I MirrorX m e h = after-x I m h
move-after I MirrorY m e h = after-y I m h
move-after I HalfTurn m e h = after-both I (λ s. mirror_x I s) (λ s. mirror_y I s) m (after-x I) (after-y I m h)
move-after I Diagonal m e h = after-exchange I m e h
move-after I Anti m e h =
    after-both I (λ s. mirror_x I s) (λ s. mirror_y I (exchanged I s)) m (after-x I) (
    after-both I (λ s. mirror_y I s) (λ s. exchanged I s) m (after-y I) (after-exchange I m e h))
move-after I Left m e h = after-both I (λ s. mirror_x I s) (λ s. exchanged I s) m (after-x I) (after-exchange I m e h)
move-after I Right m e h = after-both I (λ s. mirror_y I s) (λ s. exchanged I s) m (after-y I) (after-exchange I m e h)

-- ---- a move undone

-- the second move brings each case of a layout back
pub record IsUndone (I : Inst) (m : Move) : Type 0 where
  pub back : Move
  pub lawful : IsLawfulMove I back
  pub same : (s : Spot) → IsInside I s → IsLawfulWay I s.way → image_spot I back (image_spot I m s) ≡ s

half-turn-twice : (I : Inst) (s : Spot) → IsInside I s → image_spot I HalfTurn (image_spot I HalfTurn s) ≡ s
half-turn-twice I s i =
    let y : mirror_y I (mirror_y I s) ≡ s = twice-y I s i in
    ap (λ t. mirror_x I (mirror_x I t)) y ∙ twice-x I s i

pub move-undone : (I : Inst) (m : Move) → IsLawfulMove I m → IsUndone I m
unfolding after-exchange
move-undone I Same h = record { back = Same; lawful = tt; same = λ s i w. refl }
move-undone I MirrorX h = record { back = MirrorX; lawful = tt; same = λ s i w. twice-x I s i }
move-undone I MirrorY h = record { back = MirrorY; lawful = tt; same = λ s i w. twice-y I s i }
move-undone I HalfTurn h = record { back = HalfTurn; lawful = tt; same = λ s i w. half-turn-twice I s i }
move-undone I Diagonal h = record { back = Diagonal; lawful = h; same = λ s i w. exchanged-twice I s w }
move-undone I Anti h =
    record {
      back = Anti;
      lawful = h;
      same = λ s i w. ap (λ t. mirror_x I (mirror_y I t)) (sym ((after-exchange I Anti h h).same s i w)) ∙ half-turn-twice I s i;
    }
move-undone I Left h =
    record {
      back = Right;
      lawful = h;
      same = λ s i w. ap (λ t. mirror_y I t) (sym ((after-exchange I Left h h).same s i w)) ∙ twice-y I s i;
    }
move-undone I Right h =
    record {
      back = Left;
      lawful = h;
      same = λ s i w. ap (λ t. mirror_x I t) (sym ((after-exchange I Right h h).same s i w)) ∙ twice-x I s i;
    }
