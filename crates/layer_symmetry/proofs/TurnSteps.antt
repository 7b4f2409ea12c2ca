-- What a move brings a layout to is a layout of as many cases.
use Rattle.std.proofs.Common.{◌≡◌, ◌∙◌, ℕ, ◌<◌, ◌≤◌, ltb, List, length, get_or, refl, inl, inr, arith}
use Rattle.std.proofs.lemmas.Bool.{cases_Bool}
use Rattle.std.proofs.lemmas.Bool.Decides.{nat_tests}
use Rattle.std.proofs.lemmas.List.{get_or-map, length-map}
use Rattle.std.proofs.lemmas.List.Sorted.{length_permutation}
use Rattle.plan_geometry.specs.declared.spots.Way.{Way}
use Rattle.plan_geometry.specs.declared.spots.Way.TheVariants.{Lying, Standing}
use Rattle.plan_geometry.specs.declared.spots.Spot.{Spot}
use Rattle.plan_geometry.specs.declared.instances.Inst.{Inst}
use Rattle.plan_geometry.specs.Layout.{x_extent, y_extent, IsInside, IsLawfulWay, AreApart, IsLayout}
use Rattle.plan_geometry.specs.Placed.{IsLayer}
use Rattle.plan_geometry.proofs.Order.{IsLayout-permutation}
use Rattle.layer_symmetry.specs.declared.symmetries.Move.{Move}
use Rattle.layer_symmetry.specs.declared.symmetries.Move.TheVariants.{Same, MirrorX, MirrorY, HalfTurn, Diagonal, Anti, Left, Right}
use Rattle.layer_symmetry.specs.Moves.{IsLawfulMove, mirror_x, mirror_y, turned_way, exchanged, image_spot, image_spots, KeepsLayouts, IsImage}

-- a map of cases that keeps what makes a layout
pub record Keeps (I : Inst) (f : Spot → Spot) : Type 0 where
  pub inside : (s : Spot) → IsInside I s → IsInside I (f s)
  pub lawful : (s : Spot) → IsLawfulWay I s.way → IsLawfulWay I (f s).way
  pub apart : (s t : Spot) → IsInside I s → IsInside I t → AreApart I s t → AreApart I (f s) (f t)

Keeps-after : (I : Inst) (f g : Spot → Spot) → Keeps I f → Keeps I g → Keeps I (λ s. f (g s))
Keeps-after I f g p q =
    record {
      inside = λ s i. p.inside (g s) (q.inside s i);
      lawful = λ s w. p.lawful (g s) (q.lawful s w);
      apart = λ s t i j a. p.apart (g s) (g t) (q.inside s i) (q.inside t j) (q.apart s t i j a);
    }

Keeps-same : (I : Inst) → Keeps I (λ s. s)
Keeps-same I = record { inside = λ s i. i; lawful = λ s w. w; apart = λ s t i j a. a }

Keeps-mirror_x : (I : Inst) → Keeps I (λ s. mirror_x I s)
Keeps-mirror_x I =
    record {
      inside = λ s i. record { in_x = omega (arith, i.in_x); in_y = i.in_y };
      lawful = λ s w. w;
      apart = λ s t i j a.
          elim a [
            | inl p ↦ inr (inl (omega (arith, i.in_x, j.in_x)))
            | inr b ↦ elim b [ inl p ↦ inl (omega (arith, i.in_x, j.in_x)) | inr c ↦ inr (inr c) ]
          ];
    }

Keeps-mirror_y : (I : Inst) → Keeps I (λ s. mirror_y I s)
Keeps-mirror_y I =
    record {
      inside = λ s i. record { in_x = i.in_x; in_y = omega (arith, i.in_y) };
      lawful = λ s w. w;
      apart = λ s t i j a.
          elim a [
            | inl p ↦ inl p
            | inr b ↦
                elim b [
                  | inl p ↦ inr (inl p)
                  | inr c ↦
                      elim c [
                        | inl p ↦ inr (inr (inr (omega (arith, i.in_y, j.in_y))))
                        | inr p ↦ inr (inr (inl (omega (arith, i.in_y, j.in_y))))
                      ]
                ]
          ];
    }

pub extents-turned : (I : Inst) (w : Way) → (x_extent I (turned_way I w) ≡ y_extent I w) × (y_extent I (turned_way I w) ≡ x_extent I w)
extents-turned I Lying =
    elim (cases_Bool (ltb I.short I.long)) [
      | inl e ↦ rw e (refl, refl)
      | inr e ↦ rw e (let l : I.long ≤ I.short = grind (arith, nat_tests) in (omega (arith, I.sides.ordered), omega (arith, I.sides.ordered)))
    ]
extents-turned I Standing = (refl, refl)

lawful-turned : (I : Inst) (w : Way) → IsLawfulWay I (turned_way I w)
lawful-turned I Lying =
    elim (cases_Bool (ltb I.short I.long)) [
      | inl e ↦ λ h. grind (arith, nat_tests)
      | inr e ↦ rw e (λ h. cc)
    ]
lawful-turned I Standing = λ h. cc

Keeps-exchanged : (I : Inst) → I.l_side ≡ I.w_side → Keeps I (λ s. exchanged I s)
Keeps-exchanged I e =
    record {
      inside = λ s i. let f = extents-turned I s.way in record { in_x = omega (arith, f.0, i.in_y); in_y = omega (arith, f.1, i.in_x) };
      lawful = λ s w. lawful-turned I s.way;
      apart = λ s t i j a.
          let f = extents-turned I s.way in
          let g = extents-turned I t.way in
          elim a [
            | inl p ↦ inr (inr (inl (omega (arith, f.1))))
            | inr b ↦
                elim b [
                  | inl p ↦ inr (inr (inr (omega (arith, g.1))))
                  | inr c ↦ elim c [ inl p ↦ inl (omega (arith, f.0)) | inr p ↦ inr (inl (omega (arith, g.0))) ]
                ]
          ];
    }

pub Keeps-image : (I : Inst) (m : Move) → IsLawfulMove I m → Keeps I (λ s. image_spot I m s)
Keeps-image I Same h = Keeps-same I
Keeps-image I MirrorX h = Keeps-mirror_x I
Keeps-image I MirrorY h = Keeps-mirror_y I
Keeps-image I HalfTurn h = Keeps-after I (λ s. mirror_x I s) (λ s. mirror_y I s) (Keeps-mirror_x I) (Keeps-mirror_y I)
Keeps-image I Diagonal h = Keeps-exchanged I h
Keeps-image I Anti h =
    Keeps-after I (λ s. mirror_x I s) (λ s. mirror_y I (exchanged I s)) (Keeps-mirror_x I) (Keeps-after I (λ s. mirror_y I s) (λ s. exchanged I s) (Keeps-mirror_y I) (Keeps-exchanged I h))
Keeps-image I Left h = Keeps-after I (λ s. mirror_x I s) (λ s. exchanged I s) (Keeps-mirror_x I) (Keeps-exchanged I h)
Keeps-image I Right h = Keeps-after I (λ s. mirror_y I s) (λ s. exchanged I s) (Keeps-mirror_y I) (Keeps-exchanged I h)

pub length_image : (I : Inst) (m : Move) (xs : List Spot) → length (image_spots I m xs) ≡ length xs
length_image I m xs = length-map xs (λ s. image_spot I m s)

at-image : (I : Inst) (m : Move) (xs : List Spot) (k : ℕ) (d : Spot) → k < length xs → get_or (image_spots I m xs) k d ≡ image_spot I m (get_or xs k d)
at-image I m xs k d lt = get_or-map (λ s. image_spot I m s) xs k d d lt

pub layout-image : (I : Inst) (m : Move) (xs : List Spot) → IsLawfulMove I m → IsLayout I xs → IsLayout I (image_spots I m xs)
layout-image I m xs h l =
    let n : length (image_spots I m xs) ≡ length xs = length_image I m xs in
    let keeps = Keeps-image I m h in
    record {
      inside = λ k d p. rw (at-image I m xs k d (omega arith)) (keeps.inside (get_or xs k d) (l.inside k d (omega arith)));
      lawful = λ k d p. rw (at-image I m xs k d (omega arith)) (keeps.lawful (get_or xs k d) (l.lawful k d (omega arith)));
      apart = λ i j d p q. rw (at-image I m xs i d (omega arith), at-image I m xs j d (omega arith)) (keeps.apart (get_or xs i d) (get_or xs j d) (l.inside i d (omega arith)) (l.inside j d (omega arith)) (l.apart i j d p (omega arith)));
    }

pub keeps-layouts : (I : Inst) (m : Move) → IsLawfulMove I m → KeepsLayouts I m
keeps-layouts I m h = λ xs l. (layout-image I m xs h l, length_image I m xs)

-- an image of a layer is a layer of as many cases
pub layer-image : (I : Inst) (m : Move) (xs ys : List Spot) → IsLawfulMove I m → IsLayout I xs → IsImage I m xs ys → IsLayer I ys
layer-image I m xs ys h l i =
    record { layout = IsLayout-permutation I (image_spots I m xs) ys i.same (layout-image I m xs h l); in_order = i.in_order }

pub count-image : (I : Inst) (m : Move) (xs ys : List Spot) → IsImage I m xs ys → length ys ≡ length xs
count-image I m xs ys i = length_permutation (image_spots I m xs) ys i.same ∙ length_image I m xs
