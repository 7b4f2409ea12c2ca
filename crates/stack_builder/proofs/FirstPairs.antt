-- Of the variants of a layer a stack of two or more layers exists exactly where the first and one of them go together.
use Rattle.std.proofs.Common.{◌≡◌, ℕ, zero, suc, ◌+◌, ◌-◌, ◌<◌, ◌≤◌, ◌↔◌, Bool, true, false, not, IsTrue, List, [], ◌∷◌, ◌++◌, length, get_or, map, ap, sym, subst, refl, ◌∙◌, arith, IsPermutation}
use Rattle.std.specs.List.{All}
use Rattle.std.proofs.lemmas.List.Elements.{All-nil, All-cons, All-tail}
use Rattle.std.proofs.lemmas.Option.{slice_get_within, get_or_from_slice_get}
use Rattle.std.proofs.lemmas.List.Sorted.{IsPermutation-map, IsPermutation-trans, IsPermutation-sym, IsPermutation-refl}
use Rattle.plan_geometry.specs.declared.spots.Spot.{Spot}
use Rattle.plan_geometry.specs.declared.instances.Inst.{Inst}
use Rattle.plan_geometry.specs.Layout.{IsInside, IsLawfulWay, IsLayout}
use Rattle.plan_geometry.specs.Placed.{Placed, IsLayer}
use Rattle.layer_symmetry.specs.declared.symmetries.Move.{Move}
use Rattle.layer_symmetry.specs.declared.symmetries.Move.TheVariants.{Same}
use Rattle.layer_symmetry.specs.Moves.{IsLawfulMove, image_spot, image_spots, IsImage}
use Rattle.layer_symmetry.specs.Variants.{IsVariant, IsVariants}
use Rattle.layer_symmetry.proofs.TurnSteps.{layer-image}
use Rattle.layer_symmetry.proofs.OneList.{variants-first}
use Rattle.contact_rules.specs.declared.rules.Rule.{Rule}
use Rattle.contact_rules.specs.Real.{IsGapOf}
use Rattle.contact_rules.specs.Rules.{Meets}
use Rattle.stack_builder.specs.Stack.{IsStack, HasStack, HasNoStack}
use Rattle.stack_builder.specs.Pairs.{AreOf, AreVariants, spots_of, GoTogether, Interlocks, IsAlone}
use Rattle.stack_builder.specs.Laws.{MovesKeepRules, StacksAreKnownByFirstPairs}
use Rattle.stack_builder.proofs.PairSteps.{spots-at}
use Rattle.stack_builder.proofs.StackSteps.{stack-one, stack-push}
use Rattle.stack_builder.proofs.MovedPairs.{map-after, map-same, KeepsRules-image, meets-image, meets-permuted, meets-mapped}
use Rattle.stack_builder.proofs.MoveSteps.{move-after, move-undone}

-- ---- images of images

-- maps that agree on the cases of a layout give the same list
maps-agree : (I : Inst) (f g : Spot → Spot) → ((s : Spot) → IsInside I s → IsLawfulWay I s.way → f s ≡ g s) → (xs : List Spot) → All (IsInside I) xs → All (λ s. IsLawfulWay I s.way) xs → map f xs ≡ map g xs
maps-agree I f g agree [] inside lawful = refl
maps-agree I f g agree (s ∷ xs) inside lawful =
    let rest = maps-agree I f g agree xs (All-tail (IsInside I) s xs inside) (All-tail (λ t. IsLawfulWay I t.way) s xs lawful) in
    ap (λ t. t ∷ map f xs) (agree s (inside 0 s (omega arith)) (lawful 0 s (omega arith))) ∙ ap (λ l. g s ∷ l) rest

-- the cases of a list under the second move are those of its image under the first one, if the second does
-- what the first does and then another
permuted-after : (I : Inst) (n m p : Move) (xs ys : List Spot) → IsLayout I xs → ((s : Spot) → IsInside I s → IsLawfulWay I s.way → image_spot I p s ≡ image_spot I n (image_spot I m s)) → IsImage I m xs ys → IsPermutation (image_spots I n ys) (image_spots I p xs)
permuted-after I n m p xs ys layout same image =
    let e : image_spots I p xs ≡ map (λ s. image_spot I n s) (image_spots I m xs) =
    maps-agree I (λ s. image_spot I p s) (λ s. image_spot I n (image_spot I m s)) same xs layout.inside layout.lawful ∙ sym (map-after (λ s. image_spot I n s) (λ s. image_spot I m s) xs) in
    let q : IsPermutation (map (λ s. image_spot I n s) (image_spots I m xs)) (image_spots I n ys) =
    IsPermutation-map (λ s. image_spot I n s) (image_spots I m xs) ys image.same in
    subst (λ l. IsPermutation (image_spots I n ys) l) (sym e) (IsPermutation-sym (map (λ s. image_spot I n s) (image_spots I m xs)) (image_spots I n ys) q)

-- where a move does what one does and then another, the image under it is that under the other of the image
-- under the one
image-after : (I : Inst) (n m p : Move) (xs ys zs : List Spot) → IsLayout I xs → ((s : Spot) → IsInside I s → IsLawfulWay I s.way → image_spot I p s ≡ image_spot I n (image_spot I m s)) → IsImage I m xs ys → IsImage I p xs zs → IsImage I n ys zs
image-after I n m p xs ys zs layout same image far =
    record {
      same = IsPermutation-trans (image_spots I n ys) (image_spots I p xs) zs (permuted-after I n m p xs ys layout same image) far.same;
      in_order = far.in_order;
    }

image-itself : (I : Inst) (xs : List Spot) → IsLayer I xs → IsImage I Same xs xs
image-itself I xs layer =
    record { same = subst (λ l. IsPermutation l xs) (sym (map-same xs)) (IsPermutation-refl xs); in_order = layer.in_order }

-- an image, brought back, has the cases of the layout
permuted-back : (I : Inst) (m back : Move) (xs ys : List Spot) → IsLayout I xs → ((s : Spot) → IsInside I s → IsLawfulWay I s.way → image_spot I back (image_spot I m s) ≡ s) → IsImage I m xs ys → IsPermutation (image_spots I back ys) xs
permuted-back I m back xs ys layout same image =
    subst (λ l. IsPermutation (image_spots I back ys) l) (map-same xs) (permuted-after I back m Same xs ys layout (λ s i w. sym (same s i w)) image)

-- ---- the law that moves keep the rules

pub moves-keep : MovesKeepRules
moves-keep I gap m rule l u l' u' g lawful a b p q = (
  λ h. meets-image I gap m rule l u l' u' g lawful a.inside b.inside p q h,
  λ h.
      let w = move-undone I m lawful in
      let a' = layer-image I m l l' lawful a p in
      let b' = layer-image I m u u' lawful b q in
      let back : Spot → Spot = λ s. image_spot I w.back s in
      let z = meets-mapped I gap rule (λ s. image_spot I w.back s) (KeepsRules-image I gap w.back g w.lawful) l' u' a'.layout.inside b'.layout.inside h in
      meets-permuted I gap rule (image_spots I w.back l') (image_spots I w.back u') l u (permuted-back I m w.back l l' a w.same p) (permuted-back I m w.back u u' b w.same q) z,
)

-- ---- the variants by their numbers

-- the number of the variant that is the image under a move
record IsListed (I : Inst) (spots : List Spot) (variants : List (Move × Placed)) (m : Move) : Type 0 where
  form : ℕ
  min : 1 ≤ form
  max : form ≤ length variants
  image : IsImage I m spots (spots_of variants form)

listed : (I : Inst) (spots : List Spot) (variants : List (Move × Placed)) (m : Move) → IsVariants I spots variants → IsLawfulMove I m → IsListed I spots variants m
listed I spots variants m v lawful =
    let c = v.complete m lawful in
    let e : spots_of variants (c.0 + 1) ≡ c.1.1.spots = spots-at variants c.0 c.1 c.2 ∙ ap (λ (w : Move × Placed). w.1.spots) c.3 in
    record {
      form = c.0 + 1;
      min = omega arith;
      max = omega (arith, c.2);
      image = subst (λ l. IsImage I m spots l) (sym e) c.4.1;
    }

-- the move of which the variant of a number is the image
record IsMoved (I : Inst) (spots form : List Spot) : Type 0 where
  move : Move
  lawful : IsLawfulMove I move
  image : IsImage I move spots form

moved : (I : Inst) (spots : List Spot) (variants : List (Move × Placed)) (form : ℕ) → IsVariants I spots variants → 1 ≤ form → form ≤ length variants → IsMoved I spots (spots_of variants form)
moved I spots variants form v min max =
    let d : Move × Placed = (Same, record { inst = I; spots = [] }) in
    let lt : form - 1 < length variants = omega arith in
    let is : IsVariant I spots (get_or variants (form - 1) d) = v.each (form - 1) d lt in
    let one : form - 1 + 1 ≡ form = omega arith in
    let e : spots_of variants form ≡ (get_or variants (form - 1) d).1.spots = ap (λ n. spots_of variants n) (sym one) ∙ spots-at variants (form - 1) d lt in
    record { move = (get_or variants (form - 1) d).0; lawful = is.lawful; image = subst (λ l. IsImage I (get_or variants (form - 1) d).0 spots l) (sym e) is.image }

-- the first variant is the layer itself
record IsFirst (spots : List Spot) (variants : List (Move × Placed)) : Type 0 where
  some : 1 ≤ length variants
  same : spots_of variants 1 ≡ spots

first : (I : Inst) (spots : List Spot) (variants : List (Move × Placed)) → IsLayer I spots → IsVariants I spots variants → IsFirst spots variants
first I spots variants layer v =
    let w : Move × Placed = (Same, record { inst = I; spots = spots }) in
    let e = variants-first I spots variants layer.in_order v in
    let lt : 0 < length variants = slice_get_within variants 0 w e in
    record {
      some = lt;
      same = spots-at variants 0 w lt ∙ ap (λ (x : Move × Placed). x.1.spots) (get_or_from_slice_get variants 0 w w e);
    }

-- ---- every pair is the image of a pair with the first

-- what any two variants meet, the first and some variant meet
pub first-pair : (I : Inst) (gap : ℕ) (rules : List Rule) (spots : List Spot) (variants : List (Move × Placed)) (v w : ℕ) → IsGapOf I gap → IsLayer I spots → IsVariants I spots variants → 1 ≤ v → v ≤ length variants → 1 ≤ w → w ≤ length variants → GoTogether I gap rules variants v w → Interlocks I gap rules variants
first-pair I gap rules spots variants v w g layer vs a b c d h =
    let one = first I spots variants layer vs in
    let p = moved I spots variants v vs a b in
    let q = moved I spots variants w vs c d in
    let undone = move-undone I p.move p.lawful in
    let far = move-after I undone.back q.move undone.lawful q.lawful in
    let k = listed I spots variants far.move vs far.lawful in
    let lower : IsImage I undone.back (spots_of variants v) spots =
    image-after I undone.back p.move Same spots (spots_of variants v) spots layer.layout (λ s i w. sym (undone.same s i w)) p.image (image-itself I spots layer) in
    let upper : IsImage I undone.back (spots_of variants w) (spots_of variants k.form) =
    image-after I undone.back q.move far.move spots (spots_of variants w) (spots_of variants k.form) layer.layout far.same q.image k.image in
    let lv = layer-image I p.move spots (spots_of variants v) p.lawful layer.layout p.image in
    let lw = layer-image I q.move spots (spots_of variants w) q.lawful layer.layout q.image in
    record {
      form = k.form;
      min = k.min;
      max = k.max;
      meets = λ i r lt.
          subst (λ l. Meets I gap (get_or rules i r) l (spots_of variants k.form)) (sym one.same) ((moves-keep I gap undone.back (get_or rules i r) (spots_of variants v) (spots_of variants w) spots (spots_of variants k.form) g undone.lawful lv.layout lw.layout lower upper).0 (h i r lt));
    }

-- the number of a variant that goes upon another
record HasNext (Goes : ℕ → ℕ → Type 0) (count v : ℕ) : Type 0 where
  next : ℕ
  min : 1 ≤ next
  max : next ≤ count
  goes : Goes v next

-- where the first and some variant go together, each variant has one that goes upon it
every-pair : (I : Inst) (gap : ℕ) (rules : List Rule) (spots : List Spot) (variants : List (Move × Placed)) → IsGapOf I gap → IsLayer I spots → IsVariants I spots variants → Interlocks I gap rules variants → (v : ℕ) → 1 ≤ v → v ≤ length variants → HasNext (GoTogether I gap rules variants) (length variants) v
every-pair I gap rules spots variants g layer vs h v a b =
    let one = first I spots variants layer vs in
    let p = moved I spots variants v vs a b in
    let q = moved I spots variants h.form vs h.min h.max in
    let far = move-after I p.move q.move p.lawful q.lawful in
    let k = listed I spots variants far.move vs far.lawful in
    let upper : IsImage I p.move (spots_of variants h.form) (spots_of variants k.form) =
    image-after I p.move q.move far.move spots (spots_of variants h.form) (spots_of variants k.form) layer.layout far.same q.image k.image in
    let lw = layer-image I q.move spots (spots_of variants h.form) q.lawful layer.layout q.image in
    record {
      next = k.form;
      min = k.min;
      max = k.max;
      goes = λ i r lt.
          let z : Meets I gap (get_or rules i r) spots (spots_of variants h.form) = subst (λ l. Meets I gap (get_or rules i r) l (spots_of variants h.form)) one.same (h.meets i r lt) in
          (moves-keep I gap p.move (get_or rules i r) spots (spots_of variants h.form) (spots_of variants v) (spots_of variants k.form) g p.lawful layer.layout lw.layout p.image upper).0 z;
    }

-- ---- stacks

-- where each number has one that goes upon it, there are stacks of every height
stacks-grow : (G : ℕ → ℕ → Type 0) (count : ℕ) → 1 ≤ count → ((v : ℕ) → 1 ≤ v → v ≤ count → HasNext G count v) → (j : ℕ) → HasStack G count (j + 1)
stacks-grow G count some next zero = record { stack = 1 ∷ []; is_stack = stack-one G count 1 (omega arith) some }
stacks-grow G count some next (suc j) =
    let s = stacks-grow G count some next j in
    let r = s.is_stack.numbers j (omega arith) in
    let n = next (get_or s.stack j 0) r.0 r.1 in
    let here : get_or s.stack (j + 1 - 1) 0 ≡ get_or s.stack j 0 = let e : j + 1 - 1 ≡ j = omega arith in ap (λ i. get_or s.stack i 0) e in
    let e : j + 1 + 1 ≡ suc j + 1 = omega arith in
    let taller = stack-push G count (j + 1) (get_or s.stack j 0) n.next s.stack (omega arith) s.is_stack here n.min n.max n.goes in
    record { stack = s.stack ++ n.next ∷ []; is_stack = subst (λ m. IsStack G count m (s.stack ++ n.next ∷ [])) e taller }

pub stacks-known : StacksAreKnownByFirstPairs
stacks-known I gap rules spots variants n g layer vs two = (
  λ h.
      let a = h.is_stack.numbers 0 (omega arith) in
      let b = h.is_stack.numbers 1 (omega arith) in
      first-pair I gap rules spots variants (get_or h.stack 0 0) (get_or h.stack 1 0) g layer vs a.0 a.1 b.0 b.1 (h.is_stack.neighbours 0 (omega arith)),
  λ h.
      let some : 1 ≤ length variants = omega (arith, h.min, h.max) in
      let e : n - 1 + 1 ≡ n = omega arith in
      let s = stacks-grow (GoTogether I gap rules variants) (length variants) some (every-pair I gap rules spots variants g layer vs h) (n - 1) in
      record { stack = s.stack; is_stack = subst (λ m. IsStack (GoTogether I gap rules variants) (length variants) m s.stack) e s.is_stack },
)

-- ---- lists of which it is known that they are all the variants of a layer

instance-same : (I : Inst) (variants : List (Move × Placed)) (h : AreVariants variants) → AreOf I variants → h.layer.inst ≡ I
instance-same I variants h of =
    let d : Move × Placed = (Same, h.layer) in
    let lt : 0 < length variants = (first h.layer.inst h.layer.spots variants h.is_layer h.all).some in
    let is : IsVariant h.layer.inst h.layer.spots (get_or variants 0 d) = h.all.each 0 d lt in
    sym is.inst ∙ of 0 d lt

pub first-pair-known : (I : Inst) (gap : ℕ) (rules : List Rule) (variants : List (Move × Placed)) (v w : ℕ) → IsGapOf I gap → AreOf I variants → AreVariants variants → 1 ≤ v → v ≤ length variants → 1 ≤ w → w ≤ length variants → GoTogether I gap rules variants v w → Interlocks I gap rules variants
first-pair-known I gap rules variants v w g of h a b c d meets =
    let e : I ≡ h.layer.inst = sym (instance-same I variants h of) in
    first-pair I gap rules h.layer.spots variants v w g (subst (λ J. IsLayer J h.layer.spots) (sym e) h.is_layer) (subst (λ J. IsVariants J h.layer.spots variants) (sym e) h.all) a b c d meets

-- none upon the first: no stack of two layers or more
pub none-upon-first : (I : Inst) (gap : ℕ) (rules : List Rule) (variants : List (Move × Placed)) (n : ℕ) → IsGapOf I gap → AreOf I variants → AreVariants variants → ¬ Interlocks I gap rules variants → 2 ≤ n → HasNoStack (GoTogether I gap rules variants) (length variants) n
none-upon-first I gap rules variants n g of h none' two = λ stack s.
    let a = s.numbers 0 (omega arith) in
    let b = s.numbers 1 (omega arith) in
    none' (first-pair-known I gap rules variants (get_or stack 0 0) (get_or stack 1 0) g of h a.0 a.1 b.0 b.1 (s.neighbours 0 (omega arith)))

lone : (P : Rule → Type 0) (rule : Rule) → P rule → All P (rule ∷ [])
lone P rule h = All-cons P rule [] h (All-nil P)

-- the pairs with the first tell whether no two variants meet a rule
pub alone-known : (I : Inst) (gap : ℕ) (variants : List (Move × Placed)) (rule : Rule) (b : Bool) → IsGapOf I gap → AreOf I variants → AreVariants variants → IsTrue b ↔ Interlocks I gap (rule ∷ []) variants → IsTrue (not b) ↔ IsAlone I gap variants rule
alone-known I gap variants rule true g of h tells = (
  λ f. cc f,
  λ alone.
      let k = tells.0 refl in
      let some : 1 ≤ length variants = omega (arith, k.min, k.max) in
      absurd (alone 1 k.form (omega arith) some k.min k.max (k.meets 0 rule (omega arith))),
)
alone-known I gap variants rule false g of h tells = (
  λ _ v w a b c d m.
      let z = tells.1 (first-pair-known I gap (rule ∷ []) variants v w g of h a b c d (lone (λ r. Meets I gap r (spots_of variants v) (spots_of variants w)) rule m)) in
      cc z,
  λ _. refl,
)

pub some-variant : (variants : List (Move × Placed)) → AreVariants variants → 1 ≤ length variants
some-variant variants h = (first h.layer.inst h.layer.spots variants h.is_layer h.all).some

-- the layer of which these are the variants is the first of them
pub variants-of-first : (variants : List (Move × Placed)) (d : Move × Placed) → AreVariants variants → IsVariants (get_or variants 0 d).1.inst (get_or variants 0 d).1.spots variants
variants-of-first variants d h =
    let w : Move × Placed = (Same, h.layer) in
    let e : get_or variants 0 d ≡ w = get_or_from_slice_get variants 0 w d (variants-first h.layer.inst h.layer.spots variants h.is_layer.in_order h.all) in
    subst (λ (y : Move × Placed). IsVariants y.1.inst y.1.spots variants) (sym e) h.all
