-- The first lightest position, by the weights of all.
use Rattle.std.proofs.Common.{◌≡◌, ℕ, ◌+◌, ◌*◌, ◌/◌, ◌%◌, ◌<◌, ◌≤◌, ◌⊎◌, inl, inr, List, length, get_or, arith, subst, sym, ap, ◌∙◌, refl}
use Rattle.std.proofs.lemmas.Bool.{cases_lt}
use Rattle.std.proofs.lemmas.Nat.{mul-le, mul-add-lt, div-add-mod', mod_below}
use Rattle.plan_geometry.specs.declared.spots.Axis.TheVariants.{X, Y}
use Rattle.plan_geometry.specs.declared.spots.Spot.{Spot}
use Rattle.plan_geometry.specs.declared.spots.Way.{Way}
use Rattle.plan_geometry.specs.declared.spots.Way.TheVariants.{Lying, Standing}
use Rattle.plan_geometry.specs.declared.instances.Inst.{Inst}
use Rattle.plan_geometry.specs.Layout.{x_extent, y_extent, IsInside, IsLawfulWay, StandsBefore, CaseFits, CaseFitsSo}
use Rattle.plan_geometry.specs.Weight.{block_weight, spot_weight}
use Rattle.plan_geometry.proofs.GridSteps.{factor-some, row-lt}
use Rattle.dual_search.specs.declared.positions.Lightest.{Lightest}
use Rattle.dual_search.specs.Raising.{IsFirstLeastPlace}
use Rattle.dual_search.specs.Positions.{places, HoldWeights, HasNoPosition, IsLightestOfWay, IsLightest}

-- a case inside has its corner at one of the places
corner-places : (I : Inst) (way : Way) (t : Spot) → IsInside I t → t.way ≡ way → (t.x < places X I way) × (t.y < places Y I way)
corner-places I way t inside e =
    let in_x : t.x + x_extent I way ≤ I.l_side = subst (λ w. t.x + x_extent I w ≤ I.l_side) e inside.in_x in
    let in_y : t.y + y_extent I way ≤ I.w_side = subst (λ w. t.y + y_extent I w ≤ I.w_side) e inside.in_y in
    (omega (arith, in_x), omega (arith, in_y))

-- what it weighs stands at the place of its corner
corner-weight :
    (I : Inst) (way : Way) (g : ℕ → ℕ → ℕ) (ws : List ℕ) (t : Spot)
    → HoldWeights I way g ws
    → IsInside I t
    → t.way ≡ way
    → get_or ws (t.y * places X I way + t.x) 0 ≡ spot_weight g I t
corner-weight I way g ws t h inside e =
    let at = corner-places I way t inside e in
    h.at t.x t.y at.0 at.1 ∙ ap (λ w. block_weight g t.x t.y (x_extent I w) (y_extent I w)) (sym e)

pub none-placed : (I : Inst) (way : Way) (ws : List ℕ) → length ws ≡ places X I way * places Y I way → length ws ≡ 0 → HasNoPosition I way
none-placed I way ws count none s inside lawful e =
    let at = corner-places I way s inside e in
    let lt = mul-add-lt s.y (places X I way) s.x (places Y I way) at.1 at.0 in
    omega (arith, lt, count, none)

-- the corner at a place
pub record IsCorner (I : Inst) (way : Way) (place x y : ℕ) : Type 0 where
  pub in_x : x < places X I way
  pub in_y : y < places Y I way
  pub at : y * places X I way + x ≡ place

pub corner-at : (I : Inst) (way : Way) (place : ℕ) → place < places X I way * places Y I way → IsCorner I way place (place % places X I way) (place / places X I way)
corner-at I way place lt =
    let some : 0 < places X I way = factor-some place (places X I way) (places Y I way) lt in
    record {
      in_x = mod_below place (places X I way) some;
      in_y = row-lt place (places X I way) (places Y I way) lt;
      at = div-add-mod' place (places X I way);
    }

pub lightest-is :
    (I : Inst) (way : Way) (g : ℕ → ℕ → ℕ) (ws : List ℕ) (place x y weight : ℕ)
    → IsLawfulWay I way
    → HoldWeights I way g ws
    → IsFirstLeastPlace ws place
    → IsCorner I way place x y
    → weight ≡ get_or ws place 0
    → IsLightestOfWay I way g (record { spot = record { x = x; y = y; way = way }; weight = weight })
lightest-is I way g ws place x y weight lawful h f c e = record {
  is_way = refl;
  inside = record { in_x = omega (arith, c.in_x); in_y = omega (arith, c.in_y) };
  lawful = lawful;
  weighs = sym (h.at x y c.in_x c.in_y) ∙ (ap (λ k. get_or ws k 0) c.at ∙ sym e);
  least = λ t inside same.
      let at = corner-places I way t inside same in
      let lt = mul-add-lt t.y (places X I way) t.x (places Y I way) at.1 at.0 in
      let le = f.least (t.y * places X I way + t.x) (omega (arith, lt, h.count)) in
      omega (arith, le, e, corner-weight I way g ws t h inside same);
  first = λ t inside same before.
      let at = corner-places I way t inside same in
      let le = f.first (t.y * places X I way + t.x) (earlier t at.0 before) in
      omega (arith, le, e, corner-weight I way g ws t h inside same);
}
  where
    earlier : (t : Spot) → t.x < places X I way → StandsBefore t (record { x = x; y = y; way = way }) → t.y * places X I way + t.x < place
    earlier t lt before = elim before [
      | inl below ↦
          let le = mul-le (t.y + 1) (places X I way) y (places X I way) (omega (arith, below)) (omega arith) in
          omega (arith, le, lt, c.at)
      | inr left ↦
          let row : t.y * places X I way ≡ y * places X I way = ap (λ v. v * places X I way) left.0 in
          omega (arith, row, left.1, c.at)
    ]

-- a way is lying or standing
cases_way : (w : Way) → (w ≡ Lying) ⊎ (w ≡ Standing)
cases_way Lying = inl refl
cases_way Standing = inr refl

ways-apart : Lying ≡ Standing → ⊥
ways-apart e = cc

pub lying-least :
    (I : Inst) (g : ℕ → ℕ → ℕ) (one other : Lightest)
    → IsLightestOfWay I Lying g one
    → IsLightestOfWay I Standing g other
    → one.weight ≤ other.weight
    → IsLightest I g one
lying-least I g one other a b le = record {
  spot = record {
    inside = a.inside;
    lawful = a.lawful;
    least = λ t inside lawful. elim (cases_way t.way) [
      | inl e ↦ omega (arith, a.least t inside e, a.weighs)
      | inr e ↦ omega (arith, b.least t inside e, a.weighs, le)
    ];
    first = λ t inside lawful before. elim before [
      | inl p ↦ absurd (ways-apart (sym a.is_way ∙ p.1))
      | inr p ↦ omega (arith, a.first t inside (p.0 ∙ a.is_way) p.1, a.weighs)
    ];
  };
  weighs = a.weighs;
}

pub standing-least :
    (I : Inst) (g : ℕ → ℕ → ℕ) (one other : Lightest)
    → IsLightestOfWay I Lying g one
    → IsLightestOfWay I Standing g other
    → other.weight < one.weight
    → IsLightest I g other
standing-least I g one other a b lt = record {
  spot = record {
    inside = b.inside;
    lawful = b.lawful;
    least = λ t inside lawful. elim (cases_way t.way) [
      | inl e ↦ omega (arith, a.least t inside e, b.weighs, lt)
      | inr e ↦ omega (arith, b.least t inside e, b.weighs)
    ];
    first = λ t inside lawful before. elim (cases_way t.way) [
      | inl e ↦ omega (arith, a.least t inside e, b.weighs, lt)
      | inr e ↦ elim before [
        | inl p ↦ absurd (ways-apart (sym p.0 ∙ e))
        | inr p ↦ omega (arith, b.first t inside e p.1, b.weighs)
      ]
    ];
  };
  weighs = b.weighs;
}

-- the other way has no position
pub only-least :
    (I : Inst) (way other : Way) (g : ℕ → ℕ → ℕ) (one : Lightest)
    → ((w : Way) → (w ≡ way) ⊎ (w ≡ other))
    → IsLightestOfWay I way g one
    → HasNoPosition I other
    → IsLightest I g one
only-least I way other g one ways a unfit = record {
  spot = record {
    inside = a.inside;
    lawful = a.lawful;
    least = λ t inside lawful. elim (ways t.way) [
      | inl e ↦ omega (arith, a.least t inside e, a.weighs)
      | inr e ↦ absurd (unfit t inside lawful e)
    ];
    first = λ t inside lawful before. elim (ways t.way) [
      | inl e ↦ elim before [
        | inl p ↦ absurd (ways-apart (sym p.0 ∙ (e ∙ (sym a.is_way ∙ p.1))))
        | inr p ↦ omega (arith, a.first t inside e p.1, a.weighs)
      ]
      | inr e ↦ absurd (unfit t inside lawful e)
    ];
  };
  weighs = a.weighs;
}

pub lying-only : (I : Inst) (g : ℕ → ℕ → ℕ) (one : Lightest) → IsLightestOfWay I Lying g one → HasNoPosition I Standing → IsLightest I g one
lying-only I g one a unfit = only-least I Lying Standing g one cases_way a unfit

pub standing-only : (I : Inst) (g : ℕ → ℕ → ℕ) (one : Lightest) → IsLightestOfWay I Standing g one → HasNoPosition I Lying → IsLightest I g one
standing-only I g one a unfit = only-least I Standing Lying g one (λ w. elim (cases_way w) [ inl e ↦ inr e | inr e ↦ inl e ]) a unfit

-- where a case fits, one of the ways has a position
pub some-position : (I : Inst) → CaseFits I → HasNoPosition I Lying → HasNoPosition I Standing → ⊥
some-position I fits lying standing = elim fits [
  | inl f ↦ first f
  | inr f ↦ elim (cases_lt I.short I.long) [
    | inl less ↦ standing (record { x = 0; y = 0; way = Standing }) (record { in_x = omega (arith, f.0); in_y = omega (arith, f.1) }) (λ e. less) refl
    | inr equal ↦ first (omega (arith, f.0, equal, I.sides.ordered), omega (arith, f.1, equal, I.sides.ordered))
  ]
]
  where
    first : CaseFitsSo I Lying → ⊥
    first f = lying (record { x = 0; y = 0; way = Lying }) (record { in_x = omega (arith, f.0); in_y = omega (arith, f.1) }) (λ e. absurd (ways-apart e)) refl
