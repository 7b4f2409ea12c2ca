-- The parts of a cut tile the region: they lie in it, share no cell and leave none.
use Rattle.std.proofs.Common.{refl, ℕ, suc, ◌⊎◌, ◌-◌, ◌<◌, ◌↔◌, List, [], ◌∷◌, arith, inl, inr}
use Rattle.std.specs.List.{Any}
use Rattle.std.proofs.lemmas.Bool.{cases_lt}
use Rattle.plan_geometry.proofs.Recursive.{Each, EachPair, All-each, AllPairs-each_pair}
use Rattle.block_tree.specs.declared.regions.Region.{Region}
use Rattle.block_tree.specs.declared.regions.Cut.TheVariants.{K1, K2, K3, K4}
use Rattle.block_tree.specs.declared.parts.Part.{Part}
use Rattle.block_tree.specs.Regions.{Holds, side_x, side_y, SidesLaw}
use Rattle.block_tree.specs.Parts.{PartHolds, Tile, five_parts, ell_parts, FivePartsLaw, EllPartsLaw}
use Rattle.block_tree.proofs.AreaLemmas.{Rectangular, rectangular, by_wide, by_tall, by_low, by_left}

pub sides : SidesLaw
sides r o h i j = go (rectangular r o h) where
  go : Rectangular r → Holds r i j ↔ ((i < side_x r) × (j < side_y r))
  go (by_wide x y z w) = (λ k. (omega arith, omega arith), λ k. (omega arith, omega arith, inl (omega arith)))
  go (by_tall x y z w) = (λ k. (omega arith, omega arith), λ k. (omega arith, omega arith, inr (omega arith)))
  go (by_low x y z) = (λ k. (omega arith, elim k.2 [ inl a ↦ absurd (omega arith) | inr a ↦ omega arith ]), λ k. (omega arith, omega arith, inr (omega arith)))
  go (by_left x y z) = (λ k. (elim k.2 [ inl a ↦ omega arith | inr a ↦ absurd (omega arith) ], omega arith), λ k. (omega arith, omega arith, inl (omega arith)))

abbrev Inside : Region → Part → Type 0
Inside r p = (i j : ℕ) → PartHolds p i j → Holds r i j

abbrev Apart : Part → Part → Type 0
Apart p q = (i j : ℕ) → PartHolds p i j → PartHolds q i j → ⊥

-- one of the parts from this one on holds the cell
abbrev Some : ℕ → ℕ → List Part → Type 0
Some i j [] = ⊥
Some i j (p ∷ ps) = PartHolds p i j ⊎ Some i j ps

pub tiles : (r : Region) (ps : List Part) → Each (Inside r) ps → EachPair Apart ps → ((i j : ℕ) → Holds r i j → Some i j ps) → Tile r ps
tiles r ps a b c = record {
  inside = All-each (Inside r) ps a;
  apart = AllPairs-each_pair Apart ps b;
  whole = λ i j h. any i j ps (c i j h);
} where
  any : (i j : ℕ) (qs : List Part) → Some i j qs → Any (λ p. PartHolds p i j) qs
  any i j [] s = absurd s
  any i j (q ∷ qs) (inl s) = (0, q, omega arith, refl, s)
  any i j (q ∷ qs) (inr s) = let a = any i j qs s in (suc a.0, a.1, omega (arith, a.2), a.3, a.4)

pub five : FivePartsLaw
five r x1 x2 y1 y2 o h = tiles r (five_parts (side_x r) (side_y r) x1 x2 y1 y2) (
  λ i j k. (law i j).1 (omega arith, omega arith),
  (
    λ i j k. (law i j).1 (omega arith, omega arith),
    (
      λ i j k. (law i j).1 (omega arith, omega arith),
      (
        λ i j k. (law i j).1 (omega arith, omega arith),
        (λ i j k. (law i j).1 (omega arith, omega arith), tt),
      ),
    ),
  ),
) (
  (λ i j k l. omega arith, (λ i j k l. omega arith, (λ i j k l. omega arith, (λ i j k l. omega arith, tt)))),
  (
    (λ i j k l. omega arith, (λ i j k l. omega arith, (λ i j k l. omega arith, tt))),
    (
      (λ i j k l. omega arith, (λ i j k l. omega arith, tt)),
      ((λ i j k l. omega arith, tt), (tt, tt)),
    ),
  ),
)
    (λ i j k. cover i j ((law i j).0 k))
  where
    law : (i j : ℕ) → Holds r i j ↔ ((i < side_x r) × (j < side_y r))
    law i j = sides r o h.0 i j

    cover : (i j : ℕ) → (i < side_x r) × (j < side_y r) → Some i j (five_parts (side_x r) (side_y r) x1 x2 y1 y2)
    cover i j k =
        elim (cases_lt j y1) [
          | inl below ↦ elim (cases_lt i x2) [
            | inl left ↦ inl (record { own_x = i; own_y = j; on_x = omega arith; on_y = omega arith; held = (omega arith, omega arith, inl (omega arith)) })
            | inr right ↦ inr (inl (record { own_x = i - x2; own_y = j; on_x = omega arith; on_y = omega arith; held = (omega arith, omega arith, inl (omega arith)) }))
          ]
          | inr above ↦ elim (cases_lt i x1) [
            | inl left ↦ inr (inr (inl (record { own_x = i; own_y = j - y1; on_x = omega arith; on_y = omega arith; held = (omega arith, omega arith, inl (omega arith)) })))
            | inr right ↦ elim (cases_lt j y2) [
              | inl low ↦ elim (cases_lt i x2) [
                | inl middle ↦ inr (inr (inr (inr (inl (record { own_x = i - x1; own_y = j - y1; on_x = omega arith; on_y = omega arith; held = (omega arith, omega arith, inl (omega arith)) })))))
                | inr far ↦ inr (inl (record { own_x = i - x2; own_y = j; on_x = omega arith; on_y = omega arith; held = (omega arith, omega arith, inl (omega arith)) }))
              ]
              | inr high ↦ inr (inr (inr (inl (record { own_x = i - x1; own_y = j - y2; on_x = omega arith; on_y = omega arith; held = (omega arith, omega arith, inl (omega arith)) }))))
            ]
          ]
        ]

pub ell : EllPartsLaw
ell r (K1 x1 x2 y1) o h = tiles r (ell_parts r (K1 x1 x2 y1))
    (λ i j k. (law i j).1 (omega arith, omega arith), (λ i j k. (law i j).1 (omega arith, omega arith), tt))
    ((λ i j k l. elim k.held.2 [ inl a ↦ elim l.held.2 [ inl b ↦ omega arith | inr b ↦ omega arith ] | inr a ↦ elim l.held.2 [ inl b ↦ omega arith | inr b ↦ omega arith ] ], tt), (tt, tt))
    (λ i j k. cover i j ((law i j).0 k))
  where
    law : (i j : ℕ) → Holds r i j ↔ ((i < side_x r) × (j < side_y r))
    law i j = sides r o h.0 i j

    a : ℕ
    a = side_x r

    b : ℕ
    b = side_y r

    cover : (i j : ℕ) → (i < side_x r) × (j < side_y r) → Some i j (ell_parts r (K1 x1 x2 y1))
    cover i j k =
        elim (cases_lt i x1) [
          | inl left ↦ inl (record { own_x = i; own_y = j; on_x = omega arith; on_y = omega arith; held = (omega arith, omega arith, inl (omega arith)) })
          | inr right ↦ elim (cases_lt i x2) [
            | inl middle ↦ elim (cases_lt j y1) [
              | inl low ↦ inl (record { own_x = i; own_y = j; on_x = omega arith; on_y = omega arith; held = (omega arith, omega arith, inr (omega arith)) })
              | inr high ↦ inr (inl (record { own_x = side_x r - i - 1; own_y = side_y r - j - 1; on_x = omega arith; on_y = omega arith; held = (omega arith, omega arith, inr (omega arith)) }))
            ]
            | inr far ↦ inr (inl (record { own_x = side_x r - i - 1; own_y = side_y r - j - 1; on_x = omega arith; on_y = omega arith; held = (omega arith, omega arith, inl (omega arith)) }))
          ]
        ]
ell r (K2 c e) o h = tiles r (ell_parts r (K2 c e)) (
  λ i j k. (omega arith, omega arith, elim k.held.2 [ inl a ↦ inl (omega arith) | inr a ↦ inr (omega arith) ]),
  (λ i j k. (omega arith, omega arith, elim k.held.2 [ inl a ↦ inl (omega arith) | inr a ↦ inr (omega arith) ]), tt),
)
    ((λ i j k l. elim k.held.2 [ inl a ↦ omega arith | inr a ↦ omega arith ], tt), (tt, tt))
    cover
  where
    cover : (i j : ℕ) → Holds r i j → Some i j (ell_parts r (K2 c e))
    cover i j k =
        elim (cases_lt i c) [
          | inl left ↦ inl (record { own_x = i; own_y = j; on_x = omega arith; on_y = omega arith; held = (omega arith, omega arith, inl (omega arith)) })
          | inr right ↦ elim (cases_lt j e) [
            | inl low ↦ inl (record { own_x = i; own_y = j; on_x = omega arith; on_y = omega arith; held = (omega arith, omega arith, inr (omega arith)) })
            | inr high ↦ inr (inl (record {
              own_x = i - c;
              own_y = j - e;
              on_x = omega arith;
              on_y = omega arith;
              held = (omega arith, omega arith, elim k.2 [ inl a ↦ inl (omega arith) | inr a ↦ inr (omega arith) ]);
            }))
          ]
        ]
ell r (K3 d e) o h = tiles r (ell_parts r (K3 d e)) (
  λ i j k. (omega arith, omega arith, elim k.held.2 [ inl a ↦ inl (omega arith) | inr a ↦ inr (omega arith) ]),
  (λ i j k. (omega arith, omega arith, inr (omega arith)), tt),
)
    ((λ i j k l. elim l.held.2 [ inl a ↦ omega arith | inr a ↦ omega arith ], tt), (tt, tt))
    cover
  where
    cover : (i j : ℕ) → Holds r i j → Some i j (ell_parts r (K3 d e))
    cover i j k =
        elim (cases_lt j e) [
          | inl low ↦ inr (inl (record { own_x = r.big_x - i - 1; own_y = j; on_x = omega arith; on_y = omega arith; held = (omega arith, omega arith, inr (omega arith)) }))
          | inr high ↦ elim (cases_lt i d) [
            | inl left ↦ inl (record {
              own_x = i;
              own_y = j - e;
              on_x = omega arith;
              on_y = omega arith;
              held = (omega arith, omega arith, elim k.2 [ inl a ↦ inl (omega arith) | inr a ↦ inr (omega arith) ]);
            })
            | inr right ↦ elim k.2 [
              | inl a ↦ absurd (omega arith)
              | inr a ↦ inr (inl (record { own_x = r.big_x - i - 1; own_y = j; on_x = omega arith; on_y = omega arith; held = (omega arith, omega arith, inl (omega arith)) }))
            ]
          ]
        ]
ell r (K4 c e) o h = tiles r (ell_parts r (K4 c e)) (
  λ i j k. (omega arith, omega arith, elim k.held.2 [ inl a ↦ inl (omega arith) | inr a ↦ inr (omega arith) ]),
  (λ i j k. (omega arith, omega arith, inl (omega arith)), tt),
)
    ((λ i j k l. elim l.held.2 [ inl a ↦ omega arith | inr a ↦ omega arith ], tt), (tt, tt))
    cover
  where
    cover : (i j : ℕ) → Holds r i j → Some i j (ell_parts r (K4 c e))
    cover i j k =
        elim (cases_lt i c) [
          | inl left ↦ inr (inl (record { own_x = i; own_y = r.big_y - j - 1; on_x = omega arith; on_y = omega arith; held = (omega arith, omega arith, inl (omega arith)) }))
          | inr right ↦ elim (cases_lt j e) [
            | inl low ↦ inl (record {
              own_x = i - c;
              own_y = j;
              on_x = omega arith;
              on_y = omega arith;
              held = (omega arith, omega arith, elim k.2 [ inl a ↦ inl (omega arith) | inr a ↦ inr (omega arith) ]);
            })
            | inr high ↦ elim k.2 [
              | inl a ↦ inr (inl (record { own_x = i; own_y = r.big_y - j - 1; on_x = omega arith; on_y = omega arith; held = (omega arith, omega arith, inr (omega arith)) }))
              | inr a ↦ absurd (omega arith)
            ]
          ]
        ]
