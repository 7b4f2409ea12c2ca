-- Bounds with their certificates, and the layer with what is left of them.
use Rattle.std.proofs.Common.{◌≡◌, ℕ, ◌-◌, ◌≤◌, ◌⊎◌, List, [], ◌∷◌, length, sym, subst, refl, arith, inl, inr}
use Rattle.plan_geometry.specs.declared.instances.Inst.{Inst}
use Rattle.plan_geometry.specs.Layout.{CaseFits, area_bound_of}
use Rattle.plan_geometry.specs.Placed.{Placed}
use Rattle.partitions.specs.Partitions.{SameSides}
use Rattle.weightings.specs.declared.kinds.Weighting.{Weighting}
use Rattle.weightings.specs.declared.certs.Mark.{Mark}
use Rattle.weightings.specs.declared.certs.Mark.TheVariants.{Leaf}
use Rattle.weightings.specs.declared.certs.StripCut.{StripCut}
use Rattle.weightings.specs.declared.certs.Cert.TheVariants as certs
use Rattle.weightings.specs.Weighting.{weight_of, IsWeightBound}
use Rattle.weightings.specs.Lead.{IsLead}
use Rattle.cert_rules.specs.Refute.{IsRefutation}
use Rattle.strip_cuts.specs.Cuts.{AcceptsStrip}
use Rattle.strip_bound.specs.CutLists.{IsStripOf}
use Rattle.layer_patterns.specs.Patterns.{ReachesEll, HoldsBlocks, HoldsPatterns}
use Rattle.layer_planner.specs.declared.bounds.Known.{Known}
use Rattle.layer_planner.specs.Quality.{most_states, IsAtMostFamily, IsAtMostStrip, IsAtMostDual, HasLongWalk}
use Rattle.layer_planner.specs.Searched.{IsGrown, IsTooLong}
use Rattle.layer_planner.specs.Known.{IsKnown, IsSettled}
use Rattle.block_tree.specs.Trees.{uniform}
use Rattle.layer_planner.proofs.CertLemmas.{leaf-accepted, refuted-accepted, refutation-some, weighted-text}
use Rattle.layer_planner.proofs.StripLemmas.{strip-text, strip-bounds}
use Rattle.layer_planner.proofs.SideLemmas.{some-case, grid-within}

-- ---- bounds

pub lead-known : (given reduced : Inst) (g h : Weighting) (marks : List Mark) (n : ℕ) → SameSides given reduced → IsLead reduced g → IsWeightBound reduced (weight_of g) n → h ≡ g → marks ≡ Leaf ∷ []
    → IsKnown given reduced (record { bound = n; cert = certs.Weighted h marks })
lead-known given reduced g h marks n same l w eh em =
    subst (λ (x : Weighting). IsKnown given reduced (record { bound = n; cert = certs.Weighted x marks })) (sym eh)
    (subst (λ (ms : List Mark). IsKnown given reduced (record { bound = n; cert = certs.Weighted g ms })) (sym em) (record {
      accepted = record { same = same; holds = leaf-accepted reduced g n l w };
      short = inl (l.member, omega arith);
      in_range = λ few. weighted-text reduced g (Leaf ∷ []) l.member (omega arith) (omega arith);
    }))

pub refuted-known : (given reduced : Inst) (g : Weighting) (marks : List Mark) (n : ℕ) → SameSides given reduced → IsLead reduced g → IsRefutation reduced (weight_of g) n marks → length marks ≤ 500000
    → IsKnown given reduced (record { bound = n; cert = certs.Weighted g marks })
refuted-known given reduced g marks n same l r few = record {
  accepted = record { same = same; holds = refuted-accepted reduced g n marks l r };
  short = inl (l.member, few);
  in_range = λ small. weighted-text reduced g marks l.member (refutation-some reduced (weight_of g) n marks r) few;
}

pub strip-known : (given reduced : Inst) (table : List StripCut) (n : ℕ) → SameSides given reduced → IsStripOf reduced table → AcceptsStrip reduced (length table - 2) table → 2 ≤ length table → n ≡ length table - 2
    → IsKnown given reduced (record { bound = n; cert = certs.Strip table })
strip-known given reduced table n same s a some e = record {
  accepted = record { same = same; holds = subst (λ m. AcceptsStrip reduced m table) (sym e) a };
  short = tt;
  in_range = λ few. strip-text reduced table s some (omega (arith, e, some, few));
}

pub area-known : (given reduced : Inst) (n : ℕ) → SameSides given reduced → n ≡ area_bound_of given → IsKnown given reduced (record { bound = n; cert = certs.GivenArea })
area-known given reduced n same e = record {
  accepted = record { same = same; holds = omega (arith, e) };
  short = tt;
  in_range = λ few. refl;
}

-- where the better grid has as many cases as the bound, the strips allow no fewer
pub grid-strip : (I : Inst) (n : ℕ) → n ≤ uniform I I.l_side I.w_side → IsAtMostStrip I n
grid-strip I n le = λ m h. let w = grid-within I m (strip-bounds I m h) in omega (arith, le, w)

-- ---- the layer

-- more cases reach what fewer do
blocks-more : (I : Inst) (m n : ℕ) → m ≤ n → HoldsBlocks I m → HoldsBlocks I n
blocks-more I m n le h = record {
  lying = omega (arith, le, h.lying);
  standing = omega (arith, le, h.standing);
  first_level = λ k f. let x = h.first_level k f in omega (arith, le, x);
  four_blocks = λ z a b k x y p. let w = h.four_blocks z a b k x y p in omega (arith, le, w);
  five_blocks = λ z a b k x y p. let w = h.five_blocks z a b k x y p in omega (arith, le, w);
}

-- where blocks reach m cases, and L-regions n
pub patterns-of : (I : Inst) (m n : ℕ) → m ≤ n → HoldsBlocks I m → ReachesEll I n → HoldsPatterns I n
patterns-of I m n le h e = record { blocks = blocks-more I m n le h; ell_regions = e }

pub patterns-more : (I : Inst) (m n : ℕ) → m ≤ n → HoldsPatterns I m → HoldsPatterns I n
patterns-more I m n le h = record {
  blocks = blocks-more I m n le h.blocks;
  ell_regions = λ z a b k x y p. let w = h.ell_regions z a b k x y p in omega (arith, le, w);
}

-- what is known beforehand, and the layer of the patterns
pub record AreKnown (given reduced : Inst) (k : Known) (start : ℕ) : Type 0 where
  pub fits : CaseFits reduced
  pub known : IsKnown given reduced k
  pub family : IsAtMostFamily reduced k.bound
  pub strip : IsAtMostStrip reduced k.bound
  pub dual : IsAtMostDual reduced k.bound
  pub area : k.bound ≤ area_bound_of given
  pub patterns : HoldsPatterns reduced start

-- what is known beforehand, and a lesser bound in its place
pub still-known : (given reduced : Inst) (k l : Known) (start : ℕ) → CaseFits reduced → IsAtMostFamily reduced k.bound → IsAtMostStrip reduced k.bound → k.bound ≤ area_bound_of given → IsKnown given reduced l → l.bound ≤ k.bound → IsAtMostDual reduced l.bound → HoldsPatterns reduced start
    → AreKnown given reduced l start
still-known given reduced k l start fits family strip area known less dual patterns = record {
  fits = fits;
  known = known;
  family = λ h m x y. let f = family h m x y in omega (arith, f, less);
  strip = λ m x. let f = strip m x in omega (arith, f, less);
  dual = dual;
  area = omega (arith, area, less);
  patterns = patterns;
}

settled : (given reduced : Inst) (k : Known) (start : ℕ) (layer : Placed) → AreKnown given reduced k start → IsGrown reduced start k.bound layer → (length layer.spots ≡ k.bound) ⊎ HasLongWalk reduced (length layer.spots) most_states
    → IsSettled given reduced (record { layer = layer; known = k })
settled given reduced k start layer a g d =
    let p = patterns-more reduced start (length layer.spots) g.grown a.patterns in
    record {
      inst = g.inst;
      layer = g.layer;
      some = some-case reduced (length layer.spots) a.fits p.blocks.lying p.blocks.standing;
      within = g.within;
      known = a.known;
      family = a.family;
      strip = a.strip;
      dual = a.dual;
      area = a.area;
      patterns = p;
      decided = d;
    }

pub reached-settled : (given reduced : Inst) (k : Known) (start : ℕ) (layer : Placed) → AreKnown given reduced k start → IsGrown reduced start k.bound layer → length layer.spots ≡ k.bound
    → IsSettled given reduced (record { layer = layer; known = k })
reached-settled given reduced k start layer a g e = settled given reduced k start layer a g (inl e)

pub spent-settled : (given reduced : Inst) (k : Known) (start : ℕ) (layer : Placed) (g : Weighting) → AreKnown given reduced k start → IsLead reduced g → IsGrown reduced start k.bound layer → IsTooLong reduced (weight_of g) (length layer.spots) most_states
    → IsSettled given reduced (record { layer = layer; known = k })
spent-settled given reduced k start layer g a l w t =
    settled given reduced k start layer a w (inr (record { lead = g; is_lead = l; least = t.least; is_least = t.is_least; longer = t.longer }))

pub refuted-settled : (given reduced : Inst) (k : Known) (start : ℕ) (layer : Placed) (g : Weighting) (marks : List Mark) (n : ℕ) → AreKnown given reduced k start → IsLead reduced g → IsGrown reduced start k.bound layer
    → IsRefutation reduced (weight_of g) (length layer.spots) marks → length marks ≤ 500000 → n ≡ length layer.spots
    → IsSettled given reduced (record { layer = layer; known = record { bound = n; cert = certs.Weighted g marks } })
refuted-settled given reduced k start layer g marks n a l w r few e =
    let new : Known = record { bound = n; cert = certs.Weighted g marks } in
    let q : IsRefutation reduced (weight_of g) n marks = subst (λ m. IsRefutation reduced (weight_of g) m marks) (sym e) r in
    settled given reduced new start layer
    (record {
      fits = a.fits;
      known = refuted-known given reduced g marks n a.known.accepted.same l q few;
      family = λ h m x y. let f = a.family h m x y in omega (arith, e, f, w.within);
      strip = λ m x. let f = a.strip m x in omega (arith, e, f, w.within);
      dual = λ t m few d x. let f = a.dual t m few d x in omega (arith, e, f, w.within);
      area = omega (arith, e, a.area, w.within);
      patterns = a.patterns;
    })
    (record { inst = w.inst; layer = w.layer; grown = w.grown; within = omega (arith, e) })
    (inl (sym e))
