-- The root of a search.
use Rattle.std.proofs.Common.{◌≡◌, ◌≤◌, ◌<◌, ℕ, [], refl, ap, sym, subst, ◌∙◌, arith}
use Rattle.std.proofs.lemmas.Bool.{eq-eqb}
use Rattle.lru.proofs.Splits.{Contains-nil}
use Rattle.block_tree.specs.declared.regions.Region.{Region}
use Rattle.l_patterns.specs.declared.sides.Sides.{Sides}
use Rattle.l_patterns.specs.declared.knowledge.Known.{Known}
use Rattle.l_patterns.specs.declared.knowledge.Search.{Search}
use Rattle.l_patterns.specs.declared.trying.Frame.{Frame}
use Rattle.block_tree.specs.Regions.{side_x, side_y, rectangle}
use Rattle.block_tree.specs.Trees.{uniform}
use Rattle.block_tables.specs.Numbers.{Greatest}
use Rattle.block_tables.proofs.EntryLemmas.{down-one}
use Rattle.l_patterns.specs.Ells.{EllAll, Reach, root, written, IsGreatestEll, IsAtLeastUniform}
use Rattle.l_patterns.specs.Cuts.{AreSidesOf, Fits}
use Rattle.l_patterns.specs.Keys.{base}
use Rattle.l_patterns.specs.States.{AreBounds, Tried, IsSearch, IsFrame, IsGo, IsRoot, IsKnown}
use Rattle.l_patterns.proofs.MemoLemmas.{stands-reaches}
use Rattle.l_patterns.proofs.PartLemmas.{base-is}
use Rattle.l_patterns.proofs.EllLemmas.{rectangle-is}
use Rattle.l_patterns.proofs.CountLemmas.{reach-fits}

pub root-reach : (q : Sides) (r : Region) → IsRoot q r → Reach q.inst r
root-reach q r h = subst (λ (z : Region). Reach q.inst z) (sym h.is) (root h.down_x h.down_y)

-- the root with bounds that have not met is due
pub root-frame : (q : Sides) (r : Region) (k : Known) → IsRoot q r → AreBounds q.inst r k → k.low < k.high → IsFrame q (record { region = r; need = k.high; at = 0 })
root-frame q r k h b w = record {
  fits = reach-fits q (root-reach q r h);
  reach = root-reach q r h;
  some = omega (arith, w, b.cells);
  above = omega (arith, w, b.from);
  tried = λ j v cut n. absurd (omega (arith, v));
}

pub root-fits : (q : Sides) (r : Region) → IsRoot q r → Fits q r
root-fits q r h = reach-fits q (root-reach q r h)

-- a search that knows nothing
pub nothing-known : (q : Sides) (s : Search) → s.built.items ≡ [] → s.memo.entries ≡ [] → IsSearch q s
nothing-known q s b m = record {
  built = rw b (λ j w. absurd (omega (arith, w)));
  memo = rw m (λ e c. absurd (Contains-nil e c));
}

written-rectangle : (a b : ℕ) → written (rectangle a b) ≡ rectangle a b
written-rectangle a b = rw (eq-eqb a a refl) refl

pub root-written : (q : Sides) (r : Region) → IsRoot q r → written r ≡ r
root-written q r h = ap written h.is ∙ (written-rectangle h.a h.b ∙ sym h.is)

-- ---- what is known of the root at the end

pub greatest-of : (q : Sides) → AreSidesOf q → (s : Search) → IsSearch q s → (r : Region) → IsRoot q r → (k : Known) → IsKnown q s r k → k.high ≤ k.low → IsGreatestEll q.inst k.low
greatest-of q g s h r t k w met =
    let a = stands-reaches q g s.built.items h.built r (root-fits q r t) k.built k.low w.lower in
    let e : a.0 ≡ k.low = omega (arith, a.2, w.bounds.upper a.0 a.1, met) in
    let best : Greatest (EllAll q.inst r) k.low = record { reached = subst (EllAll q.inst r) e a.1; greatest = λ m v. omega (arith, w.bounds.upper m v, met) } in
    record { a = t.a; b = t.b; down_x = t.down_x; down_y = t.down_y; best = subst (λ (z : Region). Greatest (EllAll q.inst z) k.low) t.is best }

same-side_x : (a b : ℕ) → side_x (rectangle a b) ≡ a
same-side_x a b = rw (eq-eqb a a refl) refl

same-side_y : (a b : ℕ) → side_y (rectangle a b) ≡ b
same-side_y a b = rw (eq-eqb a a refl) refl

pub at-least-uniform : (q : Sides) (r : Region) → IsRoot q r → (k : Known) → AreBounds q.inst r k → IsAtLeastUniform q.inst k.low
at-least-uniform q r t k w = λ a b u v.
    let ea : t.a ≡ a = down-one q.inst q.inst.l_side t.a a t.down_x u in
    let eb : t.b ≡ b = down-one q.inst q.inst.w_side t.b b t.down_y v in
    let e : base q.inst r ≡ uniform q.inst a b =
    ap (base q.inst) t.is ∙ (base-is q.inst (rectangle t.a t.b) (rectangle-is t.a t.b) ∙ rw (same-side_x t.a t.b, same-side_y t.a t.b, ea, eb) refl) in
    omega (arith, e, w.from)

-- ---- the pending regions

-- a region that waits goes on at its next cut
pub waiting : (q : Sides) (f : Frame) (at : ℕ) → IsFrame q f → Tried q f.region f.need at → IsFrame q (record { region = f.region; need = f.need; at = at })
waiting q f at h t = record { fits = h.fits; reach = h.reach; some = h.some; above = h.above; tried = t }

-- a part of which more must be known starts at its first cut
pub due : (q : Sides) (s : Search) (r p : Region) (need : ℕ) → IsGo q s r p need → IsFrame q (record { region = p; need = need; at = 0 })
due q s r p need h = record { fits = h.fits; reach = h.reach; some = h.some; above = h.above; tried = λ j v cut n. absurd (omega (arith, v)) }
