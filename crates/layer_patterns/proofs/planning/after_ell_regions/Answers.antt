use Rattle.std.proofs.Common.{◌≡◌, ◌∙◌, length, max, sym, arith}
use Rattle.std.proofs.lemmas.Result.{IfOk-weaker}
use Rattle.block_tree.specs.Trees.{held_count}
use Rattle.layer_patterns.specs.Patterns.{ReachesEll}
use Rattle.layer_patterns.proofs.BoundLemmas.{ell-few, ell-greatest}
use Rattle.layer_patterns.proofs.PlaceLemmas.{ell-size, ell-unsearched}
use Rattle.layer_patterns.proofs.LayerLemmas.{never}
use Rattle.layer_patterns.proofs.planning.after_ell_regions.Goals as goal

pub returns-then-is_full-clause-ell : goal.returns-then-is_full-clause-ell
returns-then-is_full-clause-ell c = λ z a b n x y h. let u = c.is_full.ensures.0 c.if-is_full.true in omega (arith, u, ell-few c.args.inst c.args.most c.requires.most a b n x y h)

pub returns-then-not-is_search_size-clause-ell : goal.returns-then-not-is_search_size-clause-ell
returns-then-not-is_search_size-clause-ell c = λ z a b n x y h.
    let i = c.args.inst in
    let xs = c.args.px.now.normal in
    let ys = c.args.py.now.normal in
    let e = ell-unsearched i xs ys c.requires.places (ell-size i xs ys c.requires.places z) (λ s. never (sym c.if-not-is_search_size.true ∙ c.is_search_size.ensures.1 s)) a b n x y h in
    omega (arith, e)

pub returns-clause-ell : goal.returns-clause-ell
returns-clause-ell c =
    let i = c.args.inst in
    let t = c.in_ok-answer.answer.tree in
    IfOk-weaker c.improved.result (λ a. length a.spots ≡ max (length c.args.layer.spots) (held_count t.inst t.root.region t.root.block)) (λ a. ReachesEll i (length a.spots))
    (λ a e z p q n x y h.
    let whole = c.in_ok-answer.ensures.ell_size (ell-size i c.args.px.now.normal c.args.py.now.normal c.requires.places z) in
    let g = ell-greatest i _ (c.in_ok-answer.ensures.best whole) p q n x y h in omega (arith, e, g)) c.improved.ensures.count
