use Rattle.std.proofs.Common.{◌≡◌, ◌+◌, ℕ, List, Option, Some, length, slice_index_or, arith, ap, sym, subst}
use Rattle.std.specs.Option.{option_map_or}
use Rattle.block_tree.specs.declared.nodes.Node.{Node}
use Rattle.block_tree.specs.declared.nodes.Block.TheVariants as block
use Rattle.l_patterns.specs.Ells.{written}
use Rattle.l_patterns.specs.States.{Stands, Makes}
use Rattle.l_patterns.proofs.TreeLemmas.{blank, read-built, first-before, second-before, first-fits, second-fits, first-stands, second-stands, cut-makes}
use Rattle.l_patterns.proofs.building.+build.Goals as goal

pub build-requires : goal.build-requires
build-requires t c =
    let q = c.args.q in
    let bs = c.args.built.now in
    let r = c.args.held.region in
    let j = c.in-Some.place in
    let s : Stands q.inst bs (length bs) (written r) (Some j) c.args.held.count = subst (λ (o : Option ℕ). Stands q.inst bs (length bs) (written r) o c.args.held.count) c.in-Some.is c.requires.stands in
    let m : option_map_or (λ (k : ℕ). k + 1) c.args.held.built 0 ≡ j + 1 = ap (λ (o : Option ℕ). option_map_or (λ (k : ℕ). k + 1) o 0) c.in-Some.is in
    let b = slice_index_or bs j blank in
    let e = read-built bs j s.0 in (
      omega (arith, first-before q bs c.requires.built r c.requires.fits j c.args.held.count s b e, m, c.decreases),
      (c.requires.built, (first-fits q bs c.requires.built r c.requires.fits j c.args.held.count s b e, first-stands q bs c.requires.built r c.requires.fits j c.args.held.count s b e)),
    )

pub build-requires-in-Some : goal.build-requires-in-Some
build-requires-in-Some t c =
    let q = c.args.q in
    let bs = c.args.built.now in
    let r = c.args.held.region in
    let j = c.in-Some.place in
    let s : Stands q.inst bs (length bs) (written r) (Some j) c.args.held.count = subst (λ (o : Option ℕ). Stands q.inst bs (length bs) (written r) o c.args.held.count) c.in-Some.is c.requires.stands in
    let m : option_map_or (λ (k : ℕ). k + 1) c.args.held.built 0 ≡ j + 1 = ap (λ (o : Option ℕ). option_map_or (λ (k : ℕ). k + 1) o 0) c.in-Some.is in
    let b = slice_index_or bs j blank in
    let e = read-built bs j s.0 in (
      omega (arith, second-before q bs c.requires.built r c.requires.fits j c.args.held.count s b e, m, c.decreases),
      (c.requires.built, (second-fits q bs c.requires.built r c.requires.fits j c.args.held.count s b e, second-stands q bs c.requires.built r c.requires.fits j c.args.held.count s b e)),
    )

pub returns-in_ok-parts-in-Some : goal.returns-in_ok-parts-in-Some
returns-in_ok-parts-in-Some t c =
    let q = c.args.q in
    let bs = c.args.built.now in
    let r = c.args.held.region in
    let n = c.args.held.count in
    let j = c.in-Some.place in
    let s : Stands q.inst bs (length bs) (written r) (Some j) n = subst (λ (o : Option ℕ). Stands q.inst bs (length bs) (written r) o n) c.in-Some.is c.requires.stands in
    let b = slice_index_or bs j blank in
    let e = read-built bs j s.0 in
    subst (λ (ns : List Node). Makes q.inst r n (record { region = r; block = block.Ell b.cut ns })) (sym c.in_ok-parts-in-Some.ensures)
    (cut-makes q bs c.requires.built r c.requires.fits j n s b e c.in_ok-first-in-Some.first c.in_ok-second-in-Some.second c.in_ok-first-in-Some.ensures c.in_ok-second-in-Some.ensures)
