use Rattle.std.proofs.Common.{rules, arith, ◌≡◌, inl, inr, sym, ◌∙◌}
use Rattle.std.proofs.lemmas.Bool.{cases_lt}
use Rattle.partitions.proofs.SameSides.{still_fits}
use Rattle.minimum_size.proofs.Areas.{small_area}
use Rattle.minimum_size.proofs.Reduced.{shrunk_serves, shrunk_from}
use Rattle.minimum_size.proofs.reduction.reduce.Goals as goal

pub loop-short-preserved : goal.loop-short-preserved
loop-short-preserved c =
    let inst = c.args.inst in
    let small = c.shrunk-small.result in
    let e = c.shrunk-small.ensures in
    let s = shrunk_from inst small c.loop-long.long c.loop-short.short e.long e.short e.x_side e.y_side in
    record {
      from_one = omega arith;
      no_shorter_long = c.loop-short.invariant.no_shorter_long;
      no_shorter_short = λ other h same. elim (cases_lt c.loop-short.short other.short) [
        | inl lt ↦ omega (arith, lt)
        | inr ge ↦
            let least = c.loop-short.invariant.no_shorter_short other h same in
            let same_short : other.short ≡ small.short = let f = e.short in omega (arith, ge, least, f) in
            let all = shrunk_serves inst small other s h (same ∙ sym e.long) same_short in
            let yes = c.same_sides.ensures.1 all.0 in
            absurd (let no = c.if-same_sides.false in search rules)
      ];
    }

pub returns-then-same_sides-clause-fits : goal.returns-then-same_sides-clause-fits
returns-then-same_sides-clause-fits c =
    still_fits c.args.inst c.shrunk-small.result (c.same_sides.ensures.0 c.if-same_sides.true) c.requires

pub returns-then-same_sides-clause-area : goal.returns-then-same_sides-clause-area
returns-then-same_sides-clause-area c =
    small_area c.args.inst c.shrunk-small.result (c.same_sides.ensures.0 c.if-same_sides.true) c.requires
