use Rattle.std.proofs.Common.{◌≡◌, ◌≤◌, ◌+◌, ◌⊎◌, inl, inr, true, false, length, drop, ◌∙◌, arith, rules}
use Rattle.weightings.specs.Weighting.{weight_of}
use Rattle.cert_rules.specs.Refute.{Refutes}
use Rattle.cert_rules.specs.declared.marks.Reading.TheVariants.{More, Ended}
use Rattle.cert_rules.proofs.MarkSteps.{over, wrong_mark, next_mark, marks_end, of_path, to_numbers}
use Rattle.cert_rules.proofs.marks.read_all.Goals as goal
use Rattle.cert_rules.proofs.marks.read_all.Goals.{in-More, in-Ended}

pub returns-then-ended : goal.returns-then-ended
returns-then-ended c =
    let r = of_path (Refutes c.args.sky.now.inst (weight_of c.args.sky.now.weighting) c.args.sky.now.least c.args.n c.args.marks.now) c.loop-mark.sky c.args.sky.now.inst
    c.args.sky.now.weighting c.args.sky.now.least c.args.n c.loop-mark.ended (drop c.loop-mark.mark-index c.args.marks.now) c.loop-mark.invariant.inst
    c.loop-mark.invariant.weighting c.loop-mark.invariant.least c.loop-mark.invariant.rest in (
      (λ h. absurd (search rules)),
      (λ h. absurd (over c.loop-mark.sky c.args.n c.loop-mark.ended c.args.marks.now c.loop-mark.mark-index c.if-ended.true (omega arith) (r.0 h))),
    )

pub returns-in-Wrong : goal.returns-in-Wrong
returns-in-Wrong c =
    let r = of_path (Refutes c.args.sky.now.inst (weight_of c.args.sky.now.weighting) c.args.sky.now.least c.args.n c.args.marks.now) c.loop-mark.sky c.args.sky.now.inst
    c.args.sky.now.weighting c.args.sky.now.least c.args.n c.loop-mark.ended (drop c.loop-mark.mark-index c.args.marks.now) c.loop-mark.invariant.inst
    c.loop-mark.invariant.weighting c.loop-mark.invariant.least c.loop-mark.invariant.rest in (
      (λ h. absurd (search rules)),
      (λ h. absurd (wrong_mark c.loop-mark.sky c.read_mark.new.sky c.args.n c.loop-mark.ended c.args.marks.now c.loop-mark.mark-index
          c.in_ok-read_mark.field-0 c.if-ended.false (omega arith) c.in-Wrong.is c.in_ok-read_mark.ensures.reading (r.0 h))),
    )

pub loop-mark-preserved : goal.loop-mark-preserved
loop-mark-preserved c =
    let r = of_path (Refutes c.args.sky.now.inst (weight_of c.args.sky.now.weighting) c.args.sky.now.least c.args.n c.args.marks.now) c.loop-mark.sky c.args.sky.now.inst
    c.args.sky.now.weighting c.args.sky.now.least c.args.n c.loop-mark.ended (drop c.loop-mark.mark-index c.args.marks.now) c.loop-mark.invariant.inst
    c.loop-mark.invariant.weighting c.loop-mark.invariant.least c.loop-mark.invariant.rest in
    let how : ((c.in_ok-read_mark.field-0 ≡ More) × (c.match-branch-2.ended ≡ false)) ⊎ ((c.in_ok-read_mark.field-0 ≡ Ended) × (c.match-branch-2.ended ≡ true)) =
    elim c.match-branch-2.branch [ in-More w ↦ inl (w.in-More.is, w.ended-is ∙ c.if-ended.false) | in-Ended w ↦ inr (w.in-Ended.is, w.ended-is) ] in
    let step = next_mark c.loop-mark.sky c.read_mark.new.sky c.args.n c.loop-mark.ended c.match-branch-2.ended c.args.marks.now c.loop-mark.mark-index
    c.in_ok-read_mark.field-0 c.if-ended.false (omega arith) c.in_ok-read_mark.ensures.kept.inst how c.in_ok-read_mark.ensures.reading in
    record {
      same = c.in_ok-read_mark.ensures.same;
      inst = c.in_ok-read_mark.ensures.kept.inst ∙ c.loop-mark.invariant.inst;
      weighting = c.in_ok-read_mark.ensures.kept.weighting ∙ c.loop-mark.invariant.weighting;
      least = c.in_ok-read_mark.ensures.kept.least ∙ c.loop-mark.invariant.least;
      depth = let d : length c.read_mark.new.sky.steps ≤ length c.loop-mark.sky.steps + 1 = c.in_ok-read_mark.ensures.deeper in omega arith;
      rest = to_numbers (Refutes c.args.sky.now.inst (weight_of c.args.sky.now.weighting) c.args.sky.now.least c.args.n c.args.marks.now) c.loop-mark.sky c.args.sky.now.inst
          c.args.sky.now.weighting c.args.sky.now.least c.args.n c.match-branch-2.ended c.read_mark.new.sky.steps (drop (c.loop-mark.mark-index + 1) c.args.marks.now)
          c.loop-mark.invariant.inst c.loop-mark.invariant.weighting c.loop-mark.invariant.least
          ((λ h. step.0 (r.0 h)), (λ h. r.1 (step.1 h)));
    }

pub returns : goal.returns
returns c =
    let e = marks_end c.loop-mark.sky c.args.n c.loop-mark.ended c.args.marks.now c.loop-mark.mark-index (omega arith) in
    let r = of_path (Refutes c.args.sky.now.inst (weight_of c.args.sky.now.weighting) c.args.sky.now.least c.args.n c.args.marks.now) c.loop-mark.sky c.args.sky.now.inst
    c.args.sky.now.weighting c.args.sky.now.least c.args.n c.loop-mark.ended (drop c.loop-mark.mark-index c.args.marks.now) c.loop-mark.invariant.inst
    c.loop-mark.invariant.weighting c.loop-mark.invariant.least c.loop-mark.invariant.rest in
    ((λ t. r.1 (e.1 t)), (λ h. e.0 (r.0 h)))
