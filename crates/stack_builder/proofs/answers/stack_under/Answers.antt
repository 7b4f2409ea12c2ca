use Rattle.std.proofs.Common.{◌↔◌, length, List, Bool, sym, subst}
use Rattle.stack_builder.specs.declared.lists.StackAnswer.{StackAnswer}
use Rattle.stack_builder.specs.declared.lists.StackAnswer.TheVariants.{Stack, Unmet}
use Rattle.stack_builder.specs.Goes.{GoesIn}
use Rattle.stack_builder.specs.Pairs.{GoTogether}
use Rattle.stack_builder.specs.Answers.{IsStackAnswer}
use Rattle.stack_builder.proofs.PairSteps.{least-same, none-same}
use Rattle.stack_builder.proofs.FirstPairs.{none-upon-first}
use Rattle.stack_builder.proofs.OneAnswer.{answer-unique, short-listed}
use Rattle.stack_builder.proofs.answers.stack_under.Goals as goal

pub returns-in-Some : goal.returns-in-Some
returns-in-Some c =
    let I = c.args.inst in
    let g = c.args.gap in
    let rules = c.args.rules.now in
    let vs = c.args.variants.now in
    let n = length vs in
    let a : StackAnswer = Stack c.new.result in
    let right : IsStackAnswer I g rules vs c.args.n a =
    rw c.new.ensures (least-same (GoesIn c.as_slice.result.now n) (GoTogether I g rules vs) n c.args.n (λ v w p q p' q'. subst (λ (l : List Bool). GoesIn l n v w ↔ GoTogether I g rules vs v w) (sym c.as_slice.ensures.value) (c.in_ok-goes.ensures.entries v w p q p' q')) c.in-Some.numbers.items (rw c.in-Some.is at c.in_ok-numbers.ensures)) in
    record {
      answer = right;
      only = λ other h. answer-unique I g rules vs c.args.n other a h right;
      short = λ le some. short-listed I g rules vs c.args.n a le some right;
    }

pub returns : goal.returns
returns c =
    let I = c.args.inst in
    let g = c.args.gap in
    let rules = c.args.rules.now in
    let vs = c.args.variants.now in
    let n = length vs in
    let a : StackAnswer = Unmet c.in_ok-unmet-in-None.unmet in
    let right : IsStackAnswer I g rules vs c.args.n a = (
      none-same (GoesIn c.as_slice.result.now n) (GoTogether I g rules vs) n c.args.n (λ v w p q p' q'. subst (λ (l : List Bool). GoesIn l n v w ↔ GoTogether I g rules vs v w) (sym c.as_slice.ensures.value) (c.in_ok-goes.ensures.entries v w p q p' q')) (rw c.in-None.is at c.in_ok-numbers.ensures),
      c.in_ok-unmet-in-None.ensures,
    ) in
    record {
      answer = right;
      only = λ other h. answer-unique I g rules vs c.args.n other a h right;
      short = λ le some. short-listed I g rules vs c.args.n a le some right;
    }

pub marked-requires-clause-all : goal.marked-requires-clause-all
marked-requires-clause-all c = λ _. (c.in_ok-first_refutes.ensures.0 c.if-branch.true).0

pub returns-then-branch : goal.returns-then-branch
returns-then-branch c =
    let I = c.args.inst in
    let g = c.args.gap in
    let rules = c.args.rules.now in
    let vs = c.args.variants.now in
    let a : StackAnswer = Unmet c.in_ok-unmet.unmet in
    let known = c.in_ok-first_refutes.ensures.0 c.if-branch.true in
    let right : IsStackAnswer I g rules vs c.args.n a = (
      none-upon-first I g rules vs c.args.n c.requires.gap c.requires.variants known.0 known.1 c.if-n-ge2.true,
      c.in_ok-unmet.ensures,
    ) in
    record {
      answer = right;
      only = λ other h. answer-unique I g rules vs c.args.n other a h right;
      short = λ le some. short-listed I g rules vs c.args.n a le some right;
    }
