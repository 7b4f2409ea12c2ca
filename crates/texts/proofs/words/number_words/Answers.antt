use Rattle.std.proofs.Common.{ap, ◌∙◌, ◌≡◌, ◌-◌, refl, arith, Option, Some, None, List, [], ℕ}
use Rattle.texts.specs.Lines.{words_left}
use Rattle.texts.specs.Words.{numbers_by}
use Rattle.texts.proofs.NumberLoop.{with_front, goes_on, ends, is_done}
use Rattle.texts.proofs.words.number_words.Goals as goal

starts : (read : Option (List ℕ × List (List ℕ))) → with_front [] read ≡ read
starts None = refl
starts (Some x) = refl

pub loop-place-init : goal.loop-place-init
loop-place-init c =
    let a = c.args in
    let n : a.count - 0 ≡ a.count = omega arith in
    rw c.new-numbers.ensures.items (starts (numbers_by a.most (a.count - 0) (words_left a.words)) ∙ ap (λ k. numbers_by a.most k (words_left a.words)) n)

pub returns-in_default : goal.returns-in_default
returns-in_default c =
    let l = c.loop-place in
    ends c.args.most l.numbers.items c.args.count l._place (words_left l.rest) (numbers_by c.args.most c.args.count (words_left c.args.words)) c.loop-place-test.true (rw c.from.ensures at c.in_default.ensures.number) l.invariant

pub loop-place-preserved : goal.loop-place-preserved
loop-place-preserved c =
    let l = c.loop-place in
    rw c.in_ok-push.ensures.items (goes_on c.args.most l.numbers.items c.args.count l._place (words_left l.rest) (words_left c.in-Some.after) c.in-Some.number (numbers_by c.args.most c.args.count (words_left c.args.words)) c.loop-place-test.true (rw c.from.ensures at c.in-Some.ensures.number) l.invariant)

pub returns : goal.returns
returns c =
    let l = c.loop-place in
    is_done c.args.most l.numbers.items c.args.count l._place (words_left l.rest) (numbers_by c.args.most c.args.count (words_left c.args.words)) c.loop-place-test.false l.invariant
