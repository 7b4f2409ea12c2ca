use Rattle.std.proofs.Common.{◌≡◌, ℕ, ◌-◌, length, subst, arith}
use Rattle.pallet_choice.specs.Text.{tail_value, tail_text}
use Rattle.pallet_choice.specs.Tails.{IsLongestTail}
use Rattle.pallet_choice.proofs.TailBytes.{got_tail, no_tail}
use Rattle.pallet_choice.proofs.tails.get_choice.Goals as goal

pub overflow_sub-len : goal.overflow_sub-len
overflow_sub-len c =
    let g = got_tail c.args.bytes.now c.in-Ok.rest.now (tail_value c.in-Ok.tail) c.in-Ok.ensures.read c.in-Ok.ensures.rest in
    let n = g.len in
    omega arith

pub returns-in-Ok-clause-found : goal.returns-in-Ok-clause-found
returns-in-Ok-clause-found c =
    let g = got_tail c.args.bytes.now c.in-Ok.rest.now (tail_value c.in-Ok.tail) c.in-Ok.ensures.read c.in-Ok.ensures.rest in
    let n = g.len in
    let same : length (tail_text (tail_value c.in-Ok.tail)) ≡ length c.args.bytes.now - length c.in-Ok.rest.now = omega arith in
    subst (λ (len : ℕ). IsLongestTail c.args.bytes.now (tail_value c.in-Ok.tail) len) same g.longest

pub returns-in-Err-Left-clause-none : goal.returns-in-Err-Left-clause-none
returns-in-Err-Left-clause-none c = λ _. no_tail c.args.bytes.now c.in-Err-Left.field-0-0 (rw c.in-Err-Left.field-0-is at c.in-Err-Left.ensures.read)
