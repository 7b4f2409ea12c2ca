use Rattle.std.proofs.Common.{◌≡◌, ◌∙◌, ◌+◌, ◌-◌, ◌≤◌, ◌++◌, ◌==◌, sym, refl, arith, length, take, drop, ap, rules}
use Rattle.std.proofs.lemmas.List.{drop-drop, length-drop}
use Rattle.std.proofs.Math.Seq.{take-add}
use Rattle.std.specs.Prelude.{◌&&◌, nat_lt, min}
use Rattle.plan_io.specs.Causes.{one_more}
use Rattle.plan_io.proofs.Pieces.{fed}
use Rattle.plan_io.proofs.memory_streams.MemSourceSource.read.Goals as goal

pub returns-clause-past : goal.returns-clause-past
returns-clause-past c =
    let bytes = c.self.inside.bytes.items in
    let at = c.self.inside.at in
    let n = c.min-count.result in
    let count : n ≤ length bytes - at = search rules in
    let inside : at ≤ length bytes = search rules in
    let copied = c.copy_from_slice.ensures.after in
    let src : c.deref-2.result.now ≡ bytes = search rules in
    let seen : take at bytes ≡ c.args.self.now.given = ap (λ s. s.given) c.self.view_is in
    let next = fed bytes c.args.into.now c.copy_from_slice.new.self at n (at + n - at) (omega arith) (omega arith) (copied ∙ ap (λ b. take (at + n - at) (drop at b)) src) in
    let given = next ∙ ap (λ t. t ++ take n (c.copy_from_slice.new.self ++ drop n c.args.into.now)) seen in
    let faults : c.self.inside.failures ≡ c.args.self.now.faults = ap (λ s. s.faults) c.self.view_is in
    rw (given, c.is_end-self-inside.ensures, faults) refl

pub returns-clause-exact : goal.returns-clause-exact
returns-clause-exact c =
    let bytes = c.self.inside.bytes.items in
    let at = c.self.inside.at in
    let n = c.min-count.result in
    let room : length (c.copy_from_slice.new.self ++ drop n c.args.into.now) ≡ length c.args.into.now = search rules in
    let end : c.is_end-self-inside.result ≡ ((n == 0) && nat_lt 0 (length c.args.into.now)) = c.is_end-self-inside.ensures ∙ ap (λ k. (n == 0) && nat_lt 0 k) room in
    let calls : c.saturating_add-self-inside.result ≡ one_more c.self.inside.count = search rules in
    let taken : n ≡ min (min c.args.self.now.piece (length c.args.into.now)) (length c.args.self.now.left) = rw (sym c.self.view_is) (rw (length-drop at bytes) (search rules)) in
    (search rules, taken, rw (sym c.self.view_is) (rw (take-add at n bytes, sym (drop-drop n at bytes), end, calls) refl))
