use Rattle.std.proofs.Common.{◌≡◌, ◌+◌, ◌∙◌, ◌++◌, [], ◌∷◌, List, length, get_or, take, ap, sym, arith, append_assoc, length-append}
use Rattle.std.proofs.lemmas.List.{take_all, length_push}
use Rattle.plan_geometry.specs.declared.spots.Spot.{Spot}
use Rattle.contact_rules.specs.declared.spans.Span.{Span}
use Rattle.contact_rules.specs.Steps.{crossing, span_of}
use Rattle.contact_rules.proofs.RunSteps.{corner}
use Rattle.contact_rules.proofs.FewSteps.{crossing-few, crossing-yes, crossing-no}
use Rattle.contact_rules.proofs.spans.add_crossing.Goals as goal
use Rattle.contact_rules.proofs.spans.add_crossing.Goals.{then-is_crossing, else-is_crossing}

pub push-requires : goal.push-requires
push-requires c =
    let a = c.args.axis in
    let xs = c.args.spots.now in
    let i = c.loop-s.s-index in
    let old : List Span = crossing a c.args.inst c.args.gap c.args.line (take i xs) in
    let more : crossing a c.args.inst c.args.gap c.args.line (take (i + 1) xs) ≡ old ++ span_of a c.args.inst c.args.gap (get_or xs i corner) ∷ [] =
    crossing-yes a c.args.inst c.args.gap c.args.line i corner xs c.loop-s-test.true (sym c.is_crossing.ensures ∙ c.if-is_crossing.true) in
    let n : length (crossing a c.args.inst c.args.gap c.args.line (take (i + 1) xs)) ≡ length old + 1 = ap length more ∙ length_push old (span_of a c.args.inst c.args.gap (get_or xs i corner)) in
    let few = crossing-few a c.args.inst c.args.gap c.args.line (i + 1) xs c.requires.layout in
    let len : length c.loop-s.spans.items ≡ length c.args.spans.now.items + length old = ap length c.loop-s.invariant ∙ length-append c.args.spans.now.items old in
    omega (arith, c.requires.room)

pub loop-s-preserved : goal.loop-s-preserved
loop-s-preserved c =
    let a = c.args.axis in
    let xs = c.args.spots.now in
    let i = c.loop-s.s-index in
    let old : List Span = crossing a c.args.inst c.args.gap c.args.line (take i xs) in
    let s : Spot = get_or xs i corner in
    elim c.if-is_crossing.branch [
      | then-is_crossing w ↦
          let more : crossing a c.args.inst c.args.gap c.args.line (take (i + 1) xs) ≡ old ++ span_of a c.args.inst c.args.gap s ∷ [] =
          crossing-yes a c.args.inst c.args.gap c.args.line i corner xs c.loop-s-test.true (sym c.is_crossing.ensures ∙ w.if-is_crossing.true) in
          let fn : List Span = c.args.spans.now.items in
          let p : Span = span_of a c.args.inst c.args.gap s in
          let items : w.push.new.self.items ≡ fn ++ (old ++ p ∷ []) = rw (w.push.ensures.items, c.loop-s.invariant, w.covered.ensures) (append_assoc fn old (p ∷ [])) in
          rw more (rw w.spans-is items)
      | else-is_crossing w ↦
          rw (crossing-no a c.args.inst c.args.gap c.args.line i corner xs c.loop-s-test.true (sym c.is_crossing.ensures ∙ w.if-is_crossing.false)) (rw w.spans-is c.loop-s.invariant)
    ]

pub returns : goal.returns
returns c =
    let a = c.args.axis in
    let xs = c.args.spots.now in
    let i = c.loop-s.s-index in
    let all : crossing a c.args.inst c.args.gap c.args.line (take i xs) ≡ crossing a c.args.inst c.args.gap c.args.line xs = ap (λ (l : List Spot). crossing a c.args.inst c.args.gap c.args.line l) (take_all i xs c.loop-s-test.false) in
    let len : length c.loop-s.spans.items ≡ length c.args.spans.now.items + length (crossing a c.args.inst c.args.gap c.args.line (take i xs)) =
    ap length c.loop-s.invariant ∙ length-append c.args.spans.now.items (crossing a c.args.inst c.args.gap c.args.line (take i xs)) in
    record {
      spans = c.loop-s.invariant ∙ ap (λ (l : List Span). c.args.spans.now.items ++ l) all;
      few = omega (arith, crossing-few a c.args.inst c.args.gap c.args.line i xs c.requires.layout);
    }
