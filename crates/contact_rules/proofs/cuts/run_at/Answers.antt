use Rattle.std.proofs.Common.{◌≡◌, ◌∙◌, ◌++◌, List, ap, sym, subst}
use Rattle.std.specs.List.{All}
use Rattle.std.proofs.lemmas.List.Elements.{All-append}
use Rattle.contact_rules.specs.declared.spans.Span.{Span}
use Rattle.contact_rules.specs.Real.{other, real_side}
use Rattle.contact_rules.specs.Steps.{IsSpanWithin, IsFree, crossing}
use Rattle.contact_rules.proofs.SpanSteps.{crossing-spans, free-run, run-free}
use Rattle.contact_rules.proofs.cuts.run_at.Goals as goal

pub longest_free-requires : goal.longest_free-requires
longest_free-requires c =
    let a = c.args.axis in
    let I = c.args.inst in
    let g = c.args.gap in
    let l : List Span = crossing a I g c.args.line c.args.lower.now in
    let u : List Span = crossing a I g c.args.line c.args.upper.now in
    let e : c.as_slice.result.now ≡ l ++ u = c.as_slice.ensures.value ∙ (c.add_crossing-2.ensures.spans ∙ ap (λ (x : List Span). x ++ u) (c.add_crossing.ensures.spans ∙ ap (λ (x : List Span). x ++ l) c.clear.ensures)) in
    let side : c.real_side_along.result ≡ real_side (other a) I g = c.real_side_along.ensures.value ∙ ap (λ b. real_side b I g) c.other_axis.ensures in
    record {
      spans = subst (λ (x : List Span). All (IsSpanWithin c.real_side_along.result) x) (sym e) (subst (λ n. All (IsSpanWithin n) (l ++ u)) (sym side) (All-append (IsSpanWithin (real_side (other a) I g)) l u (crossing-spans a I g c.args.line c.args.lower.now c.requires.gap c.requires.lower_layout.inside) (crossing-spans a I g c.args.line c.args.upper.now c.requires.gap c.requires.upper_layout.inside)));
    }

pub returns-clause-bound : goal.returns-clause-bound
returns-clause-bound c = λ row n run.
    let a = c.args.axis in
    let I = c.args.inst in
    let g = c.args.gap in
    let l : List Span = crossing a I g c.args.line c.args.lower.now in
    let u : List Span = crossing a I g c.args.line c.args.upper.now in
    let e : c.as_slice.result.now ≡ l ++ u = c.as_slice.ensures.value ∙ (c.add_crossing-2.ensures.spans ∙ ap (λ (x : List Span). x ++ u) (c.add_crossing.ensures.spans ∙ ap (λ (x : List Span). x ++ l) c.clear.ensures)) in
    let side : c.real_side_along.result ≡ real_side (other a) I g = c.real_side_along.ensures.value ∙ ap (λ b. real_side b I g) c.other_axis.ensures in
    let f : IsFree (l ++ u) (real_side (other a) I g) row n = run-free a I g c.args.line row n c.args.lower.now c.args.upper.now run in
    c.longest_free.ensures.bound row n (subst (λ (x : List Span). IsFree x c.real_side_along.result row n) (sym e) (subst (λ k. IsFree (l ++ u) k row n) (sym side) f))

pub returns-clause-reached : goal.returns-clause-reached
returns-clause-reached c =
    let a = c.args.axis in
    let I = c.args.inst in
    let g = c.args.gap in
    let n = c.longest_free.result in
    let l : List Span = crossing a I g c.args.line c.args.lower.now in
    let u : List Span = crossing a I g c.args.line c.args.upper.now in
    let e : c.as_slice.result.now ≡ l ++ u = c.as_slice.ensures.value ∙ (c.add_crossing-2.ensures.spans ∙ ap (λ (x : List Span). x ++ u) (c.add_crossing.ensures.spans ∙ ap (λ (x : List Span). x ++ l) c.clear.ensures)) in
    let side : c.real_side_along.result ≡ real_side (other a) I g = c.real_side_along.ensures.value ∙ ap (λ b. real_side b I g) c.other_axis.ensures in
    let r = c.longest_free.ensures.reached in
    let f : IsFree (l ++ u) (real_side (other a) I g) r.0 n = subst (λ k. IsFree (l ++ u) k r.0 n) side (subst (λ (x : List Span). IsFree x c.real_side_along.result r.0 n) e r.1) in
    (r.0, free-run a I g c.args.line r.0 n c.args.lower.now c.args.upper.now f)
