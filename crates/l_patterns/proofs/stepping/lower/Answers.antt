use Rattle.std.proofs.Common.{◌<◌, ◌≤◌, sym, subst, arith}
use Rattle.l_patterns.specs.declared.knowledge.Known.{Known}
use Rattle.l_patterns.specs.Progress.{gap_of, known_of}
use Rattle.l_patterns.proofs.ProgressLemmas.{narrowed, on-ok}
use Rattle.l_patterns.proofs.stepping.lower.Goals as goal

pub returns-clause-narrows : goal.returns-clause-narrows
returns-clause-narrows c =
    let i = c.args.q.inst in
    let f = c.args.f in
    let m = c.args.s.now.memo in
    let k = c.recall-k.result in
    let new : Known = record { low = k.low; high = c.min.result; built = k.built } in
    let o : (k.low < f.need) × (f.need ≤ k.high) = subst (λ (z : Known). (z.low < f.need) × (f.need ≤ z.high)) (sym c.recall-k.ensures.value) c.requires.opens in
    let less : gap_of new < gap_of (known_of i m f.region) = subst (λ (z : Known). gap_of new < gap_of z) c.recall-k.ensures.value (omega (arith, o.0, o.1, c.min.ensures)) in
    on-ok c.note.result (λ is. narrowed i f.region m c.note.new.s.memo new c.requires.there is less) c.note.ensures.memo
