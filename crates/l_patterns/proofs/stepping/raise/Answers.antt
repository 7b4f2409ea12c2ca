use Rattle.std.proofs.Common.{◌<◌, ◌≤◌, ◌+◌, ◌-◌, refl, ap, sym, subst, length, arith}
use Rattle.l_patterns.specs.declared.knowledge.Known.{Known}
use Rattle.l_patterns.specs.Progress.{gap_of, known_of}
use Rattle.l_patterns.proofs.MemoLemmas.{built_of, built-by, extended, raised}
use Rattle.l_patterns.proofs.ProgressLemmas.{narrowed, on-ok}
use Rattle.l_patterns.proofs.stepping.raise.Goals as goal

pub note-requires-clause-search : goal.note-requires-clause-search
note-requires-clause-search c =
    let a = c.args in
    extended a.q a.s.now (record { memo = a.s.now.memo; built = c.push.new.self }) (built_of a.f a.cut a.first a.second) c.requires.search
    (built-by a.q c.requires.sides a.s.now.built.items c.requires.search.built a.f c.requires.frame a.cut a.first a.second c.requires.take.parts) refl c.in_ok-push.ensures.items

pub note-requires-clause-known : goal.note-requires-clause-known
note-requires-clause-known c =
    let a = c.args in
    let k = c.recall-k.result in
    let o : (k.low < a.f.need) × (a.f.need ≤ k.high) = subst (λ (z : Known). (z.low < a.f.need) × (a.f.need ≤ z.high)) (sym c.recall-k.ensures.value) c.requires.opens in
    raised a.q c.requires.sides a.s.now.built.items c.requires.search.built a.f c.requires.frame a.cut a.first a.second c.requires.take.parts
    k c.recall-k.ensures.known.bounds (omega (arith, o.0, c.requires.take.enough)) _ (ap length c.deref-built.ensures.value) c.push.new.self.items c.in_ok-push.ensures.items

pub returns-clause-narrows : goal.returns-clause-narrows
returns-clause-narrows c =
    let a = c.args in
    let i = a.q.inst in
    let f = a.f in
    let m = a.s.now.memo in
    let k = c.recall-k.result in
    let o : (k.low < f.need) × (f.need ≤ k.high) = subst (λ (z : Known). (z.low < f.need) × (f.need ≤ z.high)) (sym c.recall-k.ensures.value) c.requires.opens in
    let less : k.high - (a.first.count + a.second.count) < gap_of (known_of i m f.region) =
    subst (λ (z : Known). k.high - (a.first.count + a.second.count) < gap_of z) c.recall-k.ensures.value (omega (arith, o.0, o.1, c.requires.take.enough)) in
    on-ok c.note.result (λ is. narrowed i f.region m c.note.new.s.memo _ c.requires.there is less) c.note.ensures.memo
