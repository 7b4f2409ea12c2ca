use Rattle.std.proofs.Common.{◌≡◌, ◌<◌, ◌≤◌, ◌-◌, ℕ, subst, arith}
use Rattle.block_tree.specs.declared.regions.Region.{Region}
use Rattle.l_patterns.specs.Ells.{EllAll, written}
use Rattle.l_patterns.specs.declared.knowledge.Known.{Known}
use Rattle.l_patterns.specs.Progress.{known_of}
use Rattle.l_patterns.specs.States.{AreBounds}
use Rattle.l_patterns.proofs.PartLemmas.{fits-first, fits-second, fits-written, fails-by, go-first, go-second}
use Rattle.l_patterns.proofs.trying.weigh_parts.Goals as goal

pub recall-a-requires-clause-fits : goal.recall-a-requires-clause-fits
recall-a-requires-clause-fits c =
    let a = c.args in
    rw c.written_of-key_1.ensures (fits-written a.q a.first (fits-first a.q a.r c.requires.fits a.cut a.first a.second c.requires.parts))

pub recall-b-requires-clause-fits : goal.recall-b-requires-clause-fits
recall-b-requires-clause-fits c =
    let a = c.args in
    rw c.written_of-key_2.ensures (fits-written a.q a.second (fits-second a.q a.r c.requires.fits a.cut a.first a.second c.requires.parts))

pub returns-then-a-b : goal.returns-then-a-b
returns-then-a-b c =
    let a = c.args in
    let i = a.q.inst in
    let x = c.recall-a.result.high in
    let y = c.recall-b.result.high in
    fails-by a.q a.r c.requires.fits a.cut a.first a.second c.requires.parts a.need x y
    (subst (λ (z : Region). (n : ℕ) → EllAll i z n → n ≤ x) c.written_of-key_1.ensures c.recall-a.ensures.known.bounds.upper)
    (subst (λ (z : Region). (n : ℕ) → EllAll i z n → n ≤ y) c.written_of-key_2.ensures c.recall-b.ensures.known.bounds.upper) c.if-a-b.true

pub returns-then-a-b-2 : goal.returns-then-a-b-2
returns-then-a-b-2 c =
    let a = c.args in
    let i = a.q.inst in
    let m = a.s.now.memo in
    let n = a.need - c.recall-b.result.high in
    let w = c.if-a-b.false in
    let v = c.if-a-b-2.true in
    let k : AreBounds i (written a.first) c.recall-a.result = subst (λ (z : Region). AreBounds i z c.recall-a.result) c.written_of-key_1.ensures c.recall-a.ensures.known.bounds in
    let e : c.recall-a.result ≡ known_of i m (written a.first) = subst (λ (z : Region). c.recall-a.result ≡ known_of i m z) c.written_of-key_1.ensures c.recall-a.ensures.value in
    let o : (c.recall-a.result.low < n) × (n ≤ c.recall-a.result.high) = (omega (arith, w, v), omega (arith, w, v)) in
    rw c.written_of-key_1.ensures (go-first a.q a.r c.requires.fits a.cut a.first a.second c.requires.parts a.s.now n c.requires.reach c.requires.smaller_first
    (omega (arith, o.0, o.1, k.cells)) (omega (arith, o.0, k.from)) (subst (λ (z : Known). (z.low < n) × (n ≤ z.high)) e o))

pub returns-then-b-a : goal.returns-then-b-a
returns-then-b-a c =
    let a = c.args in
    let i = a.q.inst in
    let m = a.s.now.memo in
    let n = a.need - c.recall-a.result.high in
    let w = c.if-a-b.false in
    let v = c.if-b-a.true in
    let k : AreBounds i (written a.second) c.recall-b.result = subst (λ (z : Region). AreBounds i z c.recall-b.result) c.written_of-key_2.ensures c.recall-b.ensures.known.bounds in
    let e : c.recall-b.result ≡ known_of i m (written a.second) = subst (λ (z : Region). c.recall-b.result ≡ known_of i m z) c.written_of-key_2.ensures c.recall-b.ensures.value in
    let o : (c.recall-b.result.low < n) × (n ≤ c.recall-b.result.high) = (omega (arith, w, v), omega (arith, w, v)) in
    rw c.written_of-key_2.ensures (go-second a.q a.r c.requires.fits a.cut a.first a.second c.requires.parts a.s.now n c.requires.reach c.requires.smaller_second
    (omega (arith, o.0, o.1, k.cells)) (omega (arith, o.0, k.from)) (subst (λ (z : Known). (z.low < n) × (n ≤ z.high)) e o))

pub returns-else-b-a : goal.returns-else-b-a
returns-else-b-a c =
    let a = c.args in
    let i = a.q.inst in
    let m = a.s.now.memo in
    let n = a.need - c.recall-a.result.low in
    let w = c.if-need-a.false in
    let v = c.if-a-b-2.false in
    let k : AreBounds i (written a.second) c.recall-b.result = subst (λ (z : Region). AreBounds i z c.recall-b.result) c.written_of-key_2.ensures c.recall-b.ensures.known.bounds in
    let e : c.recall-b.result ≡ known_of i m (written a.second) = subst (λ (z : Region). c.recall-b.result ≡ known_of i m z) c.written_of-key_2.ensures c.recall-b.ensures.value in
    let o : (c.recall-b.result.low < n) × (n ≤ c.recall-b.result.high) = (omega (arith, w, v), omega (arith, w, v)) in
    rw c.written_of-key_2.ensures (go-second a.q a.r c.requires.fits a.cut a.first a.second c.requires.parts a.s.now n c.requires.reach c.requires.smaller_second
    (omega (arith, o.0, o.1, k.cells)) (omega (arith, o.0, k.from)) (subst (λ (z : Known). (z.low < n) × (n ≤ z.high)) e o))
