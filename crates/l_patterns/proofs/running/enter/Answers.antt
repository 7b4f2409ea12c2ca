use Rattle.std.proofs.Common.{◌≡◌, ◌≤◌, true, false, Option, Some, None, IsSome, Bor, refl, sym, ◌∙◌, subst, arith}
use Rattle.std.proofs.Math.Nat.{le_refl}
use Rattle.std.specs.Option.{is_some, option_copied}
use Rattle.std.specs.Map.{lookup}
use Rattle.lru.specs.LruCache.{lru_cache, put_entries}
use Rattle.l_patterns.specs.declared.knowledge.Key.{Key}
use Rattle.l_patterns.specs.declared.knowledge.Known.{Known}
use Rattle.l_patterns.specs.Keys.{same_key, key_of}
use Rattle.l_patterns.specs.Progress.{fresh_of, gap_of}
use Rattle.l_patterns.proofs.FullLemmas.{full}
use Rattle.l_patterns.proofs.ProgressLemmas.{entered}
use Rattle.l_patterns.proofs.running.enter.Goals as goal

none-copied : (o : Option (Bor Known)) → is_some o ≡ false → option_copied o ≡ None
none-copied None h = refl
none-copied (Some x) h = cc

some-copied : (o : Option (Bor Known)) → is_some o ≡ true → IsSome (option_copied o)
some-copied None h = cc
some-copied (Some x) h = refl

pub returns-then-is_some-clause-enters : goal.returns-then-is_some-clause-enters
returns-then-is_some-clause-enters c = λ e.
    let s = c.args.s.now in
    let some : IsSome (lookup (same_key c.key_of-key.result) s.memo.entries) =
    subst (λ (o : Option Known). IsSome o) c.peek.ensures (some-copied c.peek.result (sym c.is_some.ensures ∙ c.if-is_some.true)) in
    record {
      cap = refl;
      there = subst (λ (z : Key). IsSome (lookup (same_key z) s.memo.entries)) c.key_of-key.ensures some;
      less = le_refl _;
      same = λ t. refl;
    }

pub returns-then-len-most-clause-full : goal.returns-then-len-most-clause-full
returns-then-len-most-clause-full c =
    let s = c.args.s.now in
    let none : lookup (same_key c.key_of-key.result) s.memo.entries ≡ None =
    sym c.peek.ensures ∙ none-copied c.peek.result (sym c.is_some.ensures ∙ c.if-is_some.false) in
    λ e. full c.args.q s c.args.f.region c.args.most c.requires.search c.requires.frame.reach
    (subst (λ (z : Key). lookup (same_key z) s.memo.entries ≡ None) c.key_of-key.ensures none) c.len.ensures.valid.0
    (omega (arith, c.if-len-most.true, c.len.ensures.len))

pub returns-clause-enters : goal.returns-clause-enters
returns-clause-enters c =
    let s = c.args.s.now in
    let none : lookup (same_key c.key_of-key.result) s.memo.entries ≡ None =
    sym c.peek.ensures ∙ none-copied c.peek.result (sym c.is_some.ensures ∙ c.if-is_some.false) in
    let m = s.memo in
    let r = c.args.f.region in
    let i = c.args.q.inst in
    let v = c.fresh-known.ensures.value in
    let small : gap_of (fresh_of i r) ≤ 16000000 = subst (λ (k : Known). gap_of k ≤ 16000000) v (omega (arith, c.fresh-known.ensures.bounds.small)) in
    λ e. entered i c.args.most r m c.note.new.s.memo (subst (λ (z : Key). lookup (same_key z) m.entries ≡ None) c.key_of-key.ensures none)
    (omega (arith, c.if-len-most.false, c.len.ensures.len)) c.requires.room
    (subst (λ (k : Known). c.note.new.s.memo ≡ lru_cache (put_entries same_key m (key_of r) k) m.cap) v c.in_ok-note.ensures.memo) small
