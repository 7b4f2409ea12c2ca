use Rattle.std.proofs.Common.{◌≡◌, true, ap, sym, subst, ◌∙◌, inl, inr}
use Rattle.lru.specs.LruCache.{lru_cache, put_entries}
use Rattle.lru.proofs.CallerLemmas.{Contains-put_entries}
use Rattle.l_patterns.specs.declared.knowledge.Key.{Key}
use Rattle.l_patterns.specs.Keys.{same_key, region_of}
use Rattle.l_patterns.proofs.MemoLemmas.{same-key, noted}
use Rattle.l_patterns.proofs.knowledge.note.Goals as goal

pub returns-clause-search : goal.returns-clause-search
returns-clause-search c =
    let bs = c.args.s.now.built.items in
    let r = c.args.r in
    record {
      built = c.requires.search.built;
      memo = λ e there. elim (Contains-put_entries same_key c.args.s.now.memo c.key_of-key.result c.args.k e (rw c.in_ok-put.ensures.entries at there)) [
        | inl old ↦ c.requires.search.memo e old
        | inr put ↦ elim put.1 [
          | inl is ↦ noted c.args.q bs r c.args.k c.requires.known e put.0 (ap (λ (z : Key). region_of z) (is ∙ c.key_of-key.ensures))
          | inr under ↦ noted c.args.q bs r c.args.k c.requires.known e put.0
              (sym (same-key r e.0 (subst (λ (z : Key). same_key z e.0 ≡ true) c.key_of-key.ensures under.2)))
        ]
      ];
    }

pub returns-clause-memo : goal.returns-clause-memo
returns-clause-memo c =
    let m = c.args.s.now.memo in
    subst (λ (z : Key). c.put.new.self ≡ lru_cache (put_entries same_key m z c.args.k) m.cap) c.key_of-key.ensures c.in_ok-put.ensures.entries
