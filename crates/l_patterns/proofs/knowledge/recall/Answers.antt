use Rattle.std.proofs.Common.{◌≡◌, true, Some, None, refl, sym, subst}
use Rattle.std.specs.Map.{lookup}
use Rattle.lru.proofs.CallerLemmas.{Contains-lookup}
use Rattle.block_tree.specs.declared.regions.Region.{Region}
use Rattle.l_patterns.specs.declared.knowledge.Key.{Key}
use Rattle.l_patterns.specs.Keys.{same_key, key_of}
use Rattle.l_patterns.specs.States.{IsKnown}
use Rattle.l_patterns.proofs.MemoLemmas.{same-key}
use Rattle.l_patterns.proofs.knowledge.recall.Goals as goal

pub returns-in-Some-clause-known : goal.returns-in-Some-clause-known
returns-in-Some-clause-known c =
    let found = Contains-lookup _ c.args.s.now.memo.entries c.in-Some.known.now (sym c.in-Some.ensures) in
    let at : same_key (key_of c.args.r) found.0 ≡ true = subst (λ (z : Key). same_key z found.0 ≡ true) c.key_of-key.ensures found.2 in
    let memo = c.requires.search.memo (found.0, c.in-Some.known.now) found.1 in
    subst (λ (z : Region). IsKnown c.args.q c.args.s.now z c.in-Some.known.now) (sym (same-key c.args.r found.0 at)) (record { bounds = memo.bounds; lower = memo.lower })

pub returns-in-Some-clause-value : goal.returns-in-Some-clause-value
returns-in-Some-clause-value c =
    let e : lookup (same_key (key_of c.args.r)) c.args.s.now.memo.entries ≡ Some c.in-Some.known.now =
    subst (λ (z : Key). lookup (same_key z) c.args.s.now.memo.entries ≡ Some c.in-Some.known.now) c.key_of-key.ensures (sym c.in-Some.ensures) in
    rw e refl

pub returns-in-None-clause-value : goal.returns-in-None-clause-value
returns-in-None-clause-value c =
    let e : lookup (same_key (key_of c.args.r)) c.args.s.now.memo.entries ≡ None =
    subst (λ (z : Key). lookup (same_key z) c.args.s.now.memo.entries ≡ None) c.key_of-key.ensures (sym c.in-None.ensures) in
    rw e c.fresh.ensures.value
