use Rattle.std.proofs.Common.{◌<◌, ◌≤◌, refl, subst}
use Rattle.std.proofs.Math.Nat.{le_refl}
use Rattle.l_patterns.specs.declared.knowledge.Known.{Known}
use Rattle.l_patterns.proofs.RootLemmas.{root-frame}
use Rattle.l_patterns.proofs.running.next_frame.Goals as goal

pub returns : goal.returns
returns c =
    let k = c.recall-known.result in (
      (
        root-frame c.args.q c.args.root k c.requires.root c.recall-known.ensures.known.bounds c.if-known.false,
        subst (λ (z : Known). (z.low < k.high) × (k.high ≤ z.high)) c.recall-known.ensures.value (c.if-known.false, le_refl k.high),
      ),
      rw c.in_default.is refl,
    )
