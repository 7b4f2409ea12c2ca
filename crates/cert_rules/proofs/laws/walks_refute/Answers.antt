use Rattle.std.proofs.Common.{List, append-nil, sym, subst, []}
use Rattle.std.specs.Prelude.{map}
use Rattle.cert_rules.specs.Corner.{State}
use Rattle.cert_rules.specs.Walk.{walked, mark_of}
use Rattle.cert_rules.specs.Refute.{Refutes, RefutesEach}
use Rattle.weightings.specs.declared.certs.Mark.{Mark}
use Rattle.cert_rules.proofs.Whole.{walked-refutes}
use Rattle.cert_rules.proofs.laws.walks_refute.Goals as goal

pub returns : goal.returns
returns c = λ i g q n k pos ended none.
    subst (λ (l : List Mark). Refutes i g q n l) (append-nil (map (mark_of i g q n) (walked i g q n k).met))
    (walked-refutes i g q n k pos none [] (subst (λ (l : List State). RefutesEach i g q n l []) (sym ended) tt))
