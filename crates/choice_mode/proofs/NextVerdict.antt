-- The verdict of the next entry, behind those of the entries before it.
use Rattle.std.proofs.Common.{◌≡◌, ◌∙◌, List, [], ◌∷◌, ◌++◌, ap, sym, subst}
use Rattle.std.proofs.lemmas.List.{append-nil}
use Rattle.plan_entries.specs.declared.entries.Entry.{Entry}
use Rattle.report_checker.specs.declared.verdicts.Verdict.{Verdict}
use Rattle.report_checker.specs.Verdicts.{IsVerdict}
use Rattle.par_judge.specs.Judged.{AreVerdicts}
use Rattle.par_judge.proofs.Joined.{verdicts-none, verdicts-cons, verdicts-append}
use Rattle.check_mode.specs.Verdicts.{AreFirstVerdicts, line_of, verdict_lines}
use Rattle.check_mode.proofs.VerdictFacts.{few-first, all-first, first-in, lines-in, lines-after}

pub verdicts-next : (before : List Entry) (vs : List Verdict) (e : Entry) (v : Verdict) → AreVerdicts before vs → IsVerdict e v → AreVerdicts (before ++ e ∷ []) (vs ++ v ∷ [])
verdicts-next before vs e v are is = verdicts-append before (e ∷ []) vs (v ∷ []) are (verdicts-cons e v [] [] is verdicts-none)

pub line-next : (before : List Entry) (vs : List Verdict) (e : Entry) (v : Verdict) → AreVerdicts before vs → verdict_lines (before ++ e ∷ []) (vs ++ v ∷ []) ≡ verdict_lines before vs ++ line_of e v
line-next before vs e v are =
    lines-after before (e ∷ []) vs (v ∷ []) are.as_many ∙ ap (λ t. verdict_lines before vs ++ t) (append-nil (line_of e v))

-- verdicts of the entries before, whatever follows them
pub first-of : (all before now : List Entry) (vs : List Verdict) → all ≡ before ++ now → AreVerdicts before vs → AreFirstVerdicts all vs
first-of all before now vs parts are = subst (λ (l : List Entry). AreFirstVerdicts l vs) (sym parts) (first-in before now vs (all-first before vs are))

pub lines-of : (all before now : List Entry) (vs : List Verdict) → all ≡ before ++ now → AreVerdicts before vs → verdict_lines all vs ≡ verdict_lines before vs
lines-of all before now vs parts are =
    ap (λ (l : List Entry). verdict_lines l vs) parts ∙ lines-in before now vs (few-first before vs (all-first before vs are))
