-- Verdicts of the first entries, and their lines.
use Rattle.std.proofs.Common.{◌≡◌, ℕ, zero, suc, ◌+◌, ◌≤◌, ◌<◌, List, [], ◌∷◌, ◌++◌, length, get_or, take, drop, ap, refl, sym, subst, ◌∙◌, arith, append_assoc, eqb-true, eq-eqb}
use Rattle.std.specs.Prelude.{Bool, true, false, ◌==◌, ◌||◌}
use Rattle.std.proofs.Math.Bool.{or-false}
use Rattle.std.proofs.Math.Seq.{take-append-add}
use Rattle.std.proofs.lemmas.List.{append-nil, take-append-le, take_all, take_more, length-take, length-take-le, length-append}
use Rattle.std.proofs.lemmas.List.Folds.{list_any-append}
use Rattle.run_parts.specs.Written.{IsPrefixOf}
use Rattle.plan_entries.specs.declared.entries.Entry.{Entry}
use Rattle.report_text.specs.Reports.{done_text}
use Rattle.report_checker.specs.declared.verdicts.Verdict.{Verdict}
use Rattle.par_judge.specs.Judged.{AreVerdicts}
use Rattle.par_judge.proofs.Joined.{verdicts-none, verdicts-cons, verdicts-append, one-list}
use Rattle.check_mode.specs.Verdicts.{AreFirstVerdicts, is_no, any_no, line_of, verdict_lines, verdicts_text}
use Rattle.check_mode.specs.Checks.{done_if, begun_text}

-- ---- verdicts

pub few-first : (es : List Entry) (vs : List Verdict) → AreFirstVerdicts es vs → length vs ≤ length es
few-first es vs a = omega (arith, a.as_many, length-take (length vs) es)

pub all-first : (es : List Entry) (vs : List Verdict) → AreVerdicts es vs → AreFirstVerdicts es vs
all-first es vs a = subst (λ (l : List Entry). AreVerdicts l vs) (sym (take_all (length vs) es (omega (arith, a.as_many)))) a

rest-are : (n : ℕ) (e : Entry) (v : Verdict) (es : List Entry) (vs : List Verdict) → AreVerdicts (e ∷ es) (v ∷ vs) → AreVerdicts es vs
rest-are n e v es vs a = record { as_many = omega (arith, a.as_many); each = λ k x w h g. a.each (suc k) x w h g }

-- the first verdicts are those of the first entries
pub take-are : (n : ℕ) (es : List Entry) (vs : List Verdict) → AreVerdicts es vs → AreVerdicts (take n es) (take n vs)
take-are zero es vs a = verdicts-none
take-are (suc n) [] [] a = verdicts-none
take-are (suc n) [] (v ∷ vs) a = absurd (omega (arith, a.as_many))
take-are (suc n) (e ∷ es) [] a = absurd (omega (arith, a.as_many))
take-are (suc n) (e ∷ es) (v ∷ vs) a = verdicts-cons e v (take n es) (take n vs) (a.each 0 e v refl refl) (take-are n es vs (rest-are n e v es vs a))

pub take-first : (j : ℕ) (es : List Entry) (vs : List Verdict) → j ≤ length vs → AreVerdicts es vs → AreFirstVerdicts es (take j vs)
take-first j es vs le a = subst (λ n. AreVerdicts (take n es) (take j vs)) (sym (length-take-le j vs le)) (take-are j es vs a)

-- verdicts of the first entries are so whatever entries follow
pub first-in : (es fs : List Entry) (vs : List Verdict) → AreFirstVerdicts es vs → AreFirstVerdicts (es ++ fs) vs
first-in es fs vs a = subst (λ (l : List Entry). AreVerdicts l vs) (sym (take-append-le (length vs) es fs (few-first es vs a))) a

-- verdicts of all entries of a list, and of the first of those that follow
pub first-after : (es fs : List Entry) (vs ws : List Verdict) → AreVerdicts es vs → AreFirstVerdicts fs ws → AreFirstVerdicts (es ++ fs) (vs ++ ws)
first-after es fs vs ws a b =
    let count : length (vs ++ ws) ≡ length es + length ws = omega (arith, length-append vs ws, a.as_many) in
    let parts : take (length (vs ++ ws)) (es ++ fs) ≡ es ++ take (length ws) fs = ap (λ n. take n (es ++ fs)) count ∙ take-append-add es fs (length ws) in
    subst (λ (l : List Entry). AreVerdicts l (vs ++ ws)) (sym parts) (verdicts-append es (take (length ws) fs) vs ws a b)

pub no-more : (vs ws : List Verdict) → any_no (vs ++ ws) ≡ (any_no vs || any_no ws)
no-more vs ws = list_any-append is_no vs ws

pub no-next : (vs : List Verdict) (v : Verdict) → any_no (vs ++ v ∷ []) ≡ (any_no vs || is_no v)
no-next vs v = list_any-append is_no vs (v ∷ []) ∙ ap (λ b. any_no vs || b) (or-false (is_no v))

-- ---- lines

-- the lines of verdicts of the first entries do not depend on those that follow
pub lines-in : (es fs : List Entry) (vs : List Verdict) → length vs ≤ length es → verdict_lines (es ++ fs) vs ≡ verdict_lines es vs
lines-in es fs [] le = refl
lines-in [] fs (v ∷ vs) le = absurd (omega (arith, le))
lines-in (e ∷ es) fs (v ∷ vs) le = ap (λ t. line_of e v ++ t) (lines-in es fs vs (omega (arith, le)))

pub lines-after : (es fs : List Entry) (vs ws : List Verdict) → length vs ≡ length es → verdict_lines (es ++ fs) (vs ++ ws) ≡ verdict_lines es vs ++ verdict_lines fs ws
lines-after [] fs [] ws same = refl
lines-after [] fs (v ∷ vs) ws same = absurd (omega (arith, same))
lines-after (e ∷ es) fs [] ws same = absurd (omega (arith, same))
lines-after (e ∷ es) fs (v ∷ vs) ws same =
    ap (λ t. line_of e v ++ t) (lines-after es fs vs ws (omega (arith, same))) ∙ sym (append_assoc (line_of e v) (verdict_lines es vs) (verdict_lines fs ws))

-- one more line
pub lines-next : (es : List Entry) (vs : List Verdict) (v : Verdict) (d : Entry) → length vs < length es → verdict_lines es (vs ++ v ∷ []) ≡ verdict_lines es vs ++ line_of (get_or es (length vs) d) v
lines-next [] vs v d lt = absurd (omega (arith, lt))
lines-next (e ∷ es) [] v d lt = append-nil (line_of e v)
lines-next (e ∷ es) (w ∷ vs) v d lt =
    ap (λ t. line_of e w ++ t) (lines-next es vs v d (omega (arith, lt))) ∙ sym (append_assoc (line_of e w) (verdict_lines es vs) (line_of (get_or es (length vs) d) v))

pub line-more : (es : List Entry) (vs : List Verdict) (i : ℕ) (e : Entry) (d : Verdict) → i < length vs → length vs ≡ length es → e ≡ get_or es i e → verdict_lines es (take (i + 1) vs) ≡ verdict_lines es (take i vs) ++ line_of e (get_or vs i d)
line-more es vs i e d lt same is =
    let count : length (take i vs) ≡ i = length-take-le i vs (omega (arith, lt)) in
    let here : get_or es (length (take i vs)) e ≡ e = ap (λ k. get_or es k e) count ∙ sym is in
    ap (λ (ws : List Verdict). verdict_lines es ws) (take_more vs i d lt)
    ∙ lines-next es (take i vs) (get_or vs i d) e (omega (arith, lt, same, count))
    ∙ ap (λ (x : Entry). verdict_lines es (take i vs) ++ line_of x (get_or vs i d)) here

lines-none : (vs : List Verdict) → verdict_lines [] vs ≡ []
lines-none [] = refl
lines-none (v ∷ vs) = refl

-- the lines of the first verdicts, and then those of the others
pub lines-parts : (n : ℕ) (es : List Entry) (vs : List Verdict) → verdict_lines es vs ≡ verdict_lines es (take n vs) ++ verdict_lines (drop n es) (drop n vs)
lines-parts zero es vs = refl
lines-parts (suc n) es [] = refl
lines-parts (suc n) [] (v ∷ vs) = sym (lines-none (drop n vs))
lines-parts (suc n) (e ∷ es) (v ∷ vs) =
    ap (λ t. line_of e v ++ t) (lines-parts n es vs) ∙ sym (append_assoc (line_of e v) (verdict_lines es (take n vs)) (verdict_lines (drop n es) (drop n vs)))

-- ---- the text that is due

-- verdicts of the first entries are the first of all verdicts
pub are-first : (es : List Entry) (vs all : List Verdict) → AreFirstVerdicts es vs → AreVerdicts es all → take (length vs) all ≡ vs
are-first es vs all a b = one-list (take (length vs) es) vs a (take (length vs) all) (take-are (length vs) es all b)

pub begun-whole : (es : List Entry) (vs : List Verdict) → length vs ≡ length es → begun_text es vs ≡ verdicts_text es vs
begun-whole es vs same = ap (λ b. verdict_lines es vs ++ done_if b (length es)) (eq-eqb (length vs) (length es) same)

begun-part : (es : List Entry) (vs all : List Verdict) (b : Bool) → (length vs == length es) ≡ b → take (length vs) all ≡ vs → length all ≡ length es → IsPrefixOf (verdicts_text es all) (verdict_lines es vs ++ done_if b (length es))
begun-part es vs all true same first count =
    let whole : all ≡ vs = sym (take_all (length vs) all (omega (arith, count, eqb-true (length vs) (length es) same))) ∙ first in
    ([], ap (λ ws. verdicts_text es ws) whole ∙ sym (append-nil (verdicts_text es vs)))
begun-part es vs all false same first count =
    let more = verdict_lines (drop (length vs) es) (drop (length vs) all) in
    let parts : verdict_lines es all ≡ verdict_lines es vs ++ more = lines-parts (length vs) es all ∙ ap (λ ws. verdict_lines es ws ++ more) first in (
      more ++ done_text (length es),
      ap (λ t. t ++ done_text (length es)) parts
          ∙ append_assoc (verdict_lines es vs) more (done_text (length es))
          ∙ ap (λ t. t ++ (more ++ done_text (length es))) (sym (append-nil (verdict_lines es vs))),
    )

prefix-trans : (text front sent : List ℕ) → IsPrefixOf text front → IsPrefixOf front sent → IsPrefixOf text sent
prefix-trans text front sent (rest, is) (more, has) = (more ++ rest, is ∙ ap (λ t. t ++ rest) has ∙ append_assoc sent more rest)

-- the front of what was begun is one of the text that is due
pub begun-due : (es : List Entry) (vs all : List Verdict) (sent : List ℕ) → AreFirstVerdicts es vs → IsPrefixOf (begun_text es vs) sent → AreVerdicts es all → IsPrefixOf (verdicts_text es all) sent
begun-due es vs all sent first front are =
    prefix-trans (verdicts_text es all) (begun_text es vs) sent (begun-part es vs all (length vs == length es) refl (are-first es vs all first are) are.as_many) front
