-- Two bests with one text tell the same.
use Rattle.std.proofs.Common.{◌≡◌, ◌∙◌, ℕ, ◌≤◌, List, [], ◌∷◌, map, Option, Some, None, refl, sym, ap}
use Rattle.std.specs.Prelude.{codes, decimal, option_map, IfSome}
use Rattle.std.specs.List.{AllByRecursion}
use Rattle.std.proofs.lemmas.List.{append-nil}
use Rattle.plan_io.specs.Numbers.{number_of}
use Rattle.plan_io.proofs.NumberTexts.{number_back}
use Rattle.texts.specs.Lines.{whole_lines, text_of, words_of, spaced}
use Rattle.texts.proofs.LineEnds.{IsPlain, whole_text}
use Rattle.texts.proofs.Parsers.{IsWord, few_wide, words_spaced, plain_spaced, some_is}
use Rattle.pallet_choice.specs.Text.{told_words}
use Rattle.case_design.specs.declared.best.Cover.{Cover}
use Rattle.case_design.specs.Text.{covers_told, may_told, best_words, rival_line, best_lines}
use Rattle.case_design.specs.Laws.{IsWritten, BestsHaveOneText}

-- ---- one line

told_solid : (name unit : List ℕ) (entry : ℕ × ℕ) → IsWord name → IsWord unit → IsWritten entry → AllByRecursion IsWord (told_words name unit entry)
told_solid name unit entry is_name is_unit w = (is_name, (few_wide entry.0 w.0, (is_unit, (few_wide entry.1 w.1, tt))))

one_number : (m n : ℕ) → m ≤ 9999999999 → n ≤ 9999999999 → decimal m ≡ decimal n → m ≡ n
one_number m n few less same = some_is m n (sym (number_back m few) ∙ ap number_of same ∙ number_back n less)

one_told : (name unit : List ℕ) (entry other : ℕ × ℕ) → IsWritten entry → IsWritten other → told_words name unit entry ≡ told_words name unit other → entry ≡ other
one_told name unit entry other w v same =
    let numbers : decimal entry.0 ≡ decimal other.0 = cc in
    let cells : decimal entry.1 ≡ decimal other.1 = cc in
    ap (λ (n : ℕ). (n, entry.1)) (one_number entry.0 other.0 w.0 v.0 numbers) ∙ ap (λ (n : ℕ). (other.0, n)) (one_number entry.1 other.1 w.1 v.1 cells)

same_words : (w v : List ℕ) (ws vs : List (List ℕ)) → AllByRecursion IsWord (w ∷ ws) → AllByRecursion IsWord (v ∷ vs) → spaced (w ∷ ws) ≡ spaced (v ∷ vs) → w ∷ ws ≡ v ∷ vs
same_words w v ws vs solid other same = sym (words_spaced w ws solid) ∙ ap words_of same ∙ words_spaced v vs other

-- ---- the line of the best

none_solid : AllByRecursion IsWord (best_words None)
none_solid = (refl, (refl, tt))

best_solid : (entry : ℕ × ℕ) → IsWritten entry → AllByRecursion IsWord (told_words (codes "best") (codes "covers") entry)
best_solid entry w = told_solid (codes "best") (codes "covers") entry refl refl w

none_or_told : (entry : ℕ × ℕ) → IsWritten entry → spaced (best_words None) ≡ spaced (told_words (codes "best") (codes "covers") entry) → ⊥
none_or_told entry w same =
    let words = same_words (codes "best") (codes "best") (codes "none" ∷ []) (decimal entry.0 ∷ codes "covers" ∷ decimal entry.1 ∷ []) none_solid (best_solid entry w) same in
    absurd cc

one_best : (b c : Option Cover) → IfSome (option_map covers_told b) IsWritten → IfSome (option_map covers_told c) IsWritten → spaced (best_words b) ≡ spaced (best_words c) → option_map covers_told b ≡ option_map covers_told c
one_best None None w v same = refl
one_best None (Some c) w v same = absurd (none_or_told (covers_told c) v same)
one_best (Some b) None w v same = absurd (none_or_told (covers_told b) w (sym same))
one_best (Some b) (Some c) w v same =
    ap (λ (e : ℕ × ℕ). Some e) (one_told (codes "best") (codes "covers") (covers_told b) (covers_told c) w v
    (same_words (codes "best") (codes "best") _ _ (best_solid (covers_told b) w) (best_solid (covers_told c) v) same))

-- ---- the lines of the rivals

rival_solid : (entry : ℕ × ℕ) → IsWritten entry → AllByRecursion IsWord (told_words (codes "rival") (codes "covers") entry)
rival_solid entry w = told_solid (codes "rival") (codes "covers") entry refl refl w

one_rivals : (rivals others : List Cover) → AllByRecursion IsWritten (map may_told rivals) → AllByRecursion IsWritten (map may_told others) → map rival_line rivals ≡ map rival_line others → map may_told rivals ≡ map may_told others
one_rivals [] [] w v same = refl
one_rivals [] (c ∷ others) w v same = absurd cc
one_rivals (b ∷ rivals) [] w v same = absurd cc
one_rivals (b ∷ rivals) (c ∷ others) w v same =
    let line : rival_line b ≡ rival_line c = cc in
    let rest : map rival_line rivals ≡ map rival_line others = cc in
    let first = one_told (codes "rival") (codes "covers") (may_told b) (may_told c) w.0 v.0
    (same_words (codes "rival") (codes "rival") _ _ (rival_solid (may_told b) w.0) (rival_solid (may_told c) v.0) line) in
    ap (λ (e : ℕ × ℕ). e ∷ map may_told rivals) first ∙ ap (λ (es : List (ℕ × ℕ)). may_told c ∷ es) (one_rivals rivals others w.1 v.1 rest)

-- ---- all lines

best_plain : (b : Option Cover) → IfSome (option_map covers_told b) IsWritten → IsPlain (spaced (best_words b))
best_plain None w = plain_spaced (best_words None) none_solid
best_plain (Some b) w = plain_spaced (best_words (Some b)) (best_solid (covers_told b) w)

rivals_plain : (rivals : List Cover) → AllByRecursion IsWritten (map may_told rivals) → AllByRecursion IsPlain (map rival_line rivals)
rivals_plain [] w = tt
rivals_plain (c ∷ rivals) w = (plain_spaced (told_words (codes "rival") (codes "covers") (may_told c)) (rival_solid (may_told c) w.0), rivals_plain rivals w.1)

lines_plain : (b : Option Cover) (rivals : List Cover) → IfSome (option_map covers_told b) IsWritten → AllByRecursion IsWritten (map may_told rivals) → AllByRecursion IsPlain (best_lines b rivals)
unfolding best_lines
lines_plain b rivals w v = (best_plain b w, rivals_plain rivals v)

lines_back : (lines : List (List ℕ)) → AllByRecursion IsPlain lines → whole_lines (text_of lines) ≡ lines
unfolding whole_lines
lines_back lines plain = ap whole_lines (sym (append-nil (text_of lines))) ∙ whole_text lines [] plain ∙ append-nil lines

heads_same : (a b : List ℕ) (more others : List (List ℕ)) → a ∷ more ≡ b ∷ others → (a ≡ b) × (more ≡ others)
heads_same a b more others same = (cc, cc)

pub one_text : BestsHaveOneText
unfolding best_lines
one_text b c rivals others best other_best all other_all same =
    let lines : best_lines b rivals ≡ best_lines c others
    = sym (lines_back (best_lines b rivals) (lines_plain b rivals best all)) ∙ ap whole_lines same ∙ lines_back (best_lines c others) (lines_plain c others other_best other_all) in
    let parts = heads_same (spaced (best_words b)) (spaced (best_words c)) (map rival_line rivals) (map rival_line others) lines in
    (one_best b c best other_best parts.0, one_rivals rivals others all other_all parts.1)
