-- The text of layers and of an answer, piece by piece.
use Rattle.std.proofs.Common.{◌≡◌, ℕ, suc, zero, ◌+◌, ◌<◌, List, [], ◌∷◌, ◌++◌, length, map, get_or, take, sym, ap, ◌∙◌, append_assoc, arith, add-one}
use Rattle.std.specs.Prelude.{decimal}
use Rattle.std.specs.List.{flat_map}
use Rattle.std.proofs.lemmas.List.{append-nil, map_more}
use Rattle.std.proofs.lemmas.List.Concat.{flat_map-append}
use Rattle.texts.specs.Lines.{ended, spaced, text_of}
use Rattle.plan_geometry.specs.declared.spots.Spot.{Spot}
use Rattle.stack_builder.specs.declared.lists.UnmetRule.{UnmetRule}
use Rattle.plan_entries.specs.declared.listed.Listed.{Listed}
use Rattle.listing_text.specs.Text.{case_words, case_lines, layer_lines, listed_lines, rule_words, rule_lines}

pub one_line : (line : List ℕ) → text_of (line ∷ []) ≡ ended line
one_line line = append-nil (ended line)

pub text_both : (a b : List (List ℕ)) → text_of (a ++ b) ≡ text_of a ++ text_of b
text_both a b = flat_map-append ended a b

-- some lines more behind others
lines_more : (start out new : List ℕ) (lines more all : List (List ℕ)) → out ≡ start ++ text_of lines → new ≡ out ++ text_of more → all ≡ lines ++ more → new ≡ start ++ text_of all
lines_more start out new lines more all before now e =
    now ∙ ap (λ (t : List ℕ). t ++ text_of more) before ∙ append_assoc start (text_of lines) (text_of more) ∙ ap (λ (t : List ℕ). start ++ t) (sym (ap text_of e ∙ text_both lines more))

-- ---- cases

pub cases_more : (start out new : List ℕ) (i : ℕ) (ss : List Spot) (d : Spot) → i < length ss → out ≡ start ++ text_of (case_lines (take i ss)) → new ≡ out ++ ended (spaced (case_words (get_or ss i d))) → new ≡ start ++ text_of (case_lines (take (i + 1) ss))
cases_more start out new i ss d lt before now =
    let line = spaced (case_words (get_or ss i d)) in
    lines_more start out new (case_lines (take i ss)) (line ∷ []) (case_lines (take (i + 1) ss)) before (now ∙ ap (λ (t : List ℕ). out ++ t) (sym (one_line line))) (map_more (λ s. spaced (case_words s)) ss i d lt)

-- ---- layers

listed_lines-more : (number i : ℕ) (layers : List Listed) (d : Listed) → i < length layers → listed_lines number (take (suc i) layers) ≡ listed_lines number (take i layers) ++ layer_lines (number + i) (get_or layers i d)
listed_lines-more number i [] d lt = absurd (omega arith)
listed_lines-more number zero (l ∷ ls) d lt =
    let n : number ≡ number + 0 = omega arith in
    append-nil (layer_lines number l) ∙ ap (λ (k : ℕ). layer_lines k l) n
listed_lines-more number (suc i) (l ∷ ls) d lt =
    let n : (number + 1) + i ≡ number + suc i = omega arith in
    ap (λ (t : List (List ℕ)). layer_lines number l ++ t) (listed_lines-more (number + 1) i ls d (omega arith) ∙ ap (λ (k : ℕ). listed_lines (number + 1) (take i ls) ++ layer_lines k (get_or ls i d)) n)
    ∙ sym (append_assoc (layer_lines number l) (listed_lines (number + 1) (take i ls)) (layer_lines (number + suc i) (get_or ls i d)))

pub listed_more : (start out new : List ℕ) (i : ℕ) (layers : List Listed) (d : Listed) → i < length layers → out ≡ start ++ text_of (listed_lines 1 (take i layers)) → new ≡ out ++ text_of (layer_lines (i + 1) (get_or layers i d)) → new ≡ start ++ text_of (listed_lines 1 (take (i + 1) layers))
listed_more start out new i layers d lt before now =
    let n : 1 + i ≡ i + 1 = omega arith in
    lines_more start out new (listed_lines 1 (take i layers)) (layer_lines (i + 1) (get_or layers i d)) (listed_lines 1 (take (i + 1) layers)) before now
    (ap (λ (k : ℕ). listed_lines 1 (take k layers)) (add-one i) ∙ listed_lines-more 1 i layers d lt ∙ ap (λ (k : ℕ). listed_lines 1 (take i layers) ++ layer_lines k (get_or layers i d)) n)

-- ---- numbers, each behind a space

abbrev pub behind_spaces : List ℕ → List ℕ
behind_spaces ns = spaced ([] ∷ map decimal ns)

pub numbers_more : (start out new : List ℕ) (i : ℕ) (ns : List ℕ) → i < length ns → out ≡ start ++ behind_spaces (take i ns) → new ≡ out ++ 32 ∷ decimal (get_or ns i 0) → new ≡ start ++ behind_spaces (take (i + 1) ns)
numbers_more start out new i ns lt before now =
    let one : behind_spaces (take (i + 1) ns) ≡ behind_spaces (take i ns) ++ 32 ∷ decimal (get_or ns i 0) =
    ap (flat_map (λ v. 32 ∷ v)) (map_more decimal ns i 0 lt) ∙ flat_map-append (λ v. 32 ∷ v) (map decimal (take i ns)) (decimal (get_or ns i 0) ∷ []) ∙ ap (λ (t : List ℕ). behind_spaces (take i ns) ++ t) (append-nil (32 ∷ decimal (get_or ns i 0))) in
    now ∙ ap (λ (t : List ℕ). t ++ 32 ∷ decimal (get_or ns i 0)) before ∙ append_assoc start (behind_spaces (take i ns)) (32 ∷ decimal (get_or ns i 0)) ∙ ap (λ (t : List ℕ). start ++ t) (sym one)

-- ---- unmet rules

pub rules_more : (start out new : List ℕ) (i : ℕ) (us : List UnmetRule) (d : UnmetRule) → i < length us → out ≡ start ++ text_of (rule_lines (take i us)) → new ≡ out ++ ended (spaced (rule_words (get_or us i d))) → new ≡ start ++ text_of (rule_lines (take (i + 1) us))
rules_more start out new i us d lt before now =
    let line = spaced (rule_words (get_or us i d)) in
    lines_more start out new (rule_lines (take i us)) (line ∷ []) (rule_lines (take (i + 1) us)) before (now ∙ ap (λ (t : List ℕ). out ++ t) (sym (one_line line))) (map_more (λ u. spaced (rule_words u)) us i d lt)
