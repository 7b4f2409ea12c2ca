-- A number that the command took for an option lies in that option's range.
use Rattle.std.proofs.Common.{◌≡◌, ◌∙◌, ◌<◌, ◌&&◌, ap, ℕ, Bool, true, false, not, List, [], ◌∷◌, length, map, Option, Some, None, refl, sym, subst, inl, inr, arith, codes, zero, suc}
use Rattle.std.specs.Prelude.{option_map, slice_get, IfSome}
use Rattle.std.specs.List.{slice_index_or, All}
use Rattle.std.specs.Str.{bytes_eq}
use Rattle.std.specs.Borrow.{Bor}
use Rattle.std.proofs.lemmas.Bool.{cases_lt, ne_eqb, true≢false}
use Rattle.std.proofs.lemmas.List.{get_or-map, length-map}
use Rattle.std.proofs.lemmas.List.Elements.{All-get_or}
use Rattle.std.proofs.lemmas.Slice.Eq.{bytes_eq-Decides}
use Rattle.clap.specs.Words.{App, Rule, Text, app_of, rule_of, args_of, groups_of, Accepts, IsUnsignedIn, first_value, found_of, matched_of}
use Rattle.clap.specs.declared.builder.command.Command.TheViews.{out-Command}
use Rattle.clap.specs.Built.{IsAuto, IsParsedFrom, IsPlain, IsPlainArg, SameRules}
use Rattle.clap.specs.Walk.{is_empty, is_free_arg, is_simple_arg}
use Rattle.clap.specs.Facts.{EntryPasses, PassesArg, parser_of_value}
use Rattle.clap.specs.declared.builder.arg.Arg.{Arg}
use Rattle.clap.specs.declared.builder.command.Command.{Command}
use Rattle.clap.specs.declared.builder.value_parser.ValueParser.{ValueParser}
use Rattle.clap.specs.declared.builder.value_parser.ValueParser.TheVariants as parser
use Rattle.clap.specs.declared.parser.matches.ArgMatches.{ArgMatches}
use Rattle.clap.specs.declared.parser.matches.MatchedArg.{MatchedArg}
use Rattle.clap.proofs.CallerLemmas.{entry_by_id}
use Rattle.command_words.specs.Command.{mode_rule, workers_rule, draw_rule, number_rule, pallet_command}

-- the rules of the command's four arguments
abbrev pallet_rules : List Rule
pallet_rules = mode_rule ∷ workers_rule ∷ draw_rule ∷ number_rule ∷ []

rules_are : (c : Command) → app_of c ≡ pallet_command → map rule_of (args_of c) ≡ pallet_rules
unfolding pallet_command
rules_are c same = ap (λ (a : App). a.top.rules) same

is_plain : (c : Command) → app_of c ≡ pallet_command → (app_of c).top.is_plain ≡ true
unfolding pallet_command
is_plain c same = ap (λ (a : App). a.top.is_plain) same

-- where one argument of an id has this parser, and the others have other ids, that argument's parser is this one
abbrev HasParser : List Rule → Text → ValueParser → Type 0
HasParser rules id q = (j : ℕ) (r : Rule) → j < length rules → bytes_eq (slice_index_or rules j r).id id ≡ true → (slice_index_or rules j r).parser ≡ Some q

workers_parser : HasParser pallet_rules (codes "workers") (parser.Unsigned 1 16)
workers_parser zero r lt hit = absurd (true≢false (sym hit))
workers_parser (suc zero) r lt hit = refl
workers_parser (suc (suc zero)) r lt hit = absurd (true≢false (sym hit))
workers_parser (suc (suc (suc zero))) r lt hit = absurd (true≢false (sym hit))
workers_parser (suc (suc (suc (suc j)))) r lt hit = absurd (omega arith)

number_parser : HasParser pallet_rules (codes "number") (parser.Unsigned 1 1000000)
number_parser zero r lt hit = absurd (true≢false (sym hit))
number_parser (suc zero) r lt hit = absurd (true≢false (sym hit))
number_parser (suc (suc zero)) r lt hit = absurd (true≢false (sym hit))
number_parser (suc (suc (suc zero))) r lt hit = refl
number_parser (suc (suc (suc (suc j)))) r lt hit = absurd (omega arith)

-- the same of the command's arguments
argument_parser : (args : List Arg) (rules : List Rule) (id : Text) (q : ValueParser) → map rule_of args ≡ rules → HasParser rules id q
    → (j : ℕ) (x : Arg) → j < length args → bytes_eq (slice_index_or args j x).id.now id ≡ true → (slice_index_or args j x).value_parser ≡ Some q
argument_parser args rules id q same has j x lt hit =
    let is : slice_index_or rules j (rule_of x) ≡ rule_of (slice_index_or args j x) =
    ap (λ (rs : List Rule). slice_index_or rs j (rule_of x)) (sym same) ∙ get_or-map rule_of args j x (rule_of x) lt in
    let many : length args ≡ length rules = sym (length-map args rule_of) ∙ ap length same in
    let below : j < length rules = subst (λ (n : ℕ). j < n) many lt in
    let told : bytes_eq (slice_index_or rules j (rule_of x)).id id ≡ true = ap (λ (r : Rule). bytes_eq r.id id) is ∙ hit in
    ap (λ (r : Rule). r.parser) (sym is) ∙ has j (rule_of x) below told

-- a value that an argument of this id took passed this parser
passed : (c : Command) (m : ArgMatches) (p : IsParsedFrom c m) (id : Text) (q : ValueParser)
    → ((j : ℕ) (x : Arg) → j < length (args_of c) → bytes_eq (slice_index_or (args_of c) j x).id.now id ≡ true → (slice_index_or (args_of c) j x).value_parser ≡ Some q)
    → ((x : Arg) → IsAuto x → bytes_eq x.id.now id ≡ true → ⊥)
    → (w t : Text) → w ≡ id → PassesArg p.built w t → (b : Bool) × Accepts b q t
passed c m p id q parsers foreign w t same pass =
    let hit : bytes_eq pass.1.id.now id ≡ true = subst (λ (u : Text). bytes_eq pass.1.id.now u ≡ true) same pass.4.0 in
    elim (cases_lt pass.0 (length (args_of c))) [
      | inl under ↦
          let s = subst (λ (y : Arg). SameRules (slice_index_or (args_of c) pass.0 pass.1) y) pass.3 (p.from.kept pass.0 pass.1 under).1 in
          let old_hit : bytes_eq (slice_index_or (args_of c) pass.0 pass.1).id.now id ≡ true = rw (← s.id) hit in
          let is : pass.1.value_parser ≡ Some q = s.parser q (parsers pass.0 pass.1 under old_hit) in
          (pass.1.ignore_case, subst (λ (v : ValueParser). Accepts pass.1.ignore_case v t) (ap parser_of_value is) pass.4.1)
      | inr over ↦ absurd (foreign pass.1 (subst IsAuto pass.3 (p.from.extra pass.0 pass.1 over pass.2)) hit)
    ]

-- the first of some values
first_passes : (P : Text → Type 0) (vs : List (Bor Text)) → All (λ v. P v.now) vs → IfSome (option_map (λ s. s.now) (slice_get vs 0)) P
first_passes P [] h = tt
first_passes P (v ∷ vs) h = All-get_or (λ (w : Bor Text). P w.now) (v ∷ vs) 0 v (omega arith) h

-- so the first value of the entry of this id, where there is one, has a fact that the parser gives
pub value_passed : (c : Command) (m : ArgMatches) (p : IsParsedFrom c m) (id : Text) (q : ValueParser) (Q : Text → Type 0)
    → ((j : ℕ) (x : Arg) → j < length (args_of c) → bytes_eq (slice_index_or (args_of c) j x).id.now id ≡ true → (slice_index_or (args_of c) j x).value_parser ≡ Some q)
    → ((x : Arg) → IsAuto x → bytes_eq x.id.now id ≡ true → ⊥) → (id ≡ [] → ⊥)
    → ((b : Bool) (t : Text) → Accepts b q t → Q t)
    → (out-Command c).has_globals ≡ false → IsPlain c
    → IfSome (first_value (found_of m) id) Q
value_passed c m p id q Q parsers foreign named gives globals plain = go (matched_of (found_of m) id) refl
  where
    go : (o : Option MatchedArg) → matched_of (found_of m) id ≡ o → IfSome (first_value (found_of m) id) Q
    go None e = rw e tt
    go (Some x) e =
        let parsed = p.parsed (p.from.globals ∙ globals) in
        let no_groups : groups_of p.built ≡ [] = (p.from.plain plain).1 in
        let got = entry_by_id (EntryPasses p.built) (found_of m).entries.items id x parsed.values e in
        let key : got.0.0.now ≡ id = (bytes_eq-Decides got.0.0.now id).0 got.2 in
        let no_group : got.0.1.is_group ≡ true → ⊥ = λ g. elim (got.3.3 g) [
          | inl empty ↦ named (sym key ∙ empty)
          | inr lots ↦
              let bad : 0 < 0 = rw no_groups at lots in
              absurd (omega arith)
        ] in
        let all : All (λ v. PassesArg p.built got.0.0.now v.now) x.vals.items = elim got.3.0 [
          | inl g ↦ absurd (no_group g)
          | inr vals ↦ subst (λ (y : MatchedArg). All (λ v. PassesArg p.built got.0.0.now v.now) y.vals.items) got.1 vals
        ] in
        let each : All (λ v. Q v.now) x.vals.items = λ k d lt.
        let one = passed c m p id q parsers foreign got.0.0.now (slice_index_or x.vals.items k d).now key (all k d lt) in
        gives one.0 (slice_index_or x.vals.items k d).now one.1 in
        rw e (first_passes Q x.vals.items each)

-- ---- the command itself

both : (a b : Bool) → (a && b) ≡ true → (a ≡ true) × (b ≡ true)
both true b e = (refl, e)
both false b e = absurd (true≢false (sym e))

not_true : (b : Bool) → not b ≡ true → b ≡ false
not_true true e = absurd (true≢false (sym e))
not_true false e = refl

no_items : {A : Type 0} (xs : List A) → is_empty xs ≡ true → xs ≡ []
no_items [] e = refl
no_items (x ∷ xs) e = absurd (true≢false (sym e ∙ ne_eqb (length (x ∷ xs)) 0 (λ none. omega arith)))

-- an argument whose rule is simple and free excludes nothing
plain_argument : (a : Arg) → is_simple_arg a ≡ true → is_free_arg a ≡ true → IsPlainArg a
plain_argument a simple free =
    let overrides = both _ _ simple in
    let groups = both _ _ (both _ _ overrides.1).1 in
    let exclusive = both _ _ free in
    let conflicts = both _ _ exclusive.1 in (
      not_true a.exclusive exclusive.0,
      no_items a.conflicts.items conflicts.0,
      no_items a.overrides.items overrides.0,
      no_items a.groups.items groups.0,
    )

simple_rule : (j : ℕ) (r : Rule) → j < length pallet_rules → (slice_index_or pallet_rules j r).is_simple ≡ true
simple_rule zero r lt = refl
simple_rule (suc zero) r lt = refl
simple_rule (suc (suc zero)) r lt = refl
simple_rule (suc (suc (suc zero))) r lt = refl
simple_rule (suc (suc (suc (suc j)))) r lt = absurd (omega arith)

free_rule : (j : ℕ) (r : Rule) → j < length pallet_rules → (slice_index_or pallet_rules j r).is_free ≡ true
free_rule zero r lt = refl
free_rule (suc zero) r lt = refl
free_rule (suc (suc zero)) r lt = refl
free_rule (suc (suc (suc zero))) r lt = refl
free_rule (suc (suc (suc (suc j)))) r lt = absurd (omega arith)

plain_arguments : (args : List Arg) → map rule_of args ≡ pallet_rules → All IsPlainArg args
plain_arguments args same k d lt =
    let is : slice_index_or pallet_rules k (rule_of d) ≡ rule_of (slice_index_or args k d) =
    ap (λ (rs : List Rule). slice_index_or rs k (rule_of d)) (sym same) ∙ get_or-map rule_of args k d (rule_of d) lt in
    let many : length args ≡ length pallet_rules = sym (length-map args rule_of) ∙ ap length same in
    let below : k < length pallet_rules = subst (λ (n : ℕ). k < n) many lt in
    plain_argument (slice_index_or args k d)
    (sym (ap (λ (r : Rule). r.is_simple) is) ∙ simple_rule k (rule_of d) below)
    (sym (ap (λ (r : Rule). r.is_free) is) ∙ free_rule k (rule_of d) below)

plain_command : (c : Command) → app_of c ≡ pallet_command → IsPlain c × ((out-Command c).has_globals ≡ false)
plain_command c same =
    let groups = both _ _ (is_plain c same) in
    let globals = both _ _ (both _ _ groups.1).1 in
    ((plain_arguments (args_of c) (rules_are c same), no_items _ groups.0), not_true _ globals.0)

-- a flag that `clap` adds has another id than the two options
auto_id : (x : Arg) (id : Text) → IsAuto x → bytes_eq (codes "help") id ≡ false → bytes_eq (codes "version") id ≡ false → bytes_eq x.id.now id ≡ true → ⊥
auto_id x id (inl help) no_help no_version hit = true≢false (sym hit ∙ (ap (λ (t : Text). bytes_eq t id) help ∙ no_help))
auto_id x id (inr version) no_help no_version hit = true≢false (sym hit ∙ (ap (λ (t : Text). bytes_eq t id) version ∙ no_version))

some_text : (t : Text) → 0 < length t → t ≡ [] → ⊥
some_text t some none =
    let bad : 0 < 0 = subst (λ (u : Text). 0 < length u) none some in
    omega arith

pub workers_in_range : (c : Command) (m : ArgMatches) → app_of c ≡ pallet_command → IsParsedFrom c m
    → IfSome (first_value (found_of m) (codes "workers")) (IsUnsignedIn 1 16)
workers_in_range c m same p =
    let plain = plain_command c same in
    value_passed c m p (codes "workers") (parser.Unsigned 1 16) (IsUnsignedIn 1 16)
    (argument_parser (args_of c) pallet_rules (codes "workers") (parser.Unsigned 1 16) (rules_are c same) workers_parser)
    (λ x auto. auto_id x (codes "workers") auto refl refl) (some_text (codes "workers") (omega arith))
    (λ b t h. h) plain.1 plain.0

pub number_in_range : (c : Command) (m : ArgMatches) → app_of c ≡ pallet_command → IsParsedFrom c m
    → IfSome (first_value (found_of m) (codes "number")) (IsUnsignedIn 1 1000000)
number_in_range c m same p =
    let plain = plain_command c same in
    value_passed c m p (codes "number") (parser.Unsigned 1 1000000) (IsUnsignedIn 1 1000000)
    (argument_parser (args_of c) pallet_rules (codes "number") (parser.Unsigned 1 1000000) (rules_are c same) number_parser)
    (λ x auto. auto_id x (codes "number") auto refl refl) (some_text (codes "number") (omega arith))
    (λ b t h. h) plain.1 plain.0
