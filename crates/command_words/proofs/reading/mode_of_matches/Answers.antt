use Rattle.std.proofs.Common.{◌≡◌, ◌∙◌, ap, sym, refl, subst, codes, false, Option, Some, None}
use Rattle.std.specs.Prelude.{IfSome, option_map, option_and_then}
use Rattle.std.specs.Option.{option_map_or}
use Rattle.std.specs.Str.{bytes_eq}
use Rattle.std.specs.Borrow.{Bor}
use Rattle.clap.specs.Words.{Text, found_of, first_of, first_value, rows_of}
use Rattle.clap.proofs.WalkLemmas.{first_value-rows}
use Rattle.command_words.specs.Given.{flag_given, number_given, number_in, options_given}
use Rattle.command_words.specs.Accepted.{mode_with, IsInRange}
use Rattle.command_words.specs.declared.modes.Mode.{Mode}
use Rattle.command_words.specs.declared.modes.Options.{Options}
use Rattle.command_words.proofs.ModeFacts.{mode_in_range, same_options}
use Rattle.command_words.proofs.reading.mode_of_matches.Goals as goal

pub returns-in-Some-clause-mode : goal.returns-in-Some-clause-mode
returns-in-Some-clause-mode c =
    let found = found_of c.args.matches.now in
    let rows = rows_of found in
    let workers : c.number_of.result ≡ number_given (codes "workers") rows =
    c.number_of.ensures ∙ ap (option_map number_in) (c.get_str.ensures ∙ first_value-rows found (codes "workers")) in
    let draw : c.is_true.result ≡ flag_given (codes "draw") rows =
    c.is_true.ensures ∙ ap (λ (o : Option Text). option_map_or (λ t. bytes_eq t (codes "true")) o false) (c.get_str-2.ensures ∙ first_value-rows found (codes "draw")) in
    let number : c.number_of-2.result ≡ number_given (codes "number") rows =
    c.number_of-2.ensures ∙ ap (option_map number_in) (c.get_str-3.ensures ∙ first_value-rows found (codes "number")) in
    let word : first_of (codes "mode") rows ≡ Some c.in-Some.word.now =
    sym (c.get_str-4.ensures ∙ first_value-rows found (codes "mode")) ∙ ap (option_map (λ (s : Bor Text). s.now)) c.in-Some.is in
    c.mode_for.ensures ∙ ap (λ (o : Options). mode_with o c.in-Some.word.now) (same_options _ _ _ _ _ _ workers draw number)
    ∙ sym (ap (option_and_then (mode_with (options_given rows))) word)

pub returns-in-None-clause-mode : goal.returns-in-None-clause-mode
returns-in-None-clause-mode c =
    let found = found_of c.args.matches.now in
    let word : first_of (codes "mode") (rows_of found) ≡ None =
    sym (c.get_str-4.ensures ∙ first_value-rows found (codes "mode")) ∙ ap (option_map (λ (s : Bor Text). s.now)) c.in-None.is in
    sym (ap (option_and_then (mode_with (options_given (rows_of found)))) word)

pub returns-in-Some-clause-in_range : goal.returns-in-Some-clause-in_range
returns-in-Some-clause-in_range c =
    let found = found_of c.args.matches.now in
    let workers : c.number_of.result ≡ option_map number_in (first_value found (codes "workers")) = c.number_of.ensures ∙ ap (option_map number_in) c.get_str.ensures in
    let number : c.number_of-2.result ≡ option_map number_in (first_value found (codes "number")) = c.number_of-2.ensures ∙ ap (option_map number_in) c.get_str-3.ensures in
    let is = c.mode_for.ensures ∙ ap (λ (o : Options). mode_with o c.in-Some.word.now) (same_options _ _ _ _ _ _ workers refl number) in
    subst (λ (o : Option Mode). IfSome o IsInRange) (sym is) (mode_in_range _ _ _ _ c.requires.workers c.requires.number)
