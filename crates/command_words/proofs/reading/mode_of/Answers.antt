use Rattle.std.proofs.Common.{◌≡◌, ◌∙◌, ap, sym, refl, subst, inl, inr, true, [], map}
use Rattle.std.specs.String.{string_bytes}
use Rattle.std.proofs.lemmas.Bool.{true≢false}
use Rattle.clap.specs.Words.{App, Kinds, IsAmong, app_of, is_simple, is_simple_and_free, fault_of, kind_of, matches_of}
use Rattle.command_words.specs.Command.{pallet_command}
use Rattle.command_words.specs.Accepted.{accepted, mode_of_rows, where_faultless}
use Rattle.command_words.proofs.OptionValues.{workers_in_range, number_in_range}
use Rattle.command_words.proofs.ModeFacts.{nothing_at_a_fault}
use Rattle.command_words.proofs.reading.mode_of.Goals as goal

simple : is_simple pallet_command ≡ true
unfolding pallet_command
simple = refl

free : is_simple_and_free pallet_command ≡ true
unfolding pallet_command
free = refl

pub mode_of_matches-requires-clause-workers : goal.mode_of_matches-requires-clause-workers
mode_of_matches-requires-clause-workers c = workers_in_range _ _ c.in_ok-command.ensures c.in-Ok.ensures.parsed

pub mode_of_matches-requires-clause-number : goal.mode_of_matches-requires-clause-number
mode_of_matches-requires-clause-number c = number_in_range _ _ c.in_ok-command.ensures c.in-Ok.ensures.parsed

pub returns-in-Ok-clause-mode : goal.returns-in-Ok-clause-mode
unfolding accepted
returns-in-Ok-clause-mode c =
    let words = map string_bytes c.args.words.now in
    let rows = (c.in-Ok.ensures.matches (ap is_simple c.in_ok-command.ensures ∙ simple)).0 ∙ ap (λ (a : App). matches_of a words) c.in_ok-command.ensures in
    let faultless : fault_of pallet_command words ≡ [] =
    ap (λ (a : App). fault_of a words) (sym c.in_ok-command.ensures) ∙ c.in-Ok.ensures.kinds (ap is_simple_and_free c.in_ok-command.ensures ∙ free) in
    c.mode_of_matches.ensures.mode ∙ ap mode_of_rows rows
    ∙ sym (ap (λ (kinds : Kinds). where_faultless kinds (mode_of_rows (matches_of pallet_command words))) faultless)

pub returns-in-Err-2-clause-mode : goal.returns-in-Err-2-clause-mode
unfolding accepted
returns-in-Err-2-clause-mode c =
    let words = map string_bytes c.args.words.now in
    let same : fault_of (app_of c.in_ok-command.command) words ≡ fault_of pallet_command words = ap (λ (a : App). fault_of a words) c.in_ok-command.ensures in
    elim (c.in-Err.ensures.kinds (ap is_simple_and_free c.in_ok-command.ensures ∙ free)) [
      | inl memory ↦ absurd (true≢false (sym (c.is_memory.ensures memory) ∙ c.if-is_memory.false))
      | inr among ↦ nothing_at_a_fault _ _ _ (subst (λ (kinds : Kinds). IsAmong (kind_of c.in-Err.error) kinds) same among)
    ]
