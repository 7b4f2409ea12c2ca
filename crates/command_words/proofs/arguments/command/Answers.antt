use Rattle.std.proofs.Common.{◌≡◌, ◌∙◌, ap₂}
use Rattle.std.proofs.lemmas.Result.{IfOk-weaker}
use Rattle.clap.specs.Words.{app_of, with_rule}
use Rattle.command_words.specs.Command.{bare_command, mode_rule, workers_rule, draw_rule, pallet_command}
use Rattle.command_words.proofs.arguments.command.Goals as goal

pub returns : goal.returns
unfolding pallet_command
returns c =
    let first : app_of c.in_ok-mode.mode ≡ with_rule bare_command mode_rule =
    c.in_ok-mode.ensures.shape c.mode_argument.ensures.local ∙ ap₂ with_rule c.bare_command.ensures c.mode_argument.ensures.rule in
    let second : app_of c.in_ok-workers.workers ≡ with_rule (with_rule bare_command mode_rule) workers_rule =
    c.in_ok-workers.ensures.shape c.workers_option.ensures.local ∙ ap₂ with_rule first c.workers_option.ensures.rule in
    let third : app_of c.in_ok-draw.draw ≡ with_rule (with_rule (with_rule bare_command mode_rule) workers_rule) draw_rule =
    c.in_ok-draw.ensures.shape c.draw_flag.ensures.local ∙ ap₂ with_rule second c.draw_flag.ensures.rule in
    IfOk-weaker c.arg-4.result _ _ (λ r h. h.shape c.number_option.ensures.local ∙ ap₂ with_rule third c.number_option.ensures.rule) c.arg-4.ensures
