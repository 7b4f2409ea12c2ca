-- The program's command line, as one simple command of `clap`: a mode and three options.
use Rattle.std.specs.Prelude.{true, Some, codes}
use Rattle.clap.specs.Words.{App, Rule, new_app, new_rule, with_rule}
use Rattle.clap.specs.Simple.{on_top}
use Rattle.clap.specs.declared.builder.action.ArgAction.TheVariants.{Set, SetTrue}
use Rattle.clap.specs.declared.builder.value_parser.ValueParser.TheVariants as parser

-- one word that has to be given, of any text
abbrev pub mode_rule : Rule
mode_rule = record (new_rule (codes "mode")) { required = true; action = Some Set }

-- `--workers N`, with N from 1 to 16
abbrev pub workers_rule : Rule
workers_rule = record (new_rule (codes "workers")) { long = Some (codes "workers"); action = Some Set; parser = Some (parser.Unsigned 1 16) }

-- the flag `--draw`
abbrev pub draw_rule : Rule
draw_rule = record (new_rule (codes "draw")) { long = Some (codes "draw"); action = Some SetTrue }

-- `--number N`, with N from 1 to 1,000,000
abbrev pub number_rule : Rule
number_rule = record (new_rule (codes "number")) { long = Some (codes "number"); action = Some Set; parser = Some (parser.Unsigned 1 1000000) }

-- a command that reads the words after the program's name, with no flag for help or for the version
abbrev pub bare_command : App
bare_command = on_top (λ s. record s { no_binary_name = true; disable_help_flag = true; disable_version_flag = true }) (new_app (codes "pallet"))

-- the whole command
unfoldable pub pallet_command : App
pallet_command = with_rule (with_rule (with_rule (with_rule bare_command mode_rule) workers_rule) draw_rule) number_rule
