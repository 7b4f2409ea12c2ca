-- Which words the program accepts, and what they ask for.
use Rattle.std.specs.Prelude.{◌≤◌, Bool, ◌&&◌, not, is_some, List, [], ◌∷◌, Option, Some, None, codes, option_map, option_and_then, unwrap_or, if◌then◌else◌, ⊤}
use Rattle.std.specs.Str.{bytes_eq}
use Rattle.clap.specs.Words.{Row, Text, Kinds, first_of, fault_of, matches_of}
use Rattle.command_words.specs.Command.{pallet_command}
use Rattle.command_words.specs.Given.{options_given}
use Rattle.command_words.specs.declared.modes.Mode.{Mode}
use Rattle.command_words.specs.declared.modes.Mode.TheVariants.{Plan, Check, Upgrade, Choose, CheckChoice, Design, Floor, CheckFloor, Trial}
use Rattle.command_words.specs.declared.modes.Options.{Options}

-- no option was given
abbrev pub are_absent : Options → Bool
are_absent options = not options.draw && not (is_some options.workers) && not (is_some options.number)

-- The mode of a word, where the options stand with it: `--draw` with `plan` alone, `--workers` with `plan`, `check` and
-- `design`, and `--number` with `trial`, which needs it, and with nothing else. No option stands with the other words.
unfoldable pub mode_with : Options → Text → Option Mode
mode_with options word =
    if bytes_eq word (codes "plan")
    then (if not (is_some options.number) then Some (Plan options.draw (unwrap_or options.workers 1)) else None)
    else (if bytes_eq word (codes "check")
    then (if not options.draw && not (is_some options.number) then Some (Check (unwrap_or options.workers 1)) else None)
    else (if bytes_eq word (codes "upgrade")
    then (if are_absent options then Some Upgrade else None)
    else (if bytes_eq word (codes "choose")
    then (if are_absent options then Some Choose else None)
    else (if bytes_eq word (codes "check-choice")
    then (if are_absent options then Some CheckChoice else None)
    else (if bytes_eq word (codes "design")
    then (if not options.draw && not (is_some options.number) then Some (Design (unwrap_or options.workers 1)) else None)
    else (if bytes_eq word (codes "floor")
    then (if are_absent options then Some Floor else None)
    else (if bytes_eq word (codes "check-floor")
    then (if are_absent options then Some CheckFloor else None)
    else (if bytes_eq word (codes "trial")
    then (if not options.draw && not (is_some options.workers) then option_map Trial options.number else None)
    else None))))))))

-- what the command read of the words asks for
abbrev pub mode_of_rows : List Row → Option Mode
mode_of_rows rows = option_and_then (mode_with (options_given rows)) (first_of (codes "mode") rows)

-- what is found, where there is no fault
abbrev pub where_faultless : {A : Type 0} → Kinds → Option A → Option A
where_faultless [] found = found
where_faultless (kind ∷ kinds) found = None

-- What the words ask for, where the command takes them and the options stand with their mode.
unfoldable pub accepted : List Text → Option Mode
accepted words = where_faultless (fault_of pallet_command words) (mode_of_rows (matches_of pallet_command words))

-- the numbers of a mode are within their ranges
abbrev pub IsInRange : Mode → Type 0
IsInRange (Plan draw workers) = (1 ≤ workers) × (workers ≤ 16)
IsInRange (Check workers) = (1 ≤ workers) × (workers ≤ 16)
IsInRange Upgrade = ⊤
IsInRange Choose = ⊤
IsInRange CheckChoice = ⊤
IsInRange (Design workers) = (1 ≤ workers) × (workers ≤ 16)
IsInRange Floor = ⊤
IsInRange CheckFloor = ⊤
IsInRange (Trial number) = (1 ≤ number) × (number ≤ 1000000)
