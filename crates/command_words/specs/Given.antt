-- What the command reads of the words for each of its arguments: a text, a number, or a flag.
use Rattle.std.specs.Prelude.{ℕ, Bool, false, List, Option, codes, option_map}
use Rattle.std.specs.Option.{option_map_or}
use Rattle.std.specs.Str.{bytes_eq}
use Rattle.std.specs.Str.Parse.{digits_value, without_leading_plus}
use Rattle.clap.specs.Words.{Row, Text, first_of}
use Rattle.command_words.specs.declared.modes.Options.{Options}

-- the number that digits stand for; a sign + may stand before them, and zeros
abbrev pub number_in : Text → ℕ
number_in text = digits_value 10 (without_leading_plus text)

-- the number of an option, where it was given
abbrev pub number_given : Text → List Row → Option ℕ
number_given name rows = option_map number_in (first_of name rows)

-- the flag was given
abbrev pub flag_given : Text → List Row → Bool
flag_given name rows = option_map_or (λ text. bytes_eq text (codes "true")) (first_of name rows) false

-- the options that were given
abbrev pub options_given : List Row → Options
options_given rows = record {
  workers = number_given (codes "workers") rows;
  draw = flag_given (codes "draw") rows;
  number = number_given (codes "number") rows;
}
