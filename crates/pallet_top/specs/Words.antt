-- What the words after the program's name ask for.
use Rattle.std.specs.Prelude.{ℕ, ◌≡◌, List, Some, None}
use Rattle.command_words.specs.Accepted.{accepted}
use Rattle.command_words.specs.declared.modes.Mode.{Mode}

-- the words ask for this mode
abbrev pub Asks : List (List ℕ) → Mode → Type 0
Asks words mode = accepted words ≡ Some mode

-- the words are not accepted
abbrev pub AsksNothing : List (List ℕ) → Type 0
AsksNothing words = accepted words ≡ None
