-- What a function that reads lines or words returned, against reading on lists of lines or words.
use Rattle.std.specs.Prelude.{◌≡◌, ℕ, Option, Some, None, Result, Ok, Err}
use Rattle.texts.specs.declared.stops.Stop.{Stop}
use Rattle.texts.specs.declared.stops.Stop.TheVariants as stops
use Rattle.texts.specs.declared.stops.LinesLeft.{LinesLeft}
use Rattle.texts.specs.declared.stops.LineStop.{LineStop}
use Rattle.texts.specs.declared.stops.LineStop.TheVariants as line_stops

abbrev pub Fails : {Y : Type 0} → Stop → Result Y ℕ → Type 0
Fails stops.Memory read = Unit {0}
Fails (stops.Left n) read = read ≡ Err n

-- what a reader of lines returned, seen by view, is what reading gives, unless memory was refused
abbrev pub Gives : {X Y : Type 0} → (X → Y) → Result X Stop → Result Y ℕ → Type 0
Gives view (Ok x) read = read ≡ Ok (view x)
Gives view (Err e) read = Fails e read

-- what a reader of lines that needs no memory returned, seen by view, is what reading gives
abbrev pub GivesOrLeaves : {X Y : Type 0} → (X → Y) → Result X LinesLeft → Result Y ℕ → Type 0
GivesOrLeaves view (Ok x) read = read ≡ Ok (view x)
GivesOrLeaves view (Err l) read = read ≡ Err l.count

abbrev pub FailsLine : {Y : Type 0} → LineStop → Option Y → Type 0
FailsLine line_stops.Memory read = Unit {0}
FailsLine line_stops.Fault read = read ≡ None

-- what a reader of one line returned, seen by view, is what reading gives, unless memory was refused
abbrev pub GivesLine : {X Y : Type 0} → (X → Y) → Result X LineStop → Option Y → Type 0
GivesLine view (Ok x) read = read ≡ Some (view x)
GivesLine view (Err e) read = FailsLine e read

-- what a reader that needs no memory returned, seen by view, is what reading gives
abbrev pub GivesOption : {X Y : Type 0} → (X → Y) → Option X → Option Y → Type 0
GivesOption view None read = read ≡ None
GivesOption view (Some x) read = read ≡ Some (view x)
