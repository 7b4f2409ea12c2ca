-- What an id cannot do to a page.
use Rattle.std.specs.Prelude.{ℕ, ◌≡◌, ◌≢◌, List, All}
use Rattle.page_pieces.specs.Pieces.{escaped}

-- a byte that neither opens nor closes a tag, nor ends an attribute in quotes of either kind
abbrev pub IsPlain : ℕ → Type 0
IsPlain b = (b ≢ 60) × (b ≢ 62) × (b ≢ 34) × (b ≢ 39)

-- Whatever an id holds, no byte of its text opens or closes a tag, or ends an attribute.
abbrev pub EscapedTextsArePlain : Type 0
EscapedTextsArePlain = (id : List ℕ) → All IsPlain (escaped id)

-- Ids with one text are one id.
abbrev pub EscapedTextsLoseNothing : Type 0
EscapedTextsLoseNothing = (one other : List ℕ) → escaped one ≡ escaped other → one ≡ other
