-- What is written of a report shows.
use Rattle.std.proofs.Common.{◌≡◌, ◌<◌, ◌⊎◌, List, ◌∷◌, [], ◌++◌, length, arith, inl, inr}
use Rattle.std.proofs.lemmas.List.{length-append}
use Rattle.texts.specs.Lines.{spaced}
use Rattle.plan_io.specs.Streams.{Outlet}
use Rattle.run_parts.specs.Written.{Wrote}
use Rattle.cert_text.specs.declared.forms.Form.TheVariants.{Two}
use Rattle.plan_entries.specs.Entries.{number_of_entry}
use Rattle.plan_entries.specs.declared.entries.Entry.{Entry}
use Rattle.report_text.specs.Reports.{head_text, entries_text}
use Rattle.report_reading.proofs.Untouched.{took-some}
use Rattle.report_checker.specs.declared.verdicts.Verdict.{Verdict}
use Rattle.report_checker.specs.Text.{verdict_words}
use Rattle.check_mode.specs.Verdicts.{line_of}

line-some : (e : Entry) (v : Verdict) → 0 < length (line_of e v)
unfolding line_of
line-some e v = omega (arith, length-append (spaced (verdict_words (number_of_entry e) v)) (10 ∷ []))

-- the line of a verdict shows
pub line-shows : {K : Type 0} (past : K → Outlet) (a b : K) (e : Entry) (v : Verdict) → Wrote (past a) (past b) (line_of e v) → past b ≡ past a → b ≡ a
line-shows past a b e v wrote same = absurd (took-some (past a) (past b) (line_of e v) (line-some e v) wrote same)

-- the first line of a report shows
pub head-shows : {K : Type 0} (past : K → Outlet) (old new : K) (es : List Entry)
    → (new ≡ old) ⊎ ((first : List Entry) × (rest : List Entry) × (es ≡ first ++ rest) × Wrote (past old) (past new) (head_text Two ++ entries_text Two first))
    → past new ≡ past old → new ≡ old
head-shows past old new es (inl still) same = still
head-shows past old new es (inr (first, rest, parts, wrote)) same =
    absurd (took-some (past old) (past new) (head_text Two ++ entries_text Two first) (omega (arith, length-append (head_text Two) (entries_text Two first))) wrote same)
