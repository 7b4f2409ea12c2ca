-- How long the text of a choice can be.
use Rattle.std.proofs.Common.{◌<◌, ◌++◌, length, arith}
use Rattle.std.proofs.lemmas.List.{length-append}
use Rattle.cert_text.specs.declared.forms.Form.TheVariants.{Two}
use Rattle.pallet_choice.specs.Text.{tail_text}
use Rattle.pallet_choice.proofs.Lengths.{tail_short}
use Rattle.report_text.specs.Reports.{head_text as report_head_text, done_text, entries_text}
use Rattle.choice_text.specs.Text.{ChoiceFile, head_text, file_text, IsChoiceFile, HasShortReport}

pub file_short : (f : ChoiceFile) → IsChoiceFile f → HasShortReport f → length (file_text f) < 160010000
file_short f h short =
    let tail = tail_short f.tail h.is_tail in
    let a = length-append (report_head_text Two) (entries_text Two f.entries ++ done_text (length f.entries)) in
    let b = length-append (entries_text Two f.entries) (done_text (length f.entries)) in
    let c = length-append head_text (entries_text Two f.entries ++ (tail_text f.tail ++ done_text (length f.entries))) in
    let d = length-append (entries_text Two f.entries) (tail_text f.tail ++ done_text (length f.entries)) in
    let e = length-append (tail_text f.tail) (done_text (length f.entries)) in
    omega arith
