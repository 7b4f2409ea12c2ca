-- The entries of planned rows are accepted by `check`.
use Rattle.std.proofs.Common.{◌≡◌, ◌≤◌, ℕ, ◌+◌, true, List, [], ◌∷◌, length, arith, refl, sym, subst, inl, inr}
use Rattle.std.specs.List.{All}
use Rattle.std.proofs.lemmas.List.Elements.{All-nil, All-cons}
use Rattle.std.proofs.lemmas.Bool.{le-leb}
use Rattle.texts.proofs.Parsers.{both_true}
use Rattle.plan_geometry.specs.declared.instances.Inst.{Inst}
use Rattle.weightings.specs.declared.kinds.Weighting.TheVariants as weightings
use Rattle.weightings.specs.declared.certs.Cert.{Cert}
use Rattle.weightings.specs.declared.certs.Cert.TheVariants as certs
use Rattle.order_reader.specs.declared.rows.Row.{Row}
use Rattle.order_reader.specs.declared.rows.Row.TheVariants as row
use Rattle.order_reader.specs.declared.faults.RowFault.{RowFault}
use Rattle.order_reader.specs.declared.faults.RowFault.TheVariants.{FieldCount, BadId, BadNumber, OutOfRange, DoesNotFit, TooManyCases}
use Rattle.cert_text.specs.declared.forms.Form.TheVariants.{Two}
use Rattle.cert_text.specs.Ranges.{InRange}
use Rattle.plan_entries.specs.declared.entries.Plan.{Plan}
use Rattle.plan_entries.specs.declared.entries.Entry.{Entry}
use Rattle.plan_entries.specs.declared.entries.Entry.TheVariants.{Planned, Refused}
use Rattle.plan_entries.specs.Ranges.{IsInRange, fault_in_range, numbers_in_range, order_in_range}
use Rattle.cert_text.specs.Ranges.{in_range as cert_in_range}
use Rattle.report_text.specs.Lengths.{IsTableOrTree, HasShortCert as HasShortCertText, HaveShortCerts}
use Rattle.report_text.specs.Reports.{AreNumberedFrom, AreReported}
use Rattle.report_text.proofs.TextLengths.{cert_short, report_short}
use Rattle.report_checker.proofs.OneVerdict.{accepted}
use Rattle.report_checker.specs.declared.verdicts.Verdict.{Verdict}
use Rattle.report_checker.specs.declared.verdicts.Verdict.TheVariants as verdicts
use Rattle.report_checker.specs.Verdicts.{IsVerdict}
use Rattle.layer_planner.specs.Quality.{HasShortCert}
use Rattle.plan_mode.specs.Entries.{AreEntriesFrom, AreEntriesOf}
use Rattle.plan_mode.specs.Accepted.{IsAcceptedEntry, AreAccepted}
use Rattle.plan_mode.proofs.EntryFacts.{as_many}

-- every fault has a text of today's form
fault_in_two : (fault : RowFault) → fault_in_range Two fault ≡ true
fault_in_two FieldCount = refl
fault_in_two BadId = refl
fault_in_two (BadNumber field) = refl
fault_in_two (OutOfRange field) = refl
fault_in_two DoesNotFit = refl
fault_in_two TooManyCases = refl

-- a certificate of a plan has no table, or one mark
table_or_tree : (I : Inst) (c : Cert) → HasShortCert I c → IsTableOrTree c
table_or_tree I (certs.Weighted weightings.Area tree) h = tt
table_or_tree I (certs.Weighted (weightings.Colour k c) tree) h = tt
table_or_tree I (certs.Weighted (weightings.Comb p a r b) tree) h = tt
table_or_tree I (certs.Weighted (weightings.Table t) tree) (inl h) = absurd h.0
table_or_tree I (certs.Weighted (weightings.Table t) tree) (inr h) = h.1
table_or_tree I (certs.Weighted (weightings.Lines t) tree) (inl h) = absurd h.0
table_or_tree I (certs.Weighted (weightings.Lines t) tree) (inr h) = h.1
table_or_tree I (certs.Strip cuts) h = tt
table_or_tree I certs.GivenArea h = tt

-- the certificate of a plan within the ranges is within them
cert_of : (p : Plan) → IsInRange Two (Planned p) → InRange Two p.cert
cert_of p h =
    let a = both_true (numbers_in_range Two p) _ h in
    let b = both_true (order_in_range Two p.order) _ a.1 in
    let c = both_true (cert_in_range Two p.cert) _ b.1 in
    c.0

pub refused_in_range : (n : ℕ) (fault : RowFault) → 1 ≤ n → n ≤ 256 → IsInRange Two (Refused n fault)
refused_in_range n fault low high = rw (le-leb 1 n low, le-leb n 256 high, fault_in_two fault) refl

-- each entry is within the ranges, and bears its row's number
numbered : (n : ℕ) (rs : List Row) (es : List Entry) → 1 ≤ n → n + length rs ≤ 257 → AreEntriesFrom n rs es → AreNumberedFrom Two n es
numbered n [] [] low high are = tt
numbered n [] (e ∷ es) low high are = absurd are
numbered n (r ∷ rs) [] low high are = absurd are
numbered n (row.Order o ∷ rs) (Planned p ∷ es) low high are =
    ((are.0.number, are.0.in_range), numbered (n + 1) rs es (omega arith) (omega arith) are.1)
numbered n (row.Order o ∷ rs) (Refused m fault ∷ es) low high are = absurd are.0
numbered n (row.Refused k fault ∷ rs) (Planned p ∷ es) low high are = absurd are.0
numbered n (row.Refused k fault ∷ rs) (Refused m told ∷ es) low high are =
    ((are.0.0, subst (λ j. IsInRange Two (Refused j told)) (sym are.0.0) (refused_in_range n told low (omega arith))), numbered (n + 1) rs es (omega arith) (omega arith) are.1)

-- each certificate has a short text
short_certs : (n : ℕ) (rs : List Row) (es : List Entry) → AreEntriesFrom n rs es → HaveShortCerts es
short_certs n [] [] are = All-nil HasShortCertText
short_certs n [] (e ∷ es) are = absurd are
short_certs n (r ∷ rs) [] are = absurd are
short_certs n (row.Order o ∷ rs) (Planned p ∷ es) are =
    All-cons HasShortCertText (Planned p) es (cert_short p.cert (cert_of p are.0.in_range) (table_or_tree p.reduced p.cert are.0.short)) (short_certs (n + 1) rs es are.1)
short_certs n (row.Order o ∷ rs) (Refused m fault ∷ es) are = absurd are.0
short_certs n (row.Refused k fault ∷ rs) (Planned p ∷ es) are = absurd are.0
short_certs n (row.Refused k fault ∷ rs) (Refused m told ∷ es) are =
    All-cons HasShortCertText (Refused m told) es tt (short_certs (n + 1) rs es are.1)

-- no other verdict is right of a refused row's entry
only_refused : (m : ℕ) (told : RowFault) (v : Verdict) → IsVerdict (Refused m told) v → v ≡ verdicts.Refused
only_refused m told verdicts.Yes right = absurd right
only_refused m told verdicts.Refused right = refl
only_refused m told (verdicts.No clause item) right = absurd right

all_accepted : (n : ℕ) (rs : List Row) (es : List Entry) → AreEntriesFrom n rs es → All IsAcceptedEntry es
all_accepted n [] [] are = All-nil IsAcceptedEntry
all_accepted n [] (e ∷ es) are = absurd are
all_accepted n (r ∷ rs) [] are = absurd are
all_accepted n (row.Order o ∷ rs) (Planned p ∷ es) are =
    All-cons IsAcceptedEntry (Planned p) es (accepted p are.0.sound) (all_accepted (n + 1) rs es are.1)
all_accepted n (row.Order o ∷ rs) (Refused m fault ∷ es) are = absurd are.0
all_accepted n (row.Refused k fault ∷ rs) (Planned p ∷ es) are = absurd are.0
all_accepted n (row.Refused k fault ∷ rs) (Refused m told ∷ es) are =
    All-cons IsAcceptedEntry (Refused m told) es (tt, only_refused m told) (all_accepted (n + 1) rs es are.1)

pub are_accepted : (rs : List Row) (es : List Entry) → length rs ≤ 256 → AreEntriesOf rs es → AreAccepted es
are_accepted rs es few are =
    let reported : AreReported Two es = record { few = omega (arith, as_many 1 rs es are, few); numbered = numbered 1 rs es (omega arith) (omega (arith, few)) are } in
    record { reported = reported; short = report_short es reported (short_certs 1 rs es are); verdicts = all_accepted 1 rs es are }
