-- What is within the first form's ranges is within today's.
use Rattle.std.proofs.Common.{◌≡◌, ℕ, ◌≤◌, ◌+◌, List, [], ◌∷◌, length, refl, arith, true, leb}
use Rattle.std.specs.Prelude.{◌&&◌, not, is_some}
use Rattle.std.specs.List.{list_all}
use Rattle.std.proofs.lemmas.Bool.{leb-true, le-leb}
use Rattle.texts.proofs.Parsers.{both_true}
use Rattle.weightings.specs.declared.kinds.Weighting.{Weighting}
use Rattle.weightings.specs.declared.kinds.Weighting.TheVariants as weightings
use Rattle.weightings.specs.declared.certs.Cert.{Cert}
use Rattle.weightings.specs.declared.certs.Cert.TheVariants as certs
use Rattle.cert_text.specs.Ranges.{is_weighting, is_tree, is_cut, InRange}
use Rattle.cert_text.specs.declared.forms.Form.TheVariants.{One, Two}
use Rattle.order_reader.specs.Faults.{order_fault}
use Rattle.order_reader.specs.Orders.{OrderValue}
use Rattle.order_reader.specs.declared.faults.RowFault.{RowFault}
use Rattle.order_reader.specs.declared.faults.RowFault.TheVariants as faults
use Rattle.plan_entries.specs.Ranges.{is_within, has_orders_of, order_in_range, fault_in_range, IsInRange}
use Rattle.plan_entries.specs.declared.entries.Entry.{Entry}
use Rattle.plan_entries.specs.declared.entries.Entry.TheVariants.{Planned, Refused}
use Rattle.report_text.specs.Reports.{AreNumberedFrom, AreReported}
use Rattle.report_text.proofs.EntryWords.{IsWithin, within_is, is_within_from}
use Rattle.report_text.proofs.EntryReaders.{plan_parts, plan_from_parts}
use Rattle.std.proofs.Common.{eqb}

within_more : (low high n : ℕ) → low ≤ high → IsWithin low n → IsWithin high n
within_more low high n le f = let w = within_is low n f in let a = w.0 in let b = w.1 in is_within_from high n (omega arith) (omega arith)

weighting_new : (w : Weighting) → is_weighting One w ≡ true → is_weighting Two w ≡ true
weighting_new weightings.Area f = refl
weighting_new (weightings.Colour k c) f = f
weighting_new (weightings.Comb p a r b) f = f
weighting_new (weightings.Table t) f = absurd cc
weighting_new (weightings.Lines t) f = absurd cc

cert_new : (c : Cert) → InRange One c → InRange Two c
cert_new (certs.Weighted w t) f =
    let p = both_true (is_weighting One w) (is_tree t) f in
    rw (weighting_new w p.0, p.1) refl
cert_new (certs.Strip cs) f =
    let p = both_true (leb 2 (length cs)) (leb (length cs) 402 && list_all is_cut cs) f in
    let q = both_true (leb (length cs) 402) (list_all is_cut cs) p.1 in
    let few = leb-true (length cs) 402 q.0 in
    rw (p.0, le-leb (length cs) 1002 (omega arith), q.1) refl
cert_new certs.GivenArea f = refl

order_new : (o : OrderValue) → order_in_range One o ≡ true → order_in_range Two o ≡ true
order_new o f =
    let p = both_true (eqb (length o.numbers) 12) (not (is_some (order_fault o)) && has_orders_of One o) f in
    let q = both_true (not (is_some (order_fault o))) (has_orders_of One o) p.1 in
    rw (p.0, q.0) refl

fault_new : (f : RowFault) → fault_in_range One f ≡ true → fault_in_range Two f ≡ true
fault_new faults.FieldCount g = refl
fault_new faults.BadId g = refl
fault_new (faults.BadNumber field) g = refl
fault_new (faults.OutOfRange field) g = refl
fault_new faults.DoesNotFit g = refl
fault_new faults.TooManyCases g = refl

pub entry_new : (e : Entry) → IsInRange One e → IsInRange Two e
entry_new (Planned p) f =
    let q = plan_parts One p f in
    plan_from_parts Two p (record {
      number = within_more 64 256 p.number (omega arith) q.number;
      count = within_more 400 1000 p.count (omega arith) q.count;
      bound = within_more 400 1000 p.bound (omega arith) q.bound;
      allowed = q.allowed;
      order = order_new p.order q.order;
      cert = cert_new p.cert q.cert;
      layers = q.layers;
      stack = q.stack;
    })
entry_new (Refused n fault) f =
    let p = both_true (is_within 64 n) (fault_in_range One fault) f in
    rw (within_more 64 256 n (omega arith) p.0, fault_new fault p.1) refl

numbered_new : (n : ℕ) (es : List Entry) → AreNumberedFrom One n es → AreNumberedFrom Two n es
numbered_new n [] f = tt
numbered_new n (e ∷ es) f = ((f.0.0, entry_new e f.0.1), numbered_new (n + 1) es f.1)

pub report_new : (es : List Entry) → AreReported One es → AreReported Two es
report_new es f = let few = f.few in record { few = omega arith; numbered = numbered_new 1 es f.numbered }
