use Rattle.std.proofs.Common.{◌≡◌, ◌∙◌, ◌++◌, [], List, ℕ, Option, length, ap, inl, inr, refl, sym, subst, rules}
use Rattle.std.specs.Prelude.{IsErrOf, ◌||◌, Bool, true, false, nat_lt}
use Rattle.plan_entries.specs.Entries.{any_refused}
use Rattle.cert_text.specs.declared.forms.Form.TheVariants.{Two}
use Rattle.run_parts.specs.declared.parts.WriteStop.TheVariants.{Fault, Memory}
use Rattle.run_parts.specs.Written.{Wrote, WrotePart}
use Rattle.run_parts.proofs.Pieces.{wrote-trans, part-then, part-more}
use Rattle.order_reader.specs.declared.rows.Row.{Row}
use Rattle.plan_entries.specs.declared.entries.Entry.{Entry}
use Rattle.report_text.specs.Reports.{entries_text}
use Rattle.case_design.specs.declared.designs.Design.{Design}
use Rattle.case_design.specs.declared.best.Cover.{Cover}
use Rattle.case_design.specs.Designs.{rows_in}
use Rattle.case_design.specs.Bests.{IsBest}
use Rattle.case_design.specs.Text.{head_text}
use Rattle.plan_mode.specs.Entries.{AreEntriesOf, AreFirstEntriesOf}
use Rattle.plan_mode.proofs.EntryFacts.{as_many, none-first, all-first}
use Rattle.plan_mode.proofs.Acceptance.{are_accepted}
use Rattle.design_mode.specs.Covers.{covers_of}
use Rattle.design_mode.specs.Designing.{is_row_refused, end_text}
use Rattle.design_mode.proofs.EntryCovers.{refused-by}
use Rattle.design_mode.proofs.designing.write_design.Goals as goal
use Rattle.design_mode.proofs.designing.write_design.Goals.{then-is_refused, else-is_refused}

-- the best of those covers is that of the entries
of-entries : (covers : List Cover) (es : List Entry) (best : Option Cover) (rivals : List Cover) → covers ≡ covers_of es → IsBest covers best rivals → IsBest (covers_of es) best rivals
of-entries covers es best rivals same is = subst (λ (cs : List Cover). IsBest cs best rivals) same is

either-true : (a b c : Bool) → a ≡ true → c ≡ true → (a || b) ≡ c
either-true a b c first both = ap (λ x. x || b) first ∙ sym both

either-false : (a b c d : Bool) → a ≡ false → b ≡ d → c ≡ d → (a || b) ≡ c
either-false a b c d first second both = ap (λ x. x || b) first ∙ second ∙ sym both

-- there are as many entries as rows
told-count : (design : Design) (best : Option Cover) (rivals : List Cover) (m n : ℕ) → m ≡ n → end_text design best rivals n ≡ end_text design best rivals m
told-count design best rivals m n same = ap (λ k. end_text design best rivals k) (sym same)

pub returns-in_err-send-clause-part : goal.returns-in_err-send-clause-part
returns-in_err-send-clause-part g c = λ is.
    let part : WrotePart (g.K.Sink.past c.args.sink.now) (g.K.Sink.past c.send.new.sink) (head_text c.args.design.now) = search rules in
    ([], [], none-first (rows_in c.args.design.now), inl refl, part-more _ _ (head_text c.args.design.now) [] part)

pub returns-in_err-covers-clause-part : goal.returns-in_err-covers-clause-part
returns-in_err-covers-clause-part g c = λ is.
    let head_is = head_text c.args.design.now in
    let failed : IsErrOf c.write_entries.result Fault = search rules in
    let (es, first, part) = c.write_entries.ensures.part failed in
    let first_of : AreFirstEntriesOf (rows_in c.args.design.now) es = subst (λ (rs : List Row). AreFirstEntriesOf rs es) c.rows_of-rows.ensures first in
    let head : Wrote (g.K.Sink.past c.args.sink.now) (g.K.Sink.past c.send.new.sink) head_is = search rules in
    (es, [], first_of, inl refl, part-then _ _ _ head_is _ head (part-more _ _ (entries_text Two es) [] part))

pub returns-in_err-covers-clause-memory : goal.returns-in_err-covers-clause-memory
returns-in_err-covers-clause-memory g c = λ is.
    let head_is = head_text c.args.design.now in
    let failed : IsErrOf c.write_entries.result Memory = search rules in
    let (es, first, wrote) = c.write_entries.ensures.memory failed in
    let first_of : AreFirstEntriesOf (rows_in c.args.design.now) es = subst (λ (rs : List Row). AreFirstEntriesOf rs es) c.rows_of-rows.ensures first in
    let head : Wrote (g.K.Sink.past c.args.sink.now) (g.K.Sink.past c.send.new.sink) head_is = search rules in
    inr (es, first_of, wrote-trans _ _ _ head_is (entries_text Two es) head wrote)

pub returns-in_default-ending-clause-memory : goal.returns-in_default-ending-clause-memory
returns-in_default-ending-clause-memory g c = λ is.
    let head_is = head_text c.args.design.now in
    let (es, are, covers, wrote) = c.in_ok-covers.ensures.ok in
    let are_of : AreEntriesOf (rows_in c.args.design.now) es = subst (λ (rs : List Row). AreEntriesOf rs es) c.rows_of-rows.ensures are in
    let head : Wrote (g.K.Sink.past c.args.sink.now) (g.K.Sink.past c.send.new.sink) head_is = search rules in
    inr (es, all-first (rows_in c.args.design.now) es are_of, wrote-trans _ _ _ head_is (entries_text Two es) head wrote)

pub returns-in_err-send-2-clause-part : goal.returns-in_err-send-2-clause-part
returns-in_err-send-2-clause-part g c = λ is.
    let design = c.args.design.now in
    let rows = rows_in design in
    let head_is = head_text design in
    let (es, are, covers, wrote) = c.in_ok-covers.ensures.ok in
    let are_of : AreEntriesOf rows es = subst (λ (rs : List Row). AreEntriesOf rs es) c.rows_of-rows.ensures are in
    let (best, rivals, is_best, text) = c.in-Ok-ending.ensures in
    let head : Wrote (g.K.Sink.past c.args.sink.now) (g.K.Sink.past c.send.new.sink) head_is = search rules in
    let last : WrotePart (g.K.Sink.past c.write_entries.new.sink) (g.K.Sink.past c.send-2.new.sink) c.in-Ok-ending.last.items = search rules in
    let all = as_many 1 rows es are_of in
    let same : length rows ≡ length c.rows_of-rows.result.now = ap (λ (rs : List Row). length rs) (sym c.rows_of-rows.ensures) in (
      es,
      c.in-Ok-ending.last.items,
      all-first rows es are_of,
      inr (
        all,
        record {
          best = best;
          rivals = rivals;
          is_best = of-entries _ es best rivals (c.deref-2.ensures.value ∙ covers) is_best;
          text = text ∙ told-count design best rivals _ _ (all ∙ same);
        },
      ),
      part-then _ _ _ head_is _ head (part-then _ _ _ (entries_text Two es) _ wrote last),
    )

pub returns-clause-ok : goal.returns-clause-ok
returns-clause-ok g c =
    let design = c.args.design.now in
    let rows = rows_in design in
    let head_is = head_text design in
    let (es, are, covers, wrote) = c.in_ok-covers.ensures.ok in
    let are_of : AreEntriesOf rows es = subst (λ (rs : List Row). AreEntriesOf rs es) c.rows_of-rows.ensures are in
    let (best, rivals, is_best, text) = c.in-Ok-ending.ensures in
    let head : Wrote (g.K.Sink.past c.args.sink.now) (g.K.Sink.past c.send.new.sink) head_is = search rules in
    let last : Wrote (g.K.Sink.past c.write_entries.new.sink) (g.K.Sink.past c.send-2.new.sink) c.in-Ok-ending.last.items = search rules in
    let count : c.len.result ≡ length c.in_ok-covers.covers.items = search rules in
    let all = as_many 1 rows es are_of in
    let same : length rows ≡ length c.rows_of-rows.result.now = ap (λ (rs : List Row). length rs) (sym c.rows_of-rows.ensures) in
    let some : any_refused es ≡ nat_lt c.len.result (length rows) = refused-by es c.len.result (length rows) (count ∙ ap (λ (cs : List Cover). length cs) covers) (sym all) in
    let found : (is_row_refused design || any_refused es) ≡ c.if-is_refused.result =
    elim c.if-is_refused.branch [
      | then-is_refused w ↦ either-true (is_row_refused design) (any_refused es) c.if-is_refused.result (search rules) (search rules)
      | else-is_refused w ↦ either-false (is_row_refused design) (any_refused es) c.if-is_refused.result (nat_lt c.len.result (length rows)) (search rules) some (search rules)
    ] in (
      es,
      best,
      rivals,
      are_of,
      are_accepted rows es c.requires.few are_of,
      of-entries _ es best rivals (c.deref-2.ensures.value ∙ covers) is_best,
      found,
      wrote-trans _ _ _ head_is _ head (wrote-trans _ _ _ (entries_text Two es) _ wrote (subst (Wrote _ _) (text ∙ told-count design best rivals _ _ (all ∙ same)) last)),
    )
