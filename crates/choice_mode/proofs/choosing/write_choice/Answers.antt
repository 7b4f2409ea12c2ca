use Rattle.std.proofs.Common.{◌≡◌, ◌∙◌, ◌++◌, [], List, ℕ, Option, length, ap, inl, inr, refl, sym, subst, rules}
use Rattle.std.specs.Prelude.{IsErrOf}
use Rattle.cert_text.specs.declared.forms.Form.TheVariants.{Two}
use Rattle.run_parts.specs.declared.parts.WriteStop.TheVariants.{Fault}
use Rattle.run_parts.specs.Written.{Wrote, WrotePart}
use Rattle.run_parts.proofs.Pieces.{wrote-trans, part-then, part-more}
use Rattle.plan_entries.specs.declared.entries.Entry.{Entry}
use Rattle.report_text.specs.Reports.{entries_text, done_text}
use Rattle.pallet_choice.specs.declared.choices.Score.{Score}
use Rattle.pallet_choice.specs.Choices.{IsChoice}
use Rattle.pallet_choice.specs.Text.{told_of_both, tail_text}
use Rattle.choice_text.specs.Text.{head_text}
use Rattle.plan_mode.proofs.EntryFacts.{as_many, none-first, all-first}
use Rattle.plan_mode.proofs.Acceptance.{are_accepted}
use Rattle.choice_mode.specs.Scores.{scores_of}
use Rattle.choice_mode.proofs.EntryScores.{refused-by}
use Rattle.choice_mode.proofs.choosing.write_choice.Goals as goal

-- the choice among those scores is that among the entries
of-entries : (scores : List Score) (es : List Entry) (chosen : Option Score) (rivals : List Score) → scores ≡ scores_of es → IsChoice scores chosen rivals → IsChoice (scores_of es) chosen rivals
of-entries scores es chosen rivals same choice = subst (λ (ss : List Score). IsChoice ss chosen rivals) same choice

-- there are as many entries as rows
told-count : (chosen : Option Score) (rivals : List Score) (m n : ℕ) → m ≡ n → tail_text (told_of_both chosen rivals) ++ done_text n ≡ tail_text (told_of_both chosen rivals) ++ done_text m
told-count chosen rivals m n same = ap (λ k. tail_text (told_of_both chosen rivals) ++ done_text k) (sym same)

pub returns-in_err-send-clause-part : goal.returns-in_err-send-clause-part
returns-in_err-send-clause-part g c = λ is.
    let part : WrotePart (g.K.Sink.past c.args.sink.now) (g.K.Sink.past c.send.new.sink) head_text = search rules in
    ([], [], none-first c.args.rows.now, inl refl, part)

pub returns-in_err-scores-clause-part : goal.returns-in_err-scores-clause-part
returns-in_err-scores-clause-part g c = λ is.
    let failed : IsErrOf c.write_entries.result Fault = search rules in
    let (es, first, part) = c.write_entries.ensures.part failed in
    let head : Wrote (g.K.Sink.past c.args.sink.now) (g.K.Sink.past c.send.new.sink) head_text = search rules in
    (es, [], first, inl refl, part-then _ _ _ head_text _ head (part-more _ _ (entries_text Two es) [] part))

pub returns-in_default-ending-clause-memory : goal.returns-in_default-ending-clause-memory
returns-in_default-ending-clause-memory g c = λ is.
    let (es, are, scores, wrote) = c.in_ok-scores.ensures.ok in
    let head : Wrote (g.K.Sink.past c.args.sink.now) (g.K.Sink.past c.send.new.sink) head_text = search rules in
    inr (es, all-first c.args.rows.now es are, wrote-trans _ _ _ head_text (entries_text Two es) head wrote)

pub returns-in_err-send-2-clause-part : goal.returns-in_err-send-2-clause-part
returns-in_err-send-2-clause-part g c = λ is.
    let rows = c.args.rows.now in
    let (es, are, scores, wrote) = c.in_ok-scores.ensures.ok in
    let (chosen, rivals, choice, text) = c.in-Ok-ending.ensures in
    let head : Wrote (g.K.Sink.past c.args.sink.now) (g.K.Sink.past c.send.new.sink) head_text = search rules in
    let last : WrotePart (g.K.Sink.past c.write_entries.new.sink) (g.K.Sink.past c.send-2.new.sink) c.in-Ok-ending.last.items = search rules in
    let all = as_many 1 rows es are in (
      es,
      c.in-Ok-ending.last.items,
      all-first rows es are,
      inr (all, record { chosen = chosen; rivals = rivals; is_choice = of-entries _ es chosen rivals (c.deref-2.ensures.value ∙ scores) choice; text = text ∙ told-count chosen rivals _ _ all }),
      part-then _ _ _ head_text _ head (part-then _ _ _ (entries_text Two es) _ wrote last),
    )

pub returns-clause-ok : goal.returns-clause-ok
returns-clause-ok g c =
    let rows = c.args.rows.now in
    let (es, are, scores, wrote) = c.in_ok-scores.ensures.ok in
    let (chosen, rivals, choice, text) = c.in-Ok-ending.ensures in
    let head : Wrote (g.K.Sink.past c.args.sink.now) (g.K.Sink.past c.send.new.sink) head_text = search rules in
    let last : Wrote (g.K.Sink.past c.write_entries.new.sink) (g.K.Sink.past c.send-2.new.sink) c.in-Ok-ending.last.items = search rules in
    let count : c.len.result ≡ length c.in_ok-scores.scores.items = search rules in
    let all = as_many 1 rows es are in (
      es,
      chosen,
      rivals,
      are,
      are_accepted rows es c.requires are,
      of-entries _ es chosen rivals (c.deref-2.ensures.value ∙ scores) choice,
      refused-by es c.len.result (length rows) (count ∙ ap (λ (ss : List Score). length ss) scores) (sym all),
      wrote-trans _ _ _ head_text _ head (wrote-trans _ _ _ (entries_text Two es) _ wrote (subst (Wrote _ _) (text ∙ told-count chosen rivals _ _ all) last)),
    )
