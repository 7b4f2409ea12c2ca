use Rattle.std.proofs.Common.{◌≡◌, ◌∙◌, ◌++◌, ℕ, List, sym, subst}
use Rattle.std.proofs.lemmas.List.{append_cancel_left}
use Rattle.plan_io.specs.Streams.{Intake}
use Rattle.command_words.specs.declared.modes.Mode.TheVariants.{Plan, Check, Upgrade, Choose, CheckChoice, Design, Floor, CheckFloor, Trial}
use Rattle.plan_mode.specs.Laws.{PlansAreComplete}
use Rattle.plan_mode.specs.OrdersFiles.{HasRows}
use Rattle.check_mode.specs.Checks.{ChecksAreComplete}
use Rattle.check_mode.specs.Upgrades.{UpgradesAreComplete}
use Rattle.report_reading.specs.Reading.{IsReportFile}
use Rattle.choice_mode.specs.Reading.{IsChoiceBytes}
use Rattle.choice_mode.specs.Laws.{ChoicesAreComplete, ChecksOfChoicesAreComplete}
use Rattle.design_mode.specs.DesignFiles.{HasDesign}
use Rattle.design_mode.specs.Laws.{DesignsAreComplete}
use Rattle.floor_mode.specs.FloorsFiles.{HasFloors}
use Rattle.floor_mode.specs.Reading.{IsFloorBytes}
use Rattle.floor_mode.specs.Laws.{FloorsAreComplete, ChecksOfFloorsAreComplete}
use Rattle.trial_mode.specs.Laws.{TrialsAreComplete}
use Rattle.pallet_top.specs.Runs.{RunsAreComplete}
use Rattle.pallet_top.proofs.laws.runs_are_complete.Goals as goal

-- two accounts of what was read between the same moments are the same
one_read : (from from' : Intake) (read other : List ℕ) → from'.given ≡ from.given ++ read → from'.given ≡ from.given ++ other → other ≡ read
one_read from from' read other a b = append_cancel_left from.given other read (sym b ∙ a)

complete : PlansAreComplete → ChecksAreComplete → UpgradesAreComplete → ChoicesAreComplete → ChecksOfChoicesAreComplete → DesignsAreComplete → FloorsAreComplete → ChecksOfFloorsAreComplete → TrialsAreComplete → RunsAreComplete
complete plans checks upgrades choices choice_checks designs floors floor_checks trials (Plan draw workers) from to code line from' to' read ran g is nr nw =
    plans draw from to code from' to' ran.0 is.0 (subst (λ bs. HasRows bs is.0) (one_read from from' ran.0.read read ran.0.given g) is.1) nr nw
complete plans checks upgrades choices choice_checks designs floors floor_checks trials (Check workers) from to code line from' to' read ran g is nr nw =
    checks from to code line from' to' ran nr nw (subst IsReportFile (one_read from from' ran.read read ran.given g) is)
complete plans checks upgrades choices choice_checks designs floors floor_checks trials Upgrade from to code line from' to' read ran g is nr nw =
    upgrades from to code line from' to' ran nr nw (subst IsReportFile (one_read from from' ran.read read ran.given g) is)
complete plans checks upgrades choices choice_checks designs floors floor_checks trials Choose from to code line from' to' read ran g is nr nw =
    choices from to code from' to' ran.0 is.0 (subst (λ bs. HasRows bs is.0) (one_read from from' ran.0.read read ran.0.given g) is.1) nr nw
complete plans checks upgrades choices choice_checks designs floors floor_checks trials CheckChoice from to code line from' to' read ran g is nr nw =
    choice_checks from to code line from' to' ran (subst IsChoiceBytes (one_read from from' ran.read read ran.given g) is) nr nw
complete plans checks upgrades choices choice_checks designs floors floor_checks trials (Design workers) from to code line from' to' read ran g is nr nw =
    designs from to code from' to' ran.0 is.0 (subst (λ bs. HasDesign bs is.0) (one_read from from' ran.0.read read ran.0.given g) is.1) nr nw
complete plans checks upgrades choices choice_checks designs floors floor_checks trials Floor from to code line from' to' read ran g is nr nw =
    floors from to code from' to' ran.0 is.0 (subst (λ bs. HasFloors bs is.0) (one_read from from' ran.0.read read ran.0.given g) is.1) nr nw
complete plans checks upgrades choices choice_checks designs floors floor_checks trials CheckFloor from to code line from' to' read ran g is nr nw =
    floor_checks from to code line from' to' ran (subst IsFloorBytes (one_read from from' ran.read read ran.given g) is) nr nw
complete plans checks upgrades choices choice_checks designs floors floor_checks trials (Trial number) from to code line from' to' read ran g is nr nw =
    trials number to code to' ran.0 nw

pub returns : goal.returns
returns c =
    complete c.plans_are_complete.ensures c.checks_are_complete.ensures c.upgrades_are_complete.ensures c.choices_are_complete.ensures
    c.checks_of_choices_are_complete.ensures c.designs_are_complete.ensures c.floors_are_complete.ensures c.checks_of_floors_are_complete.ensures c.trials_are_complete.ensures
