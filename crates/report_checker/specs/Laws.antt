-- What is so of verdicts, whoever gives them.
use Rattle.plan_entries.specs.declared.entries.Plan.{Plan}
use Rattle.plan_entries.specs.declared.entries.Entry.{Entry}
use Rattle.plan_entries.specs.declared.entries.Entry.TheVariants.{Planned}
use Rattle.plan_soundness.specs.Sound.{IsSound}
use Rattle.report_checker.specs.declared.verdicts.Verdict.{Verdict}
use Rattle.report_checker.specs.declared.verdicts.Verdict.TheVariants.{Yes}
use Rattle.report_checker.specs.Verdicts.{IsVerdict, IsOnlyVerdict, HasSoundPlan}

-- yes is right of a sound plan, and nothing else is
abbrev pub SoundPlansAreAccepted : Type 0
SoundPlansAreAccepted = (p : Plan) → IsSound p → IsVerdict (Planned p) Yes × IsOnlyVerdict (Planned p) Yes

-- no two verdicts of an entry are right
abbrev pub EntriesHaveOneVerdict : Type 0
EntriesHaveOneVerdict = (e : Entry) (v : Verdict) → IsVerdict e v → IsOnlyVerdict e v

-- where yes is right, the entry has a plan that is sound for its order, and what follows from that
abbrev pub AcceptedPlansAreSound : Type 0
AcceptedPlansAreSound = (e : Entry) → IsVerdict e Yes → HasSoundPlan e
