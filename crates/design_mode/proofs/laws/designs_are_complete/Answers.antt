use Rattle.std.proofs.Common.{◌≡◌, ℕ, List, inl, inr, refl, arith}
use Rattle.plan_io.specs.Streams.{Intake, Outlet}
use Rattle.plan_io.specs.Causes.{Rose}
use Rattle.run_parts.specs.Codes.{IsDoneOrMemory}
use Rattle.run_parts.specs.declared.codes.Code.{Code}
use Rattle.run_parts.specs.declared.codes.Code.TheVariants.{Done, Findings, Usage, TooLong, NoHeader, TooManyRows, BadReport, ReadFault, WriteFault, Memory}
use Rattle.case_design.specs.declared.designs.Design.{Design}
use Rattle.case_design.specs.Laws.{FilesHaveOneAnswer}
use Rattle.design_mode.specs.DesignFiles.{HasDesign}
use Rattle.design_mode.specs.DesignRuns.{DesignMeans}
use Rattle.design_mode.proofs.laws.designs_are_complete.Goals as goal

-- a file that asks for a design asks for no other, and has its header and no row too many
complete : FilesHaveOneAnswer → (code : Code) (read wrote : List ℕ) (from from' : Intake) (to to' : Outlet) (design : Design) → DesignMeans code read wrote from from' to to' → HasDesign read design
    → ¬ Rose from.faults from'.faults → ¬ Rose to.faults to'.faults → IsDoneOrMemory code
complete one Done read wrote from from' to to' design m has nr nw = inl refl
complete one Findings read wrote from from' to to' design m has nr nw = inr (inl refl)
complete one Usage read wrote from from' to to' design m has nr nw = absurd m
complete one TooLong read wrote from from' to to' design m has nr nw = absurd (omega (arith, m.0, has.few_bytes))
complete one NoHeader read wrote from from' to to' design m has nr nw = absurd ((one read).header design has.is_design m.1.no_header)
complete one TooManyRows read wrote from from' to to' design m has nr nw = absurd ((one read).rows design has.is_design m.1.many_rows)
complete one BadReport read wrote from from' to to' design m has nr nw = absurd m
complete one ReadFault read wrote from from' to to' design m has nr nw = absurd (nr m.1)
complete one WriteFault read wrote from from' to to' design m has nr nw = absurd (nw m.2)
complete one Memory read wrote from from' to to' design m has nr nw = inr (inr refl)

pub returns : goal.returns
returns c = λ from to code from' to' ran design has nr nw. complete c.files_have_one_answer.ensures code ran.read ran.wrote from from' to to' design ran.means has nr nw
