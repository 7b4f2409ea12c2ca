use Rattle.std.specs.Prelude.{All}
use Rattle.plan_geometry.specs.Placed.{Placed}
use Rattle.contact_rules.specs.Real.{IsGapOf}
use Rattle.contact_rules.specs.Rules.{IsLawfulRule}
use Rattle.interlocking_layers.specs.declared.wanted.Wanted.{Wanted}
use Rattle.interlocking_layers.specs.Forms.{IsInterlockingLayer}

-- the gap is one of the instance, and each rule is lawful
pub record IsLawfulSearch (w : Wanted) : Type 0 where
  pub gap : IsGapOf w.inst w.gap
  pub rules : All IsLawfulRule w.rules.now

-- the layer is one that is searched for
abbrev pub IsFor : Wanted → Placed → Type 0
IsFor w a = IsInterlockingLayer w.inst w.gap w.rules.now w.count a
