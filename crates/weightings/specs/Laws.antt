-- What the list of the family says of its members and of its lead.
use Rattle.std.specs.Prelude.{◌↔◌, Contains}
use Rattle.plan_geometry.specs.declared.instances.Inst.{Inst}
use Rattle.weightings.specs.declared.kinds.Weighting.{Weighting}
use Rattle.weightings.specs.Weighting.{IsMember}
use Rattle.weightings.specs.Lead.{IsLead}
use Rattle.weightings.specs.Family.{family, IsFirstLeast}

-- a weighting is a member of the family exactly where it stands in the list
abbrev pub MembersAreListed : Type 0
MembersAreListed = (I : Inst) (g : Weighting) → IsMember I g ↔ Contains (family I) g

-- a weighting is the lead exactly where it is the first of the list with the least bound
abbrev pub LeadIsFirstLeast : Type 0
LeadIsFirstLeast = (I : Inst) (g : Weighting) → IsLead I g ↔ IsFirstLeast I g
