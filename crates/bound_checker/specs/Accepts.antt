-- What makes a certificate show that no layout of an instance has more than n cases.
use Rattle.std.specs.Prelude.{ℕ, ◌<◌, ◌≤◌, ⊤, List, length}
use Rattle.plan_geometry.specs.declared.instances.Inst.{Inst}
use Rattle.plan_geometry.specs.Layout.{IsBounded, area_bound_of}
use Rattle.partitions.specs.Partitions.{SameSides}
use Rattle.weightings.specs.declared.kinds.Weighting.{Weighting}
use Rattle.weightings.specs.declared.certs.Mark.{Mark}
use Rattle.weightings.specs.declared.certs.Cert.{Cert}
use Rattle.weightings.specs.declared.certs.Cert.TheVariants as certs
use Rattle.weightings.specs.Weighting.{weight_of, IsLawfulWeighting}
use Rattle.cert_rules.specs.Refute.{IsRefutation}
use Rattle.strip_cuts.specs.Cuts.{AcceptsStrip}

-- the weighting is in the family of the instance, or a table with the pallet's sides; the marks are one tree that
-- refutes more than n cases, each counted at the least weight of a case; and that is not 0
pub record AcceptsWeighted (I : Inst) (g : Weighting) (n : ℕ) (marks : List Mark) : Type 0 where
  pub lawful : IsLawfulWeighting I g
  pub refutation : IsRefutation I (weight_of g) n marks
  pub some : 0 < refutation.least

-- what each kind of certificate must be: a weighting with marks, or the cuts of a strip, for the reduced instance,
-- or no more than that the area of the given one has no room for n + 1 cases
abbrev pub Holds : Inst → Inst → Cert → ℕ → Type 0
Holds given reduced (certs.Weighted g marks) n = AcceptsWeighted reduced g n marks
Holds given reduced (certs.Strip cuts) n = AcceptsStrip reduced n cuts
Holds given reduced certs.GivenArea n = area_bound_of given ≤ n

-- the two instances have the same sides, and the certificate holds
pub record Accepts (given reduced : Inst) (cert : Cert) (n : ℕ) : Type 0 where
  pub same : SameSides given reduced
  pub holds : Holds given reduced cert n

-- a tree that a certificate has is not too large to be read
abbrev pub HasFewMarks : Cert → Type 0
HasFewMarks (certs.Weighted g marks) = length marks ≤ 500000
HasFewMarks (certs.Strip cuts) = ⊤
HasFewMarks certs.GivenArea = ⊤

-- whoever wrote an accepted certificate, no layout of the given instance has more than n cases
abbrev pub AcceptedIsBounded : Type 0
AcceptedIsBounded = (given reduced : Inst) (cert : Cert) (n : ℕ) → Accepts given reduced cert n → IsBounded given n
