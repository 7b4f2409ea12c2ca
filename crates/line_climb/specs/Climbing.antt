-- What a climb finds.
use Rattle.std.specs.Prelude.{◌≡◌, ℕ, ◌+◌, length, ⊤}
use Rattle.plan_geometry.specs.declared.instances.Inst.{Inst}
use Rattle.plan_geometry.specs.Placed.{Placed, IsLayer}
use Rattle.line_climb.specs.declared.climbs.Climbed.{Climbed}
use Rattle.line_climb.specs.declared.climbs.Climbed.TheVariants.{Found, Ended, Spent}

-- a layer of the instance with one case more than n
pub record HasOneMore (I : Inst) (n : ℕ) (layer : Placed) : Type 0 where
  pub of_inst : layer.inst ≡ I
  pub is_layer : IsLayer layer.inst layer.spots
  pub count : length layer.spots ≡ n + 1

-- what is found, if anything is, is so
abbrev pub IfFound : (Placed → Type 0) → Climbed → Type 0
IfFound P (Found layer) = P layer
IfFound P Ended = ⊤
IfFound P Spent = ⊤
