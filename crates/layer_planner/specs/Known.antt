-- Bounds that are known, and a layer with the bound that is left of them.
use Rattle.std.specs.Prelude.{◌≡◌, ℕ, ◌<◌, ◌≤◌, ◌⊎◌, length}
use Rattle.plan_geometry.specs.declared.instances.Inst.{Inst}
use Rattle.plan_geometry.specs.Layout.{area_bound_of}
use Rattle.plan_geometry.specs.Placed.{IsLayer}
use Rattle.bound_checker.specs.Accepts.{Accepts}
use Rattle.cert_text.specs.declared.forms.Form.TheVariants.{Two}
use Rattle.cert_text.specs.Ranges.{InRange}
use Rattle.layer_patterns.specs.Patterns.{HoldsPatterns}
use Rattle.layer_planner.specs.declared.bounds.Known.{Known}
use Rattle.layer_planner.specs.declared.settling.Settled.{Settled}
use Rattle.layer_planner.specs.Quality.{most_states, IsAtMostFamily, IsAtMostStrip, IsAtMostDual, HasLongWalk, HasShortCert}

-- the certificate shows the bound, is not long, and, where the bound has a text, has one
pub record IsKnown (given reduced : Inst) (known : Known) : Type 0 where
  pub accepted : Accepts given reduced known.cert known.bound
  pub short : HasShortCert reduced known.cert
  pub in_range : known.bound ≤ 1000 → InRange Two known.cert

-- nothing is known anew, or the bound is less
abbrev pub IsKeptOrLess : Known → Known → Type 0
IsKeptOrLess old new = (new ≡ old) ⊎ (new.bound < old.bound)

-- a layer of the reduced instance, and a bound with what shows it
pub record IsFound (given reduced : Inst) (s : Settled) : Type 0 where
  pub inst : s.layer.inst ≡ reduced
  pub layer : IsLayer s.layer.inst s.layer.spots
  pub known : IsKnown given reduced s.known

-- the layer has no fewer cases than the old one, and the bound is no greater
pub record IsNoWorse (old new : Settled) : Type 0 where
  pub grown : length old.layer.spots ≤ length new.layer.spots
  pub less : new.known.bound ≤ old.known.bound

-- A layer of the reduced instance that has at least the cases of each pattern, and a bound with what shows it: the bound
-- is no more than that one, and at most that of the game's table.
pub record IsPlaced (given reduced : Inst) (most : ℕ) (s : Settled) : Type 0 where
  pub inst : s.layer.inst ≡ reduced
  pub layer : IsLayer s.layer.inst s.layer.spots
  pub known : IsKnown given reduced s.known
  pub less : s.known.bound ≤ most
  pub dual : IsAtMostDual reduced s.known.bound
  pub patterns : HoldsPatterns reduced (length s.layer.spots)

-- A layer of the reduced instance, and a bound with what shows it: the bound is at most each that is looked for,
-- the layer has at least the cases of each pattern, and no walk for one case more is left to be gone.
pub record IsSettled (given reduced : Inst) (s : Settled) : Type 0 where
  pub inst : s.layer.inst ≡ reduced
  pub layer : IsLayer s.layer.inst s.layer.spots
  pub some : 1 ≤ length s.layer.spots
  pub within : length s.layer.spots ≤ s.known.bound
  pub known : IsKnown given reduced s.known
  pub family : IsAtMostFamily reduced s.known.bound
  pub strip : IsAtMostStrip reduced s.known.bound
  pub dual : IsAtMostDual reduced s.known.bound
  pub area : s.known.bound ≤ area_bound_of given
  pub patterns : HoldsPatterns reduced (length s.layer.spots)
  pub decided : (length s.layer.spots ≡ s.known.bound) ⊎ HasLongWalk reduced (length s.layer.spots) most_states
