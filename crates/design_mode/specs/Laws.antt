-- What follows of the runs of `design`.
use Rattle.std.specs.Prelude.{ℕ, ◌+◌, ◌*◌, ◌≤◌, ◌≡◌, ⊤, Bool, true, List, [], length, map, All, Contains, Option, Some, None, slice_get}
use Rattle.plan_io.specs.Streams.{Intake, Outlet}
use Rattle.plan_io.specs.Causes.{Rose}
use Rattle.run_parts.specs.Codes.{IsDoneOrMemory}
use Rattle.run_parts.specs.declared.codes.Code.{Code}
use Rattle.plan_geometry.specs.declared.spots.Spot.{Spot}
use Rattle.order_reader.specs.Records.{Fields}
use Rattle.order_reader.specs.Orders.{OrderValue}
use Rattle.order_reader.specs.Instances.{IsLayerFor}
use Rattle.order_reader.specs.declared.faults.RowFault.TheVariants.{DoesNotFit, TooManyCases}
use Rattle.plan_entries.specs.declared.entries.Entry.{Entry}
use Rattle.plan_entries.specs.declared.entries.Entry.TheVariants as entry
use Rattle.plan_entries.specs.Entries.{is_refused}
use Rattle.case_design.specs.declared.briefs.Brief.{Brief}
use Rattle.case_design.specs.declared.sizes.Size.{Size}
use Rattle.case_design.specs.declared.designs.Design.{Design}
use Rattle.case_design.specs.declared.designs.Design.TheVariants.{Nothing, Refused, Rows}
use Rattle.case_design.specs.declared.best.Cover.{Cover}
use Rattle.case_design.specs.Designs.{GivesRows}
use Rattle.case_design.specs.Laws.{size_order}
use Rattle.design_mode.specs.Covers.{case_area}
use Rattle.design_mode.specs.DesignFiles.{HasDesign}
use Rattle.design_mode.specs.Designing.{DesignReported}
use Rattle.design_mode.specs.DesignRuns.{DesignRan}

-- Where what was read is a designs file within its limit, and no count of faults rose, a run of `design` lacked nothing but
-- memory.
abbrev pub DesignsAreComplete : Type 0
DesignsAreComplete =
    (from : Intake) (to : Outlet) (code : Code) (from' : Intake) (to' : Outlet)
    (ran : DesignRan from to code from' to') (design : Design)
    → HasDesign ran.read design → ¬ Rose from.faults from'.faults → ¬ Rose to.faults to'.faults → IsDoneOrMemory code

-- a layer of the order covers so many cells
pub record HasLayerThatCovers (o : OrderValue) (cells : ℕ) : Type 0 where
  pub spots : List Spot
  pub layer : IsLayerFor o spots
  pub covers : length spots * case_area o ≡ cells

-- and none covers more
abbrev pub NoLayerCoversMore : OrderValue → ℕ → Type 0
NoLayerCoversMore o cells = (spots : List Spot) → IsLayerFor o spots → length spots * case_area o ≤ cells

-- the only layer of the order is the empty one
abbrev pub HasOnlyEmptyLayer : OrderValue → Type 0
HasOnlyEmptyLayer o = (spots : List Spot) → IsLayerFor o spots → spots ≡ []

-- the order for the cases of the size of this number, from 1
pub record HasSize (id : List ℕ) (brief : Brief) (sizes : List Size) (number : ℕ) (o : OrderValue) : Type 0 where
  pub size : Size
  pub place : ℕ
  pub number_is : number ≡ place + 1
  pub stands : slice_get sizes place ≡ Some size
  pub order : o ≡ size_order id brief size

-- each entry is that of a refused row
abbrev pub AreRefused : List Entry → Type 0
AreRefused entries = All (λ e. is_refused e ≡ true) entries

-- The best size has a layer that covers what is told. Of each other size, but for those of the rivals that are told and
-- those that are refused since too many cases may fit, no layer covers more. Where there is no best, each size is refused.
abbrev pub CoversMost : List ℕ → Brief → List Size → List Entry → Option Cover → List Cover → Type 0
CoversMost id brief sizes entries None rivals = AreRefused entries
CoversMost id brief sizes entries (Some best) rivals =
    ((o : OrderValue) × HasSize id brief sizes best.number o × HasLayerThatCovers o best.covers)
    × ((number : ℕ) (o : OrderValue) → HasSize id brief sizes number o → ¬ Contains (map (λ r. r.number) rivals) number
    → ¬ Contains entries (entry.Refused number TooManyCases) → NoLayerCoversMore o best.covers)

-- of a size that is refused since its case does not fit, the only layer is the empty one
abbrev pub UnfitAreEmpty : List ℕ → Brief → List Size → List Entry → Type 0
UnfitAreEmpty id brief sizes entries = (number : ℕ) (o : OrderValue) → HasSize id brief sizes number o
    → Contains entries (entry.Refused number DoesNotFit) → HasOnlyEmptyLayer o

-- what is told of the best size is so, for the sizes that the file's row gives
abbrev pub IsTrueOf : Design → List Entry → Option Cover → List Cover → Type 0
IsTrueOf Nothing entries best rivals = entries ≡ []
IsTrueOf (Refused fault) entries best rivals = entries ≡ []
IsTrueOf (Rows id rows) entries best rivals = (row : Fields) (gives : GivesRows row id.items rows.items)
    → CoversMost id.items gives.brief gives.sizes entries best rivals × UnfitAreEmpty id.items gives.brief gives.sizes entries

-- where a run of `design` ended, what it told of the best size is so
abbrev pub BestCoversMost : Type 0
BestCoversMost =
    (read wrote : List ℕ) (found : Bool) (reported : DesignReported read wrote found)
    → IsTrueOf reported.design reported.entries reported.best reported.rivals
