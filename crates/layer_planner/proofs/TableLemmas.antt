-- Tables: what makes one accepted, that it has a text, and how its bound stands to those of layers and of other tables.
use Rattle.std.proofs.Common.{◌≡◌, ℕ, true, ◌*◌, ◌≤◌, List, ◌∷◌, [], ◌∙◌, Some, None, length, ap, sym, subst, refl, leb, eq-eqb, arith, inr}
use Rattle.std.specs.List.{list_all}
use Rattle.std.proofs.Math.Nat.{mul_comm}
use Rattle.std.proofs.lemmas.Bool.{le-leb}
use Rattle.std.proofs.lemmas.List.Sums.{list_all-from_AllPass}
use Rattle.plan_geometry.specs.declared.spots.Spot.{Spot}
use Rattle.plan_geometry.specs.declared.instances.Inst.{Inst}
use Rattle.plan_geometry.specs.Layout.{IsLayout}
use Rattle.plan_geometry.proofs.Counting.{bounded_by_weight}
use Rattle.partitions.specs.Partitions.{SameSides}
use Rattle.weightings.specs.declared.kinds.Weighting.{Weighting}
use Rattle.weightings.specs.declared.kinds.Weighting.TheVariants.{Table, Lines as ByLines}
use Rattle.weightings.specs.declared.certs.Mark.TheVariants.{Leaf}
use Rattle.weightings.specs.declared.certs.Cert.TheVariants as certs
use Rattle.weightings.specs.Table.{CellTable, cell_of, IsCellTable}
use Rattle.weightings.specs.Weighting.{weight_of, IsLawfulWeighting, IsWeightBound}
use Rattle.dual_search.specs.Dual.{IsDual}
use Rattle.dual_search.proofs.OneDual.{one_dual}
use Rattle.cert_text.specs.declared.forms.Form.TheVariants.{Two}
use Rattle.line_tables.specs.Lines.{Lines, half, IsLineTable}
use Rattle.cert_text.specs.Ranges.{are_sides, are_counts, are_weights, is_weighting}
use Rattle.cert_text.proofs.LineWords.{table_fits}
use Rattle.layer_planner.specs.declared.bounds.Known.{Known}
use Rattle.layer_planner.specs.Quality.{IsTable, IsAtMostDual}
use Rattle.layer_planner.specs.Known.{IsKnown}
use Rattle.layer_planner.proofs.CertLemmas.{both, leaf-refutes}

-- ---- a table as a certificate

sides-text : (x y : ℕ) → 1 ≤ x → x ≤ 4000 → 1 ≤ y → y ≤ 4000 → x * y ≤ 40000 → are_sides x y ≡ true
sides-text x y a b c d e = both _ _ (le-leb 1 x a) (both _ _ (le-leb x 4000 b) (both _ _ (le-leb 1 y c) (both _ _ (le-leb y 4000 d) (le-leb (x * y) 40000 e))))

weights-text : (t : CellTable) → IsCellTable t → are_weights (t.y_side * t.x_side) t.cells ≡ true
weights-text t h =
    both _ _ (eq-eqb (length t.cells) (t.y_side * t.x_side) (h.count ∙ mul_comm t.x_side t.y_side))
    (list_all-from_AllPass (λ w. leb w 100000) t.cells (λ i d l. le-leb _ _ (h.light i d l)))

pub table-text : (I : Inst) (t : CellTable) → IsCellTable t → t.x_side ≡ I.l_side → t.y_side ≡ I.w_side → is_weighting Two (Table t) ≡ true
table-text I t h ex ey =
    let s = I.sides in
    both _ _ (sides-text t.x_side t.y_side h.some_x (omega (arith, ex, s)) h.some_y (omega (arith, ey, s)) h.few) (weights-text t h)

pub lines-text : (t : Lines) → IsLineTable t → length t.columns ≤ 4000 → length t.rows ≤ 4000 → is_weighting Two (ByLines t) ≡ true
lines-text t h columns rows =
    let k = length t.columns in
    let m = length t.rows in
    let turn : half m * half k ≡ half k * half m = mul_comm (half m) (half k) in
    let few : half k * half m ≤ 40000 = omega (arith, turn, h.count, h.few) in
    let counts : are_counts k m ≡ true = both _ _ (le-leb 1 k h.columns.some) (both _ _ (le-leb k 4000 columns) (both _ _ (le-leb 1 m h.rows.some) (both _ _ (le-leb m 4000 rows) (le-leb (half k * half m) 40000 few)))) in
    both _ _ counts (table_fits t h)

pub table-known : (given reduced : Inst) (g : Weighting) (n : ℕ) → SameSides given reduced → IsTable g → IsLawfulWeighting reduced g → is_weighting Two g ≡ true → IsWeightBound reduced (weight_of g) n
    → IsKnown given reduced (record { bound = n; cert = certs.Weighted g (Leaf ∷ []) })
table-known given reduced g n same table lawful text w = record {
  accepted = record { same = same; holds = record { lawful = lawful; refutation = record { least = w.least; is_least = w.is_least; refutes = leaf-refutes reduced (weight_of g) n w }; some = w.some } };
  short = inr (table, refl);
  in_range = λ few. both _ _ text refl;
}

-- ---- the bounds of tables

-- no weights bound fewer cases than a layer has
pub layer-within : (I : Inst) (g : ℕ → ℕ → ℕ) (n : ℕ) (spots : List Spot) → IsWeightBound I g n → IsLayout I spots → length spots ≤ n
layer-within I g n spots w l =
    let b = bounded_by_weight g I w.least w.some w.is_least.bound spots l in
    subst (λ m. length spots ≤ m) (sym w.value) b

-- a bound that a layer reaches is at most that of each table
pub reached-dual : (I : Inst) (bound : ℕ) (spots : List Spot) → bound ≤ length spots → IsLayout I spots → IsAtMostDual I bound
reached-dual I bound spots le l t n few d w = let m = layer-within I (cell_of t) n spots w l in omega (arith, le, m)

-- there is only one best table of so many rounds
pub one-table : (I : Inst) (rounds : ℕ) (t u : CellTable) → IsDual I rounds (Some t) → IsDual I rounds (Some u) → t ≡ u
one-table I rounds t u x y = cc (one_dual I rounds (Some t) (Some u) x y)

pub dual-is : (I : Inst) (t : CellTable) (bound : ℕ) → IsDual I 2000 (Some t) → ((n : ℕ) → IsWeightBound I (cell_of t) n → bound ≤ n) → IsAtMostDual I bound
dual-is I t bound d le u m few e v =
    let same : u ≡ t = one-table I 2000 u t e d in
    le m (subst (λ x. IsWeightBound I (cell_of x) m) same v)

pub dual-none : (I : Inst) (bound : ℕ) → IsDual I 2000 None → IsAtMostDual I bound
dual-none I bound d t n few e w = absurd (apart (one_dual I 2000 None (Some t) d e))
  where
    apart : None ≡ Some t → ⊥
    apart e = cc
