-- A row of node_count, seen as the list of its node_count.
use Rattle.std.proofs.Common.{◌≡◌, true, false, IsTrue, ℕ, ◌+◌, List, [], ◌∷◌, ◌++◌, map, refl, ap, sym, ◌∙◌, subst}
use Rattle.plan_geometry.specs.declared.instances.Inst.{Inst}
use Rattle.block_tree.specs.declared.regions.Region.{Region}
use Rattle.block_tree.specs.declared.regions.Cut.{Cut}
use Rattle.block_tree.specs.declared.nodes.Node.{Node}
use Rattle.block_tree.specs.declared.nodes.Block.{Row_of-Node, end_of-Node, more_of-Node, items-the_row-Node, items_hidden-the_row-Node-0}
use Rattle.block_tree.specs.declared.nodes.Block.TheVariants.{Five, Ell}
use Rattle.block_tree.specs.declared.nodes.Block.TheBlock.{hidden-the_row-Node-0}
use Rattle.block_tree.specs.declared.parts.Part.{Part}
use Rattle.block_tree.specs.Regions.{IsOrdered, side_x, side_y}
use Rattle.block_tree.specs.Parts.{AreFiveCuts, five_parts, IsCut, ell_parts}
use Rattle.block_tree.specs.Trees.{held_count, held_count_row, held_count_all, IsLawful, AreLawfulRow, AreLawful, node_count, node_count_row, node_count_all}
use Rattle.block_tree.specs.Drawing.{placed, drawn, drawn_row, drawn_all}

pub held_row-is : (i : Inst) {n : _} (k : Row_of-Node n) → held_count_row i k ≡ held_count_all i (items-the_row-Node _ k)
held_row-is i end_of-Node = refl
held_row-is i (more_of-Node r b rest) = ap (λ m. held_count i r b + m) (held_row-is i rest)

pub drawn_row-is : (i : Inst) (ps : List Part) {n : _} (k : Row_of-Node n) → drawn_row i ps k ≡ drawn_all i ps (items-the_row-Node _ k)
drawn_row-is i [] end_of-Node = refl
drawn_row-is i (p ∷ ps) end_of-Node = refl
drawn_row-is i [] (more_of-Node r b rest) = refl
drawn_row-is i (p ∷ ps) (more_of-Node r b rest) = ap (λ m. map (placed i p) (drawn i r b) ++ m) (drawn_row-is i ps rest)

pub lawful_row-to : (i : Inst) (ps : List Part) {n : _} (k : Row_of-Node n) → AreLawfulRow i ps k → AreLawful i ps (items-the_row-Node _ k)
lawful_row-to i [] end_of-Node h = h
lawful_row-to i (p ∷ ps) end_of-Node h = h
lawful_row-to i [] (more_of-Node r b rest) h = h
lawful_row-to i (p ∷ ps) (more_of-Node r b rest) h = (h.0, h.1, lawful_row-to i ps rest h.2)

pub lawful_row-of : (i : Inst) (ps : List Part) {n : _} (k : Row_of-Node n) → AreLawful i ps (items-the_row-Node _ k) → AreLawfulRow i ps k
lawful_row-of i [] end_of-Node h = h
lawful_row-of i (p ∷ ps) end_of-Node h = h
lawful_row-of i [] (more_of-Node r b rest) h = h
lawful_row-of i (p ∷ ps) (more_of-Node r b rest) h = (h.0, h.1, lawful_row-of i ps rest h.2)

pub held-five : (i : Inst) (r : Region) (x1 x2 y1 y2 : ℕ) (ns : List Node) → held_count i r (Five x1 x2 y1 y2 ns) ≡ held_count_all i ns
held-five i r x1 x2 y1 y2 ns = held_row-is i (hidden-the_row-Node-0 ns) ∙ ap (held_count_all i) (items_hidden-the_row-Node-0 ns)

pub held-ell : (i : Inst) (r : Region) (cut : Cut) (ns : List Node) → held_count i r (Ell cut ns) ≡ held_count_all i ns
held-ell i r cut ns = held_row-is i (hidden-the_row-Node-0 ns) ∙ ap (held_count_all i) (items_hidden-the_row-Node-0 ns)

pub drawn-five : (i : Inst) (r : Region) (x1 x2 y1 y2 : ℕ) (ns : List Node)
    → drawn i r (Five x1 x2 y1 y2 ns) ≡ drawn_all i (five_parts (side_x r) (side_y r) x1 x2 y1 y2) ns
drawn-five i r x1 x2 y1 y2 ns = drawn_row-is i (five_parts (side_x r) (side_y r) x1 x2 y1 y2) (hidden-the_row-Node-0 ns) ∙ ap (drawn_all i (five_parts (side_x r) (side_y r) x1 x2 y1 y2)) (items_hidden-the_row-Node-0 ns)

pub drawn-ell : (i : Inst) (r : Region) (cut : Cut) (ns : List Node)
    → drawn i r (Ell cut ns) ≡ drawn_all i (ell_parts r cut) ns
drawn-ell i r cut ns = drawn_row-is i (ell_parts r cut) (hidden-the_row-Node-0 ns) ∙ ap (drawn_all i (ell_parts r cut)) (items_hidden-the_row-Node-0 ns)

pub lawful-five : (i : Inst) (r : Region) (x1 x2 y1 y2 : ℕ) (ns : List Node) → IsLawful i r (Five x1 x2 y1 y2 ns)
    → AreLawful i (five_parts (side_x r) (side_y r) x1 x2 y1 y2) ns
lawful-five i r x1 x2 y1 y2 ns h =
    let P : List Node → Type 0 = AreLawful i (five_parts (side_x r) (side_y r) x1 x2 y1 y2) in
    subst P (items_hidden-the_row-Node-0 ns) (lawful_row-to i (five_parts (side_x r) (side_y r) x1 x2 y1 y2) (hidden-the_row-Node-0 ns) h.2)

pub lawful-ell : (i : Inst) (r : Region) (cut : Cut) (ns : List Node) → IsLawful i r (Ell cut ns) → AreLawful i (ell_parts r cut) ns
lawful-ell i r cut ns h =
    let P : List Node → Type 0 = AreLawful i (ell_parts r cut) in
    subst P (items_hidden-the_row-Node-0 ns) (lawful_row-to i (ell_parts r cut) (hidden-the_row-Node-0 ns) h.2)

pub nodes_row-is : {n : _} (k : Row_of-Node n) → node_count_row k ≡ node_count_all (items-the_row-Node _ k)
nodes_row-is end_of-Node = refl
nodes_row-is (more_of-Node r b rest) = ap (λ m. 1 + node_count b + m) (nodes_row-is rest)

pub nodes-five : (x1 x2 y1 y2 : ℕ) (ns : List Node) → node_count (Five x1 x2 y1 y2 ns) ≡ 1 + node_count_all ns
nodes-five x1 x2 y1 y2 ns = ap (λ m. 1 + m) (nodes_row-is (hidden-the_row-Node-0 ns) ∙ ap node_count_all (items_hidden-the_row-Node-0 ns))

pub nodes-ell : (cut : Cut) (ns : List Node) → node_count (Ell cut ns) ≡ 1 + node_count_all ns
nodes-ell cut ns = ap (λ m. 1 + m) (nodes_row-is (hidden-the_row-Node-0 ns) ∙ ap node_count_all (items_hidden-the_row-Node-0 ns))

pub five-lawful : (i : Inst) (r : Region) (x1 x2 y1 y2 : ℕ) (ns : List Node) → IsOrdered r → AreFiveCuts r x1 x2 y1 y2
    → AreLawful i (five_parts (side_x r) (side_y r) x1 x2 y1 y2) ns → IsLawful i r (Five x1 x2 y1 y2 ns)
five-lawful i r x1 x2 y1 y2 ns o k h =
    let P : List Node → Type 0 = AreLawful i (five_parts (side_x r) (side_y r) x1 x2 y1 y2) in
    (o, k, lawful_row-of i (five_parts (side_x r) (side_y r) x1 x2 y1 y2) (hidden-the_row-Node-0 ns) (subst P (sym (items_hidden-the_row-Node-0 ns)) h))

pub ell-lawful : (i : Inst) (r : Region) (cut : Cut) (ns : List Node) → IsOrdered r → IsCut r cut → AreLawful i (ell_parts r cut) ns → IsLawful i r (Ell cut ns)
ell-lawful i r cut ns o k h =
    let P : List Node → Type 0 = AreLawful i (ell_parts r cut) in
    (o, k, lawful_row-of i (ell_parts r cut) (hidden-the_row-Node-0 ns) (subst P (sym (items_hidden-the_row-Node-0 ns)) h))

-- a test that failed proves nothing
pub never : {A : Type 0} → IsTrue false → A
never h = absurd (let k : false ≡ true = h in cc)
