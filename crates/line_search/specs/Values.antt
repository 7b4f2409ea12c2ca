-- What the values of a grid keep: lists as long as the quarter of the grid.
use Rattle.std.specs.Prelude.{◌≡◌, ℕ, ◌*◌, ◌≤◌, vec_len}
use Rattle.line_tables.specs.Lines.{half}
use Rattle.line_search.specs.declared.values.Values.{Values}

-- how many entries a quarter has
abbrev pub quarter_of : Values → ℕ
quarter_of v = half v.rows * half v.columns

-- a number of each kind for each entry of the quarter
pub record AreValues (v : Values) : Type 0 where
  pub columns_max : v.columns ≤ 4000
  pub rows_max : v.rows ≤ 4000
  pub at : vec_len v.at ≡ quarter_of v
  pub stepped : vec_len v.stepped ≡ quarter_of v
  pub reflected : vec_len v.reflected ≡ quarter_of v
  pub anchor : vec_len v.anchor ≡ quarter_of v
  pub counts : vec_len v.counts ≡ quarter_of v
  pub sums : vec_len v.sums ≡ quarter_of v
  pub rates : vec_len v.rates ≡ quarter_of v
