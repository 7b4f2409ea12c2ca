use Rattle.std.specs.Prelude.{ℕ, ◌≤◌}

-- the numbers of a span: each is at most the greatest side of a pallet
pub record IsSpan (start length longs shorts : ℕ) : Type 0 where
  pub start_max : start ≤ 4000
  pub length_max : length ≤ 4000
  pub longs_max : longs ≤ 4000
  pub shorts_max : shorts ≤ 4000

-- the numbers of a grid: it begins at most twice the greatest side away, and has at most as many columns
-- and rows as that side has units
pub record IsSmallGrid (x y columns rows : ℕ) : Type 0 where
  pub x_max : x ≤ 8000
  pub y_max : y ≤ 8000
  pub columns_max : columns ≤ 4000
  pub rows_max : rows ≤ 4000
