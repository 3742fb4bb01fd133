-- The table of all choices: a row for each, and the best of them.
use Rattle.std.specs.Prelude.{◌≡◌, ℕ, List, length, Some, slice_get}
use Rattle.sq_mapfile.specs.declared.choices.Choices.{Choices}
use Rattle.sq_mapping.specs.declared.mapping.Mapping.{Mapping}
use Rattle.sq_mapfile.specs.Made.{mapping_of}
use Rattle.sq_tune.specs.declared.row.RowEnd.{RowEnd}
use Rattle.sq_tune.specs.declared.row.Table.{Table}
use Rattle.sq_tune.specs.Best.{IsBest}

-- Each choice has its row, in their order, by what a row of a mapping is.
pub record AreRows (IsRow : Mapping → RowEnd → Type 0) (choices : Choices) (rows : List RowEnd) : Type 0 where
  pub as_many : length rows ≡ choices.number
  pub each : (n : ℕ) (row : RowEnd) → slice_get rows n ≡ Some row → IsRow (mapping_of choices n) row

-- the table has a row for each choice, and the first of the best
pub record IsTable (IsRow : Mapping → RowEnd → Type 0) (choices : Choices) (table : Table) : Type 0 where
  pub rows : AreRows IsRow choices table.rows
  pub best : IsBest table.rows table.best
