-- Columns, cells and rows of a table that are found by their texts.
use Rattle.std.specs.Prelude.{ℕ, ◌-◌, ◌&&◌, Bool, not, nat_lt, bytes_eq, List, [], filter, length, map, slice_index_or}
use Rattle.tabled_object.specs.Entities.{below, cells_of}
use Rattle.tabled_object.specs.Listing.{chosen}
use Rattle.tabled_object.specs.declared.entity.Entity.{Entity}
use Rattle.tabled_object.specs.declared.entity.Entity.TheVariants.{Column, Global}
use Rattle.tabled_object.specs.declared.position.Position.{Position}
use Rattle.tabled_numbers.specs.Columns.{cell, column_count}
use Rattle.tabled_width.specs.Texts.{Table}

-- the text of the cell in a row and a column, the empty one where there is none
abbrev pub text_at : Table → ℕ → ℕ → List ℕ
text_at table row col = cell (slice_index_or table row []) col

-- the columns whose text in row 0 is this one, from the left
abbrev pub columns_named : List ℕ → Table → List Entity
columns_named name table = map Column (filter (λ col. bytes_eq (text_at table 0 col) name) (below (column_count table)))

-- whether the text of a cell is this one
abbrev pub has_text : Table → List ℕ → Position → Bool
has_text table text cell = bytes_eq (text_at table cell.row cell.col) text

-- the cells whose text is this one, in row order
abbrev pub cells_with : List ℕ → Table → List Entity
cells_with text table = chosen (has_text table text) (cells_of Global (length table) (column_count table))

-- whether a group begins at a row below the first ones, which are headings: its text in a column is another than in the row above
abbrev pub begins_group : ℕ → ℕ → Table → ℕ → Bool
begins_group headings col table row = nat_lt headings row && not (bytes_eq (text_at table (row - 1) col) (text_at table row col))

abbrev pub group_starts : ℕ → ℕ → Table → List ℕ
group_starts headings col table = filter (begins_group headings col table) (below (length table))
