-- The rows of an input that are shown, and their texts.
use Rattle.std.specs.Prelude.{ℕ, ◌+◌, Bool, if◌then◌else◌, List, take, Option, Some, None}
use Rattle.tabled_builder.specs.Records.{filled}
use Rattle.tabled_clean.specs.Steering.{cleaned}
use Rattle.tabled_input.specs.Selection.{numbered, selected}
use Rattle.tabled_measure.specs.Changed.{cells_changed, each_text}
use Rattle.tabled_measure.specs.Sizes.{column_count}
use Rattle.tabled_request.specs.Columns.{columns_named}
use Rattle.tabled_request.specs.Sides.{headings_of}
use Rattle.tabled_request.specs.Words.{word_at}
use Rattle.tabled_request.specs.declared.request.Request.{Request}
use Rattle.tabled_width.specs.Texts.{Table}

-- filled with empty cells, if they are to be
abbrev pub rows_filled : Request → Table → Table
rows_filled request rows = if request.fills then filled rows else rows

-- the first of them: as many as are asked for, and the header above them
abbrev pub header_count : Bool → ℕ
header_count has_header = if has_header then 1 else 0

abbrev pub first_rows : Option ℕ → Bool → Table → Table
first_rows None has_header rows = rows
first_rows (Some count) has_header rows = take (header_count has_header + count) rows

-- of the columns that a word names, in its order
abbrev pub columns_chosen : Request → Option (List ℕ) → Table → Table
columns_chosen request None rows = rows
columns_chosen request (Some word) rows = selected (columns_named word (headings_of request rows) (column_count rows)) rows

-- with their numbers before them, if they are to have them
abbrev pub with_numbers : Request → Table → Table
with_numbers request rows = if request.has_row_numbers then numbered request.has_header rows else rows

-- the rows before columns are chosen, before they have their numbers, and as they are shown
abbrev pub rows_taken : Request → Table → Table
rows_taken request rows = first_rows request.head request.has_header (rows_filled request rows)

abbrev pub rows_chosen : Request → List (List ℕ) → Table → Table
rows_chosen request words rows = columns_chosen request (word_at words request.columns) (rows_taken request rows)

unfoldable pub rows_shown : Request → List (List ℕ) → Table → Table
rows_shown request words rows = with_numbers request (rows_chosen request words rows)

-- their texts: cleaned, unless they are to be left as they are
unfoldable pub texts_shown : Request → Table → Table
texts_shown request rows = if request.is_raw then rows else cells_changed (each_text cleaned) rows
