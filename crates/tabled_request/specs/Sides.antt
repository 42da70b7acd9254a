-- Where the cells of each column stand.
use Rattle.std.specs.Prelude.{ℕ, Bool, false, ◌&&◌, if◌then◌else◌, List, [], ◌∷◌, map, Option, None, Some}
use Rattle.std.specs.List.{range_with_len}
use Rattle.tabled_numbers.specs.Columns.{column_count, is_numeric}
use Rattle.tabled_request.specs.Columns.{columns_named, is_one}
use Rattle.tabled_request.specs.Words.{word_at}
use Rattle.tabled_request.specs.declared.request.Request.{Request}
use Rattle.tabled_request.specs.declared.sides.ColumnSide.{ColumnSide}
use Rattle.tabled_request.specs.declared.sides.ColumnSide.TheVariants.{Left, Center, Right}

-- the headings of the columns: the texts of the first row, where that is a header
abbrev pub headings_of : Request → List (List (List ℕ)) → List (List ℕ)
headings_of request [] = []
headings_of request (row ∷ rows) = if request.has_header then row else []

-- the rows below the header
abbrev pub below_header : Bool → List (List (List ℕ)) → List (List (List ℕ))
below_header has_header [] = []
below_header has_header (row ∷ rows) = if has_header then rows else row ∷ rows

-- whether the word of a number names a column of rows, by its number or by its heading
abbrev pub is_named : Request → List (List ℕ) → List (List (List ℕ)) → Option ℕ → ℕ → Bool
is_named request words rows number col =
    elim (word_at words number) [ None ↦ false | Some word ↦ is_one (columns_named word (headings_of request rows) (column_count rows)) col ]

-- where the cells of a column stand: as the words say, and else at the right where it is one of numbers
abbrev pub side_of : Request → List (List ℕ) → List (List (List ℕ)) → ℕ → ColumnSide
side_of request words rows col =
    if is_named request words rows request.left col then Left
    else if is_named request words rows request.center col then Center
    else if is_named request words rows request.right col then Right
    else if request.finds_numbers && is_numeric (below_header request.has_header rows) col then Right
    else Left

-- where the cells of each column stand
abbrev pub sides_of : Request → List (List ℕ) → List (List (List ℕ)) → List ColumnSide
sides_of request words rows = map (side_of request words rows) (range_with_len 0 (column_count rows))
