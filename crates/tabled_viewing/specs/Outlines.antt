-- Outlines around cells of a table: which cells a word chooses, and what is drawn around them.
use Rattle.std.specs.declared.vec.Vec.{Vec}
use Rattle.std.specs.Prelude.{◌≡◌, ℕ, ◌-◌, Bool, true, false, if◌then◌else◌, List, [], ◌++◌, map, length, filter, slice_index_or, Option, Some, None, option_map, unwrap_or}
use Rattle.std.specs.Str.{bytes_eq}
use Rattle.tabled_border.specs.declared.border.Border.{Border}
use Rattle.tabled_object.specs.declared.entity.Entity.{Entity}
use Rattle.tabled_object.specs.declared.entity.Entity.TheVariants.{Global, Row, Column, Cell}
use Rattle.tabled_object.specs.declared.position.Position.{Position}
use Rattle.tabled_object.specs.Entities.{cells_of}
use Rattle.tabled_object.specs.Listing.{alone}
use Rattle.tabled_configuration.specs.Configuration.{ConfigEvent}
use Rattle.tabled_style.specs.Border.{full_border}
use Rattle.tabled_style.specs.declared.ready_style.ReadyStyle.{ReadyStyle}
use Rattle.tabled_style.specs.declared.ready_style.ReadyStyle.TheVariants as ready
use Rattle.tabled_highlight.specs.Highlighting.{highlight_events}
use Rattle.tabled_width.specs.Texts.{Table}
use Rattle.tabled_measure.specs.Sizes.{cell, column_count}
use Rattle.tabled_request.specs.Cells.{named_cells}
use Rattle.tabled_request.specs.declared.cells.Choice.{Choice}
use Rattle.tabled_request.specs.declared.cells.NamedCells.{NamedCells}
use Rattle.tabled_request.specs.Words.{word_at}
use Rattle.tabled_request.specs.declared.request.Request.{Request}

-- the text of a cell, the empty one outside the table
abbrev pub text_at : Table → Position → List ℕ
text_at table pos = cell (slice_index_or table pos.row []) pos.col

-- the cells whose text a word is, in row order
unfoldable pub marked : Table → List ℕ → List Entity
marked rows word = map alone (filter (λ pos. bytes_eq (text_at rows pos) word) (cells_of Global (length rows) (column_count rows)))

-- the cells that a part of a word names: one, those of a row or of a column, or all
abbrev pub index_of : Choice → ℕ
index_of part = unwrap_or part.number 1 - 1

abbrev pub entity_of : NamedCells → Entity
entity_of named =
    if named.rows.is_all then (if named.cols.is_all then Global else Column (index_of named.cols))
    else if named.cols.is_all then Row (index_of named.rows)
    else Cell (index_of named.rows) (index_of named.cols)

abbrev pub named : List ℕ → List Entity
named word = map entity_of (named_cells word)

-- whether a style draws by box drawing characters
abbrev pub draws_boxes : ReadyStyle → Bool
draws_boxes ready.Modern = true
draws_boxes ready.Sharp = true
draws_boxes ready.Rounded = true
draws_boxes ready.ModernRounded = true
draws_boxes ready.Extended = true
draws_boxes other = false

-- what an outline is drawn with over a table of a style, and what stands where two of its cells touch at a corner alone: heavy box drawing
-- characters, or number signs
abbrev pub line_of : ReadyStyle → Border ℕ
line_of style = if draws_boxes style then full_border 0x2501 0x2501 0x2503 0x2503 0x250F 0x2513 0x2517 0x251B else full_border 35 35 35 35 35 35 35 35

abbrev pub touch_of : ReadyStyle → ℕ
touch_of style = if draws_boxes style then 0x254B else 35

-- the outline around cells of a table, where there is one
unfoldable pub outlined : ReadyStyle → Option (List Entity) → Table → List ConfigEvent
outlined style None table = []
outlined style (Some cells) table = highlight_events (length table, column_count table) cells (Some (line_of style)) (Some (touch_of style)) None

-- the outlines that a request asks for, over the table of these texts: around cells that a word names, and then around those whose text, as it
-- stands in these rows, a word is
abbrev pub outlines : Request → ReadyStyle → List (List ℕ) → Table → Table → List ConfigEvent
outlines request style words rows texts =
    outlined style (option_map named (word_at words request.outline)) texts ++ outlined style (option_map (marked rows) (word_at words request.mark)) texts

-- the cells whose text the word is for which a request asks, in these rows
abbrev pub AreMarked : {Z : Type 0} → Request → List (List ℕ) → Table → Option (Vec Entity Z) → Type 0
AreMarked request words rows cells = option_map (λ cells. cells.items) cells ≡ option_map (marked rows) (word_at words request.mark)
