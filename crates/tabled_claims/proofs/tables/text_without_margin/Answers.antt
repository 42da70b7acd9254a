-- The lines of a cell are the pieces of its text.
use Rattle.std.proofs.Common.{ap, ◌∙◌}
use Rattle.std.specs.List.{join_with_byte}
use Rattle.tabled_painting.specs.PaintedTable.{painted_cells, plain_text}
use Rattle.tabled_measure.specs.Sizes.{column_widths, row_heights}
use Rattle.tabled_measure.specs.Cells.{cells_set, margin_set, cell_colors}
use Rattle.tabled_text.specs.TextTable.{cell_texts, look_of, painted_alone}
use Rattle.tabled_text.proofs.SpanLemmas.{text_without}
use Rattle.tabled_claims.proofs.CellTexts.{characters_around, cells_show}
use Rattle.tabled_claims.proofs.tables.text_without_margin.Goals as goal

pub returns : goal.returns
unfolding painted_alone plain_text
returns c = λ es table none no_spans.
    text_without es table no_spans
    ∙ ap (join_with_byte 10)
    (characters_around (look_of es table) (margin_set es) (painted_cells (cells_set es) (cell_colors es) (column_widths table) (row_heights table) table) (cell_texts es table) none (cells_show es table))
