-- The text of a table's page.
use Rattle.std.specs.Prelude.{ℕ, List}
use Rattle.tabled_width.specs.Texts.{Table}
use Rattle.tabled_painting.specs.Painted.{Painted}
use Rattle.tabled_painting.specs.PaintedTable.{with_margin}
use Rattle.tabled_painting.specs.PaintedSpans.{spanned_lines}
use Rattle.tabled_painting.specs.Pages.{text_of_lines}
use Rattle.tabled_painting.specs.RoomLines.{columns_of, room_cells, rows_of}
use Rattle.tabled_painting.specs.Viewed.{viewed}
use Rattle.tabled_painting.specs.declared.table_lines.TableLines.{TableLines}
use Rattle.tabled_painting.specs.declared.table_page.TablePage.{TablePage}

-- the lines of a table
abbrev pub lines_between : TableLines → Table → List Painted
lines_between lines table = spanned_lines (viewed lines.frame) (columns_of lines) (rows_of lines) (room_cells lines table)

-- the text of its page, with its margin
abbrev pub text_of_page : TablePage → Table → List ℕ
text_of_page page table =
    text_of_lines page.lines.frame.with_colors (with_margin (viewed page.lines.frame) page.lines.frame.cfg.now.settings.margin (lines_between page.lines table))
