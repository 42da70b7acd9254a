-- The page has these lines.
use Rattle.std.proofs.Common.{◌∙◌, slice_index}
use Rattle.tabled_configuration.specs.Configuration.{all_writes}
use Rattle.tabled_printing.specs.Picture.{Look, look}
use Rattle.tabled_printing.specs.Viewed.{with_colors_if}
use Rattle.tabled_rooms.specs.Hosts.{Counts}
use Rattle.tabled_painting.specs.Pages.{text_of_lines}
use Rattle.tabled_painting.specs.PaintedSpans.{columns_spanned, painted_as_set, rows_spanned, spanned_cells, spanned_table}
use Rattle.tabled_painting.proofs.SpannedPlain.{spanned_written_if}
use Rattle.tabled_painting.proofs.table_page.TablePage.new.Goals as goal

pub returns-clause-text : goal.returns-clause-text
unfolding spanned_table
returns-clause-text c table =
    let is = c.in_ok-lines.ensures in
    let cfg = c.args.cfg.now in
    let sizes = c.args.sizes.now in
    let settings = cfg.spanned.settings in
    let view : Look = look (all_writes cfg.spanned) c.args.shape (slice_index sizes.widths.items) (slice_index sizes.heights.items) in
    let columns : Counts = columns_spanned settings in
    let rows : Counts = rows_spanned settings in
    (λ i. text_of_lines (is.with_colors i) (painted_as_set (with_colors_if (is.with_colors i) (look (all_writes (is.cfg i)) (is.shape i) (slice_index (is.sizes i).now.widths.items) (slice_index (is.sizes i).now.heights.items)))
    (is.cfg i).settings (is.colors i) table))
    ∙ spanned_written_if c.args.with_colors view columns rows (spanned_cells view columns rows settings.cells cfg.cell_colors table) settings.margin
