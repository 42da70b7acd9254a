-- The sizes by the lines that are drawn.
use Rattle.std.proofs.Common.{false, ap, ◌∙◌}
use Rattle.std.specs.Prelude.{slice_index_or}
use Rattle.tabled_rooms.specs.Sizes.{spanned_heights, spanned_widths}
use Rattle.tabled_painting.specs.PaintedSpans.{columns_spanned, rows_spanned}
use Rattle.tabled_painting.proofs.spanned_sizes.sizes_of_spanned.Goals as goal

pub returns-clause-widths : goal.returns-clause-widths
returns-clause-widths g c =
    let settings = c.args.cfg.now.settings in
    ap (λ widths. widths.items) c.new.ensures.widths ∙ c.in_ok-widths.ensures.widths
    ∙ (λ i. spanned_widths (columns_spanned settings) (rows_spanned settings) c.args.shape (g.M.CellSizes.width_at c.args.cells.now)
    (λ n. (ap (λ xs. slice_index_or xs n false) c.deref.ensures.value ∙ c.in_ok-sides.ensures.drawn n) i))

pub returns-clause-heights : goal.returns-clause-heights
returns-clause-heights g c =
    let settings = c.args.cfg.now.settings in
    ap (λ heights. heights.items) c.new.ensures.heights ∙ c.in_ok-widths.ensures.heights
    ∙ (λ i. spanned_heights (columns_spanned settings) (rows_spanned settings) c.args.shape (g.M.CellSizes.height_at c.args.cells.now)
    (λ n. (ap (λ xs. slice_index_or xs n false) c.deref-2.ensures.value ∙ c.in_ok-lines.ensures.drawn n) i))
