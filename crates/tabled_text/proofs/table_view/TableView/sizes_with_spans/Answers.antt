-- The sizes of the texts, by what is set and by which lines are drawn.
use Rattle.std.proofs.Common.{◌∙◌}
use Rattle.tabled_places.specs.Drawn.{drawn}
use Rattle.tabled_places.specs.declared.place.LineOf.{LineOf}
use Rattle.tabled_configuration.specs.Configuration.{all_writes, characters_of}
use Rattle.tabled_rooms.specs.Sizes.{spanned_heights, spanned_widths}
use Rattle.tabled_painting.specs.PaintedSpans.{columns_spanned, rows_spanned}
use Rattle.tabled_measure.specs.Sizes.{height_with_padding, width_with_padding}
use Rattle.tabled_text.specs.TableViews.{texts_viewed}
use Rattle.tabled_text.specs.TextTable.{heights_with_spans, widths_with_spans}
use Rattle.tabled_text.proofs.table_view.TableView.sizes_with_spans.Goals as goal

pub returns-clause-widths : goal.returns-clause-widths
unfolding widths_with_spans
returns-clause-widths g c =
    let cfg = c.config-cfg.ensures in
    let table = texts_viewed g.T.AsStr.text c.args.self.now in
    let shape = c.requires.shape in
    c.in_ok-sizes.ensures.widths
    ∙ (λ i. spanned_widths (columns_spanned (cfg i).settings) (rows_spanned (cfg i).settings) (shape i) (width_with_padding (cfg i).settings.cells table)
    (λ n. drawn (characters_of (all_writes (cfg i))) (shape i).1 (LineOf.Vertical n)))

pub returns-clause-heights : goal.returns-clause-heights
unfolding heights_with_spans
returns-clause-heights g c =
    let cfg = c.config-cfg.ensures in
    let table = texts_viewed g.T.AsStr.text c.args.self.now in
    let shape = c.requires.shape in
    c.in_ok-sizes.ensures.heights
    ∙ (λ i. spanned_heights (columns_spanned (cfg i).settings) (rows_spanned (cfg i).settings) (shape i) (height_with_padding (cfg i).settings.cells table)
    (λ n. drawn (characters_of (all_writes (cfg i))) (shape i).0 (LineOf.Horizontal n)))
