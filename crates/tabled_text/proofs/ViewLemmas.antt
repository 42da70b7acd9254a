-- The text of a table that is lent to be printed is that after the events that its configuration shows.
use Rattle.std.proofs.Common.{◌≡◌, ℕ, true, false, Bool, List, [], slice_index, refl, ap, ◌∙◌}
use Rattle.std.specs.List.{join_with_byte}
use Rattle.tabled_object.specs.declared.dimension.FixedDimension.{FixedDimension}
use Rattle.tabled_rooms.specs.Hosts.{Counts}
use Rattle.tabled_configuration.specs.Configuration as borders
use Rattle.tabled_configuration.specs.Configuration.{ConfigEvent, all_writes, is_sized_by_texts}
use Rattle.tabled_configuration.specs.Colored.{Shows}
use Rattle.tabled_printing.specs.Along.{is_empty}
use Rattle.tabled_printing.specs.Picture.{Look, look}
use Rattle.tabled_painting.specs.Pages.{text_of_lines}
use Rattle.tabled_painting.specs.PaintedSpans.{columns_spanned, painted_by, rows_spanned, spanned_cells, spanned_lines, spanned_table}
use Rattle.tabled_painting.specs.PaintedTable.{colored_text, plain_text}
use Rattle.tabled_painting.proofs.MarginLemmas.{no_places}
use Rattle.tabled_painting.proofs.Plain.{text_with_colors, text_without_colors}
use Rattle.tabled_text.specs.TableViews.{AreSizes, IsTable, heights_viewed, text_viewed, texts_viewed, widths_viewed}
use Rattle.tabled_text.specs.TextTable.{AreRead, Drawing, heights_read, painted, text_of, widths_read}
use Rattle.tabled_text.specs.declared.table_view.TableView.{TableView}
use Rattle.tabled_text.proofs.SpanLemmas.{is_colored_text, is_plain_text}

module _ {T : Type 0} (bytes : T → List ℕ) (view : TableView T) where
  -- without places there is no text
  pub no_text : (wanted : Bool) → is_empty view.shape ≡ true → text_viewed bytes view wanted ≡ []
  unfolding spanned_table
  no_text wanted none =
      let cfg = view.config.now in
      let settings = cfg.spanned.settings in
      let kept : Look = look (all_writes cfg.spanned) view.shape (slice_index (widths_viewed bytes view)) (slice_index (heights_viewed bytes view)) in
      let columns : Counts = columns_spanned settings in
      let rows : Counts = rows_spanned settings in
      no_places kept settings.margin (spanned_lines kept columns rows (spanned_cells kept columns rows settings.cells cfg.cell_colors (texts_viewed bytes view))) wanted none

  -- with these sizes it is printed, so an option reads them
  pub are_read : (drawing : Drawing) (sizes : FixedDimension) → AreSizes bytes view sizes → view.config.now ≡ drawing.config → texts_viewed bytes view ≡ drawing.texts
      → (is_sized_by_texts drawing.config.spanned ≡ true → sizes ≡ drawing.sizes) → AreRead drawing sizes
  are_read drawing sizes are cfg texts kept = record {
    widths = are.widths ∙ (λ i. widths_read (cfg i).spanned (texts i));
    heights = are.heights ∙ (λ i. heights_read (cfg i).spanned (texts i));
    kept = kept;
  }

  module _ (is : IsTable bytes view) (es : List ConfigEvent) where
    pub plain_text_viewed : borders.Shows es view.config.now.spanned → text_viewed bytes view false ≡ text_of es (texts_viewed bytes view)
    unfolding text_of_lines plain_text
    plain_text_viewed shows =
        ap (join_with_byte 10) (text_without_colors (painted_by view.config.now view.shape (widths_viewed bytes view) (heights_viewed bytes view) (texts_viewed bytes view)))
        ∙ is_plain_text view.config.now.spanned (texts_viewed bytes view) es shows view.shape (widths_viewed bytes view) (heights_viewed bytes view) is.shape refl refl view.config.now.cell_colors

    pub colored_text_viewed : Shows es view.config.now → text_viewed bytes view true ≡ colored_text (painted es (texts_viewed bytes view))
    unfolding text_of_lines colored_text
    colored_text_viewed shows =
        ap (join_with_byte 10) (text_with_colors (painted_by view.config.now view.shape (widths_viewed bytes view) (heights_viewed bytes view) (texts_viewed bytes view)))
        ∙ ap colored_text (is_colored_text view.config.now (texts_viewed bytes view) view.shape (widths_viewed bytes view) (heights_viewed bytes view) is.shape refl refl es shows)
