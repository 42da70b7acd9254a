-- A table as it is lent to be printed.
use Rattle.std.specs.Prelude.{◌≡◌, ℕ, Bool, List, length}
use Rattle.std.specs.List.{All}
use Rattle.tabled_object.specs.declared.dimension.FixedDimension.{FixedDimension}
use Rattle.tabled_width.specs.Texts.{Table}
use Rattle.tabled_painting.specs.Pages.{text_of_lines}
use Rattle.tabled_painting.specs.PaintedSpans.{painted_by}
use Rattle.tabled_cells.specs.TextsBy.{texts_by}
use Rattle.tabled_measure.specs.Sizes.{column_count, AreSizesOf}
use Rattle.tabled_text.specs.TextTable.{heights_read, widths_read}
use Rattle.tabled_text.specs.declared.table_view.TableView.{TableView}

module _ {T : Type 0} (bytes : T → List ℕ) (view : TableView T) where
  -- its texts
  abbrev pub texts_viewed : Table
  texts_viewed = texts_by bytes view.rows.now

  -- how wide its columns are and how high its rows, as it is printed
  abbrev pub widths_viewed : List ℕ
  widths_viewed = widths_read view.config.now.spanned texts_viewed

  abbrev pub heights_viewed : List ℕ
  heights_viewed = heights_read view.config.now.spanned texts_viewed

  -- its text, in color or without colors
  abbrev pub text_viewed : Bool → List ℕ
  text_viewed with_colors = text_of_lines with_colors (painted_by view.config.now view.shape widths_viewed heights_viewed texts_viewed)

  -- these are those sizes
  pub record AreSizes (sizes : FixedDimension) : Type 0 where
    pub widths : sizes.widths.items ≡ widths_viewed
    pub heights : sizes.heights.items ≡ heights_viewed
    pub columns : length sizes.widths.items ≡ view.shape.1
    pub rows : length sizes.heights.items ≡ view.shape.0

  -- its texts have its shape and its sizes
  pub record IsTable : Type 0 where
    pub rows : length view.rows.now ≡ view.shape.0
    pub cols : All (λ row. length row ≡ view.shape.1) texts_viewed
    pub shape : view.shape ≡ (length texts_viewed, column_count texts_viewed)
    pub sized : AreSizesOf view.sizes.now texts_viewed
