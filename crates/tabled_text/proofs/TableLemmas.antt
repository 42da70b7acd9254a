-- What a table knows of its texts, by others that they are equal to.
use Rattle.std.proofs.Common.{◌≡◌, None, List, ℕ, sym, ap, ◌∙◌}
use Rattle.tabled_width.specs.Texts.{Table}
use Rattle.tabled_measure.specs.Cells.{AreUtf8}
use Rattle.tabled_measure.specs.Sizes.{column_widths, row_heights, unequal_row}

abbrev pub IsMeasured : List ℕ → List ℕ → Table → Type 0
IsMeasured widths heights table = (unequal_row table ≡ None) × (widths ≡ column_widths table) × (heights ≡ row_heights table) × AreUtf8 table

pub measured_by : {widths heights : List ℕ} {new table : Table} → new ≡ table → unequal_row table ≡ None → widths ≡ column_widths table → heights ≡ row_heights table → AreUtf8 new → IsMeasured widths heights new
measured_by is none wide high utf8 = (ap unequal_row is ∙ none, wide ∙ sym (ap column_widths is), high ∙ sym (ap row_heights is), utf8)
