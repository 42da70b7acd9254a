-- A row that is being filled. Only private calls cite this.
use Rattle.std.specs.Prelude.{◌≡◌, string_bytes}
use Rattle.tabled_width.specs.Texts.{width_of_text}
use Rattle.tabled_width.specs.declared.rows.FilledRow.{FilledRow}

-- its width is that of its text
abbrev pub IsMeasured : FilledRow → Type 0
IsMeasured row = row.width ≡ width_of_text (string_bytes row.text)
