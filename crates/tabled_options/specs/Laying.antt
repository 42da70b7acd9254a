-- How the table of a line looks along which a text is laid. Only private calls cite this.
use Rattle.std.specs.Prelude.{ℕ}
use Rattle.tabled_configuration.specs.Configuration.{all_writes}
use Rattle.tabled_printing.specs.Picture.{Look, look}
use Rattle.tabled_options.specs.declared.table_line.TableLine.{TableLine}

-- how the table of a line looks, where two functions give the widths of columns and the heights of rows
abbrev pub looked : {D : Type 0} → (D → ℕ → ℕ) → (D → ℕ → ℕ) → TableLine D → Look
looked width_of height_of line = look (all_writes line.cfg.now) line.shape (width_of line.dims.now) (height_of line.dims.now)
