-- What repeats between the rows of a table, so that it is painted once.
use Rattle.std.specs.Prelude.{◌≡◌, ℕ, ◌<◌, Bool, None, List}
use Rattle.std.specs.FinMap.{get}
use Rattle.tabled_places.specs.declared.place.LineOf.{LineOf}
use Rattle.tabled_object.specs.declared.dimension.FixedDimension.{FixedDimension}
use Rattle.tabled_configuration.specs.Configuration.{Configuration}
use Rattle.tabled_printing.specs.Alike.{IsBareLine}
use Rattle.tabled_printing.specs.Picture.{marks_along}
use Rattle.tabled_printing.specs.declared.frame.Frame.{Frame}
use Rattle.tabled_painting.specs.Pages.{line_text}
use Rattle.tabled_painting.specs.PaintedTable.{painted_marks}
use Rattle.tabled_painting.specs.Viewed.{viewed}

-- a horizontal line is no custom one, and nothing is kept for a single place of it
pub record IsPlainLine (cfg : Configuration) (wanted : Bool) (r : ℕ) : Type 0 where
  pub no_characters : get cfg.characters.horizontal_lines r ≡ None
  pub no_colors : get cfg.colors.horizontal_lines r ≡ None
  pub bare : IsBareLine cfg wanted r

-- so is each such line between two rows written
abbrev pub IsBetweenRows : {M : Type 0} → Frame FixedDimension M → List ℕ → Type 0
IsBetweenRows frame text = (r : ℕ) → 0 < r → r < frame.shape.0 → IsPlainLine frame.cfg.now frame.with_colors r → text ≡ line_text frame.with_colors (painted_marks (marks_along (viewed frame) (LineOf.Horizontal r)))
