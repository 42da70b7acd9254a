-- The characters of a line are its text as it is placed.
use Rattle.std.proofs.Common.{◌++◌, false, ap, sym, subst, ◌∙◌}
use Rattle.std.specs.Prelude.{chars}
use Rattle.std.proofs.lemmas.Str.{chars-append}
use Rattle.unicode_width.specs.Width.{str_width}
use Rattle.tabled_cells.specs.Placements.{placement_at}
use Rattle.tabled_cells.specs.Trimmed.{lines_shown}
use Rattle.tabled_width.specs.Texts.{width_of_text}
use Rattle.tabled_width.proofs.Tiles.{Lacks}
use Rattle.tabled_cells.proofs.Fits.{placed_at_lacks, placed_at_tile, placed_at_wide, settings_lack, starts_with_spaces}
use Rattle.tabled_painting.proofs.Plain.{plain_cell}
use Rattle.tabled_claims.proofs.cells.cells_always_fit.Goals as goal

pub returns-clause-wide : goal.returns-clause-wide
returns-clause-wide c settings row col colors width height text line utf8 spaces room =
    let how = placement_at settings row col in
    ap width_of_text (plain_cell how colors width height (lines_shown how text) line) ∙ placed_at_wide how width height text line (starts_with_spaces settings row col spaces) utf8 room

pub returns-clause-one_line : goal.returns-clause-one_line
returns-clause-one_line c settings row col colors width height text line =
    let how = placement_at settings row col in
    subst Lacks (sym (plain_cell how colors width height (lines_shown how text) line)) (placed_at_lacks how width height text line (settings_lack settings row col))

pub returns-clause-after_any_text : goal.returns-clause-after_any_text
returns-clause-after_any_text c settings row col colors width height text line front before utf8 spaces some room =
    let how = placement_at settings row col in
    ap (λ own. width_of_text (front ++ own)) (plain_cell how colors width height (lines_shown how text) line)
    ∙ ap (str_width false) (chars-append front _ before) ∙ (placed_at_tile how width height text line (starts_with_spaces settings row col spaces) utf8 room some).apart (chars front)
