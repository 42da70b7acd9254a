-- The padding is the first one, and the rest is read.
use Rattle.std.proofs.Common.{sym, ap, ◌∙◌}
use Rattle.tabled_settings.proofs.Paddings.{first_alone}
use Rattle.tabled_cells.specs.Placed.{padding_shown}
use Rattle.tabled_cells.specs.Placements.{placement_at}
use Rattle.tabled_painting.proofs.bare_cells.is_bare.Goals as goal

pub returns-then-get_justification-eq32 : goal.returns-then-get_justification-eq32
unfolding placement_at
returns-then-get_justification-eq32 c holds = record {
  whole_lines = sym c.get_trim_horizontal.ensures ∙ c.if-get_trim_horizontal.false;
  all_lines = sym c.get_trim_vertical.ensures ∙ c.if-get_trim_vertical.false;
  spaces = sym c.get_justification.ensures ∙ c.if-get_justification-eq32.true;
  padding = ap padding_shown (first_alone _ (sym c.has_first_padding.ensures ∙ holds));
}
