use Rattle.std.proofs.Common.{ap, ◌∙◌}
use Rattle.tabled_configuration.specs.Configuration.{Configuration}
use Rattle.tabled_theme.specs.Shown.{owned_colors}
use Rattle.tabled_theme.proofs.theme.Theme.from_config.Goals as goal

pub returns : goal.returns
returns c = λ i. record {
  characters = (c.get_borders.ensures ∙ ap (λ (s : Configuration). s.characters.class_record) c.config-config.ensures) i;
  colors = (c.in_ok-colors.ensures ∙ ap owned_colors (c.get_color_borders.ensures ∙ ap (λ (s : Configuration). s.colors.class_record) c.config-config.ensures)) i;
  set = record {
    horizontals = (c.of-set_horizontals.ensures ∙ c.in_ok-get_horizontal_lines.ensures ∙ ap (λ (s : Configuration). s.characters.horizontal_lines) c.config-config.ensures) i;
    verticals = (c.of-set_verticals.ensures ∙ c.in_ok-get_vertical_lines.ensures ∙ ap (λ (s : Configuration). s.characters.vertical_lines) c.config-config.ensures) i;
  };
  beneath = record { horizontals = c.new.ensures i; verticals = c.new-2.ensures i };
}
