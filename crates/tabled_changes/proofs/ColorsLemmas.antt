-- The colors of cells after writes and removals by entity.
use Rattle.std.proofs.Common.{◌≡◌, cond, Some, None, option_map, List, [], ◌∷◌, map, refl, ap, sym, ◌∙◌}
use Rattle.std.specs.List.{list_any}
use Rattle.tabled_border.specs.Texts.{Texts}
use Rattle.tabled_object.specs.declared.position.Position.{Position}
use Rattle.tabled_settings.specs.Setting.{EntityEvent, write_of, setting, is_write}
use Rattle.tabled_settings.specs.Live.{Live, at_first, after, after_all, value_at}
use Rattle.tabled_settings.proofs.Settling.{value_is_the_setting, after_removal}
use Rattle.tabled_configuration.specs.CellColors.{changed, no_color, colors_after}

-- a map takes all events
pub with_map : (live : Live Texts) (events : List (EntityEvent Texts)) → colors_after (Some live) (map changed events) ≡ Some (after_all live events)
with_map live [] = refl
with_map live (event ∷ events) = with_map (after live event) events

pub by_entity : (events : List (EntityEvent Texts)) (cell : Position)
    → option_map (λ colors. value_at colors cell) (colors_after None (map changed events)) ≡ cond (list_any is_write events) (Some (setting events no_color cell)) None
by_entity [] cell = refl
by_entity ((entity, None) ∷ events) cell = by_entity events cell ∙ ap (λ color. cond (list_any is_write events) (Some color) None) (sym (after_removal cell no_color entity events))
by_entity ((entity, Some color) ∷ events) cell =
    ap (option_map (λ colors. value_at colors cell)) (with_map (after (at_first no_color) (write_of entity color)) events)
    ∙ ap Some (value_is_the_setting cell no_color (write_of entity color ∷ events))
