-- A ready style sets no spans and no padding.
use Rattle.std.proofs.Common.{◌≡◌, ◌==◌, ◌&&◌, true, [], ◌∷◌, ◌++◌, ap, ◌∙◌}
use Rattle.std.specs.FinMap.{len, len-empty}
use Rattle.tabled_places.specs.declared.event.Event.TheVariants.{Erase as erase}
use Rattle.tabled_places.specs.declared.event.Region.TheVariants.{All as every_site}
use Rattle.tabled_places.specs.State.{class_record_set}
use Rattle.tabled_settings.specs.Padding.{keeps_first_padding}
use Rattle.tabled_layout.specs.TableSettings.{settings_after, first_settings}
use Rattle.tabled_configuration.specs.Configuration.{settings_of, borders_replaced, horizontal_lines_put, vertical_lines_put}
use Rattle.tabled_measure.specs.Cells.{settings_set, leaves_sizes}
use Rattle.tabled_style.specs.declared.ready_style.ReadyStyle.{ReadyStyle}
use Rattle.tabled_style.specs.Named.{shown}
use Rattle.tabled_pages.specs.Style.{styled}
use Rattle.tabled_claims.proofs.NoSettings.{no_settings}

pub no_settings_of_style : (style : ReadyStyle) → settings_of (styled style) ≡ []
unfolding borders_replaced
no_settings_of_style style =
    no_settings (erase every_site ∷ horizontal_lines_put (shown style).horizontals ++ vertical_lines_put (shown style).verticals ++ class_record_set (shown style).borders)
    (erase every_site ∷ [])

pub no_spans : (style : ReadyStyle) → leaves_sizes (styled style) ≡ true
no_spans style =
    let none : len (settings_set (styled style)).column_spans ≡ 0 = ap (λ es. len (settings_after first_settings es).column_spans) (no_settings_of_style style) ∙ len-empty _ _ in
    let others : len (settings_set (styled style)).row_spans ≡ 0 = ap (λ es. len (settings_after first_settings es).row_spans) (no_settings_of_style style) ∙ len-empty _ _ in
    let unpadded : keeps_first_padding (settings_set (styled style)).cells.padding ≡ true = ap (λ es. keeps_first_padding (settings_after first_settings es).cells.padding) (no_settings_of_style style) in
    λ i. ((none i == 0) && (others i == 0)) && unpadded i
