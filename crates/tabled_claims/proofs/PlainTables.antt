-- A table that shows narrow writes alone, of which none steers, still does after an option that makes no others.
use Rattle.std.proofs.Common.{◌≡◌, ◌==◌, ◌&&◌, Bool, ℕ, true, List, [], ◌∷◌, ◌++◌, refl, ap, ◌∙◌, append-nil}
use Rattle.std.specs.FinMap.{len, len-empty}
use Rattle.std.proofs.lemmas.List.Elements.{filter_map-append}
use Rattle.std.specs.List.{list_all}
use Rattle.std.specs.Str.{chars}
use Rattle.tabled_clean.specs.Steering.{steers}
use Rattle.tabled_configuration.specs.Colored.{Colored, Changes}
use Rattle.tabled_configuration.specs.Configuration.{ConfigEvent, settings_of, setting_event, borders_replaced, horizontal_lines_put, vertical_lines_put}
use Rattle.tabled_places.specs.declared.event.Event.TheVariants.{Erase as erase}
use Rattle.tabled_places.specs.declared.event.Region.TheVariants.{All as every_site}
use Rattle.tabled_places.specs.State.{class_record_set}
use Rattle.tabled_object.specs.declared.position.Position.{Position}
use Rattle.tabled_settings.specs.Padding.{keeps_first_padding}
use Rattle.tabled_layout.specs.Spans.{position_cmp}
use Rattle.tabled_layout.specs.TableSettings.{settings_after, first_settings}
use Rattle.tabled_style.specs.Shown.{StyleShown}
use Rattle.tabled_theme.specs.Events.{style_applied}
use Rattle.tabled_measure.specs.Cells.{leaves_sizes}
use Rattle.tabled_claims.proofs.NoSettings.{no_settings}
use Rattle.tabled_configuration.proofs.ConfigurationLemmas.{Shows_after_change}
use Rattle.tabled_width.specs.Narrow.{is_narrow}
use Rattle.tabled_printing.specs.Columns.{WritesNarrow}
use Rattle.tabled_claims.specs.Clean.{ShowsPlainly, WritesClean, is_quiet}
use Rattle.tabled_claims.proofs.Characters.{drawn_both}
use Rattle.tabled_claims.proofs.CleanWrites.{clean_append}

-- events that set nothing else leave the sizes as they are
none_after : (es made : List ConfigEvent) → settings_of made ≡ [] → leaves_sizes es ≡ true → leaves_sizes (es ++ made) ≡ true
none_after es made none before =
    let same : settings_of (es ++ made) ≡ settings_of es = filter_map-append setting_event es made ∙ ap (λ rest. settings_of es ++ rest) none ∙ append-nil (settings_of es) in
    ap (λ all. let settings = settings_after first_settings all in ((len settings.column_spans == 0) && (len settings.row_spans == 0)) && keeps_first_padding settings.cells.padding) same ∙ before

-- so does no event
pub nothing_spans : leaves_sizes [] ≡ true
nothing_spans = λ i. ((len-empty {K = Position} position_cmp ℕ i == 0) && (len-empty {K = Position} position_cmp ℕ i == 0)) && true

-- a style sets nothing beside borders
pub style_sets_nothing : (style : StyleShown) → settings_of (style_applied style) ≡ []
unfolding borders_replaced
style_sets_nothing style =
    no_settings (erase every_site ∷ horizontal_lines_put style.horizontals ++ vertical_lines_put style.verticals ++ class_record_set style.borders) (erase every_site ∷ [])

pub plainly_after : (made : List ConfigEvent) (old new : Colored) → Changes made old new → WritesNarrow made → WritesClean made → settings_of made ≡ [] → ShowsPlainly old.spanned → ShowsPlainly new.spanned
plainly_after made old new changes narrow clean none before = (
  before.0 ++ made,
  Shows_after_change before.0 made old.spanned new.spanned changes.spanned_changed before.1,
  drawn_both is_narrow before.0 made before.2 narrow,
  clean_append before.0 made before.3 clean,
  none_after before.0 made none before.4,
)

-- the characters of a title
pub title_narrow : list_all is_narrow (chars (80 ∷ 114 ∷ 105 ∷ 99 ∷ 101 ∷ 115 ∷ [])) ≡ true
unfolding chars
title_narrow = refl

pub title_quiet : list_all is_quiet (chars (80 ∷ 114 ∷ 105 ∷ 99 ∷ 101 ∷ 115 ∷ [])) ≡ true
unfolding chars steers
title_quiet = refl
