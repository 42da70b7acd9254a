-- Whether two configurations keep the same.
use Rattle.std.specs.Prelude.{Bool, ◌&&◌, ◌==◌, Option}
use Rattle.std.specs.Option.{option_eq}
use Rattle.std.specs.Cmp.{IsPartialEquivalence, IsEquivalence, on_equiv, and_equiv, partial_equiv_from_equiv}
use Rattle.std.specs.Cmp.Lexicographic.{pointwise, on_texts_equal, options_equiv}
use Rattle.std.proofs.lemmas.Cmp.{nat_eq_equiv}
use Rattle.tabled_border.specs.Texts.{Texts}
use Rattle.tabled_grid.specs.Same.{same_state}
use Rattle.tabled_grid.specs.SameLaws.{state_equiv}
use Rattle.tabled_settings.specs.Live.{Live}
use Rattle.tabled_settings.specs.Same.{same_live}
use Rattle.tabled_settings.specs.SameLaws.{live_equiv}
use Rattle.tabled_layout.specs.contracts.table_settings.TableSettingsPartialEq.TheImpl.{eq-value as same_settings}
use Rattle.tabled_layout.specs.contracts.table_settings.TableSettingsEq.TheImpl.Laws.{laws-law as settings_equiv}
use Rattle.tabled_configuration.specs.Configuration.{Configuration}
use Rattle.tabled_configuration.specs.Colored.{Colored}

-- two colors: the same text before, and the same text after
abbrev pub same_texts : Texts → Texts → Bool
same_texts a b = pointwise ◌==◌ a.prefix b.prefix && pointwise ◌==◌ a.suffix b.suffix

-- two configurations: the same characters and the same colors
unfoldable pub same_stores : Configuration → Configuration → Bool
same_stores a b = same_state ◌==◌ a.characters b.characters && same_state same_texts a.colors b.colors

-- and the same settings, map by map
unfoldable pub same_configuration : Configuration → Configuration → Bool
same_configuration a b = same_stores a b && same_settings.it a.settings b.settings

-- two maps of colors of cells, where there are some
abbrev pub same_colors : Option (Live Texts) → Option (Live Texts) → Bool
same_colors a b = option_eq (same_live same_texts) a b

-- the same with the colors of cells
abbrev pub same_colored : Colored → Colored → Bool
same_colored a b = same_configuration a.spanned b.spanned && same_colors a.cell_colors b.cell_colors

-- all of these are equivalences
pub texts_equiv : IsEquivalence same_texts
texts_equiv = and_equiv (on_texts_equal (λ texts. texts.prefix)) (on_texts_equal (λ texts. texts.suffix))

stores_equiv : IsEquivalence same_stores
unfolding same_stores
stores_equiv = and_equiv (on_equiv (λ cfg. cfg.characters) (state_equiv nat_eq_equiv)) (on_equiv (λ cfg. cfg.colors) (state_equiv texts_equiv))

pub configuration_equiv : IsEquivalence same_configuration
unfolding same_configuration
configuration_equiv = and_equiv stores_equiv (on_equiv (λ cfg. cfg.settings) settings_equiv)

pub configuration_per : IsPartialEquivalence same_configuration
configuration_per = partial_equiv_from_equiv configuration_equiv

pub colors_equiv : IsEquivalence same_colors
colors_equiv = options_equiv (live_equiv texts_equiv)

pub colors_per : IsPartialEquivalence same_colors
colors_per = partial_equiv_from_equiv colors_equiv

pub colored_equiv : IsEquivalence same_colored
colored_equiv = and_equiv (on_equiv (λ cfg. cfg.spanned) configuration_equiv) (on_equiv (λ cfg. cfg.cell_colors) colors_equiv)

pub colored_per : IsPartialEquivalence same_colored
colored_per = partial_equiv_from_equiv colored_equiv
