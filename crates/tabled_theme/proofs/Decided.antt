-- A configuration to which a theme was applied keeps what the theme writes, whatever it kept before.
use Rattle.std.proofs.Common.{◌≡◌, ◌↔◌, ℕ, Option, None, Some, List, [], ◌∷◌, ◌++◌, refl, sym, ap, subst, ◌∙◌, nat_cmp, append-nil}
use Rattle.std.specs.Option.{option_map, option_or}
use Rattle.std.specs.FinMap as map
use Rattle.std.proofs.lemmas.List.Elements.{filter_map-append}
use Rattle.tabled_border.specs.Texts.{Texts}
use Rattle.tabled_color.specs.Shade.{texts_of, owned_shade}
use Rattle.tabled_places.specs.declared.borders.Borders.{Borders}
use Rattle.tabled_places.specs.declared.place.LineOf.{LineOf}
use Rattle.tabled_places.specs.declared.place.Place.{Place}
use Rattle.tabled_places.specs.declared.event.Event.{Event}
use Rattle.tabled_places.specs.declared.event.Event.TheVariants.{Erase as erase}
use Rattle.tabled_places.specs.declared.event.Region.TheVariants.{All as every_site, Level as level_sites}
use Rattle.tabled_places.specs.declared.event.Written.TheVariants.{Sign as sign}
use Rattle.tabled_places.specs.Event as grid
use Rattle.tabled_places.specs.declared.site.Class.{Class}
use Rattle.tabled_places.specs.declared.site.Direction.TheVariants.{Horizontal, Vertical}
use Rattle.tabled_places.specs.declared.site.Site.{Site}
use Rattle.tabled_places.specs.declared.site.Site.TheVariants.{Class as of_class, Line as of_line}
use Rattle.tabled_places.specs.Site.{class_value}
use Rattle.tabled_places.specs.State.{state_at, class_record_set, class_writes, classes}
use Rattle.tabled_places.specs.Value.{value}
use Rattle.tabled_places.specs.Drawn.{Drawn}
use Rattle.tabled_places.proofs.DrawnLemmas.{Drawn-shown}
use Rattle.tabled_places.specs.CustomLines.{no_borders}
use Rattle.tabled_places.proofs.PuttingBack.{of_signs, same_classes, same_horizontal, same_vertical}
use Rattle.tabled_places.proofs.Replay.{replay_cleared}
use Rattle.tabled_configuration.specs.Configuration.{Configuration, Changes, character_event, color_event, characters_of, colors_of, by_colors, borders_replaced, horizontal_lines_put, vertical_lines_put}
use Rattle.tabled_configuration.proofs.ConfigurationLemmas.{characters_of-both, colors_of-both}
use Rattle.tabled_style.specs.Shown.{StyleShown}
use Rattle.tabled_style.specs.Deciding.{written_by}
use Rattle.tabled_theme.specs.Shown.{ThemeShown, of_style, of_configuration, owned_colors}
use Rattle.tabled_theme.specs.Lines.{last_under, shown_line}
use Rattle.tabled_theme.specs.Fields.{each_field}
use Rattle.tabled_theme.specs.Events.{as_style, color_texts, style_applied, theme_applied, DrawsLike}
use Rattle.tabled_theme.proofs.Left.{left, style_leaves, at_class}
use Rattle.tabled_theme.proofs.LineMaps.{last_put, last_beneath}

-- a theme's events of each kind
style_characters : (style : StyleShown) → characters_of (style_applied style) ≡ erase every_site ∷ written_by style
unfolding borders_replaced written_by
style_characters style =
    characters_of-both (erase every_site ∷ horizontal_lines_put style.horizontals ++ vertical_lines_put style.verticals ++ class_record_set style.borders) (erase every_site ∷ [])

style_colors : (style : StyleShown) → colors_of (style_applied style) ≡ erase every_site ∷ []
unfolding borders_replaced
style_colors style =
    colors_of-both (erase every_site ∷ horizontal_lines_put style.horizontals ++ vertical_lines_put style.verticals ++ class_record_set style.borders) (erase every_site ∷ [])

theme_characters : (theme : ThemeShown) → characters_of (theme_applied theme) ≡ erase every_site ∷ written_by (as_style theme)
unfolding theme_applied
theme_characters theme =
    let colored : List (Event Texts) = class_record_set (color_texts theme) in
    filter_map-append character_event (style_applied (as_style theme)) (by_colors colored)
    ∙ ap (λ rest. characters_of (style_applied (as_style theme)) ++ rest) (characters_of-both [] colored)
    ∙ append-nil (characters_of (style_applied (as_style theme))) ∙ style_characters (as_style theme)

theme_colors : (theme : ThemeShown) → colors_of (theme_applied theme) ≡ erase every_site ∷ class_record_set (color_texts theme)
unfolding theme_applied
theme_colors theme =
    let colored : List (Event Texts) = class_record_set (color_texts theme) in
    filter_map-append color_event (style_applied (as_style theme)) (by_colors colored)
    ∙ (λ i. style_colors (as_style theme) i ++ colors_of-both [] colored i)

pub characters_shown : (theme : ThemeShown) (old new : Configuration) → Changes (theme_applied theme) old new → grid.Shows (written_by (as_style theme)) (state_at new.characters)
unfolding grid.Shows grid.Changes
characters_shown theme old new changes q =
    let changed : grid.Changes (erase every_site ∷ written_by (as_style theme)) (state_at old.characters) (state_at new.characters) =
    subst (λ es. grid.Changes es (state_at old.characters) (state_at new.characters)) (theme_characters theme) changes.characters_changed in
    changed q ∙ replay_cleared every_site (written_by (as_style theme)) q

pub colors_shown : (theme : ThemeShown) (old new : Configuration) → Changes (theme_applied theme) old new → grid.Shows (class_record_set (color_texts theme)) (state_at new.colors)
unfolding grid.Shows grid.Changes
colors_shown theme old new changes q =
    let changed : grid.Changes (erase every_site ∷ class_record_set (color_texts theme)) (state_at old.colors) (state_at new.colors) =
    subst (λ es. grid.Changes es (state_at old.colors) (state_at new.colors)) (theme_colors theme) changes.colors_changed in
    changed q ∙ replay_cleared every_site (class_record_set (color_texts theme)) q

-- so it shows the theme's events by themselves
pub own_characters_shown : (theme : ThemeShown) (old new : Configuration) → Changes (theme_applied theme) old new → grid.Shows (characters_of (theme_applied theme)) (state_at new.characters)
unfolding grid.Shows
own_characters_shown theme old new changes q =
    characters_shown theme old new changes q ∙ sym (replay_cleared every_site (written_by (as_style theme)) q) ∙ sym (ap (λ es. grid.replay es q) (theme_characters theme))

pub own_colors_shown : (theme : ThemeShown) (old new : Configuration) → Changes (theme_applied theme) old new → grid.Shows (colors_of (theme_applied theme)) (state_at new.colors)
unfolding grid.Shows
own_colors_shown theme old new changes q =
    colors_shown theme old new changes q ∙ sym (replay_cleared every_site (class_record_set (color_texts theme)) q) ∙ sym (ap (λ es. grid.replay es q) (theme_colors theme))

-- of a theme that is made of a style
same_written : (style : StyleShown) (q : Site) → grid.replay (written_by (as_style (of_style style))) q ≡ grid.replay (written_by style) q
unfolding grid.Shows
same_written style q =
    sym (style_leaves (as_style (of_style style)) q)
    ∙ (λ i. state_at (left style.borders (last_beneath (last_under style.horizontals) i) (last_beneath (last_under style.verticals) i)) q)
    ∙ style_leaves style q

pub same_characters_left : (style : StyleShown) (q : Site) → grid.replay (characters_of (theme_applied (of_style style))) q ≡ grid.replay (characters_of (style_applied style)) q
same_characters_left style q =
    ap (λ es. grid.replay es q) (theme_characters (of_style style))
    ∙ replay_cleared every_site (written_by (as_style (of_style style))) q ∙ same_written style q
    ∙ sym (replay_cleared every_site (written_by style) q) ∙ ap (λ es. grid.replay es q) (sym (style_characters style))

pub same_places : (style : StyleShown) (shape : ℕ × ℕ) (size : ℕ) (place : Place) → value (grid.replay (characters_of (theme_applied (of_style style)))) shape size place ≡ value (grid.replay (characters_of (style_applied style))) shape size place
same_places style shape size place = λ i. value (λ q. same_characters_left style q i) shape size place

pub same_drawn : (style : StyleShown) (count : ℕ) (line : LineOf) → Drawn (grid.replay (characters_of (theme_applied (of_style style)))) count line ↔ Drawn (grid.replay (characters_of (style_applied style))) count line
unfolding grid.Shows
same_drawn style count line =
    Drawn-shown (characters_of (style_applied style)) (grid.replay (characters_of (theme_applied (of_style style)))) count line (same_characters_left style)

no_colors_left : (q : Site) → grid.replay {T = Texts} (class_record_set no_borders) q ≡ grid.replay [] q
unfolding class_record_set class_writes classes
no_colors_left q = replay_cleared (level_sites 1) [] q

pub same_colors_left : (style : StyleShown) (q : Site) → grid.replay (colors_of (theme_applied (of_style style))) q ≡ grid.replay (colors_of (style_applied style)) q
same_colors_left style q =
    ap (λ es. grid.replay es q) (theme_colors (of_style style))
    ∙ replay_cleared every_site (class_record_set no_borders) q ∙ no_colors_left q
    ∙ sym (replay_cleared every_site [] q) ∙ ap (λ es. grid.replay es q) (sym (style_colors style))

-- owned colors have the texts that they were made of
texts_again : (colors : Borders Texts) → each_field texts_of (owned_colors colors) ≡ colors
texts_again colors = λ i. record {
  top = again colors.top i;
  bottom = again colors.bottom i;
  left = again colors.left i;
  right = again colors.right i;
  top_left = again colors.top_left i;
  top_right = again colors.top_right i;
  bottom_left = again colors.bottom_left i;
  bottom_right = again colors.bottom_right i;
  top_intersection = again colors.top_intersection i;
  bottom_intersection = again colors.bottom_intersection i;
  left_intersection = again colors.left_intersection i;
  right_intersection = again colors.right_intersection i;
  horizontal = again colors.horizontal i;
  vertical = again colors.vertical i;
  intersection = again colors.intersection i;
}
  where
    again : (o : Option Texts) → option_map texts_of (option_map (λ texts. owned_shade texts.prefix texts.suffix) o) ≡ o
    again None = refl
    again (Some texts) = refl

-- where no line lies beneath those that were set show
alone : {L : Type 0} (set : map.FinMap nat_cmp L) (n : ℕ) → shown_line set map.empty n ≡ map.get set n
alone {L} set n = ap (λ (o : Option L). option_or (map.get set n) o) (map.get-empty nat_cmp n) ∙ itself (map.get set n)
  where
    itself : {L : Type 0} (o : Option L) → option_or o None ≡ o
    itself None = refl
    itself (Some x) = refl

-- what is kept after a theme
kept : (theme : ThemeShown) (old new : Configuration) → Changes (theme_applied theme) old new → (q : Site)
    → state_at new.characters q ≡ state_at (left theme.characters (last_under (as_style theme).horizontals) (last_under (as_style theme).verticals)) q
unfolding grid.Shows
kept theme old new changes q = characters_shown theme old new changes q ∙ sym (style_leaves (as_style theme) q)

kept_colors : (theme : ThemeShown) (old new : Configuration) → Changes (theme_applied theme) old new → (c : Class)
    → option_map sign (class_value c new.colors.class_record) ≡ option_map sign (class_value c (color_texts theme))
unfolding grid.Shows
kept_colors theme old new changes c = colors_shown theme old new changes (of_class c) ∙ at_class (color_texts theme) c

pub read_again : (theme : ThemeShown) (old new : Configuration) → Changes (theme_applied theme) old new → DrawsLike (of_configuration new) theme
read_again theme old new changes = record {
  same_characters = same_classes new.characters.class_record theme.characters (λ c. of_signs _ _ (kept theme old new changes (of_class c)));
  same_colors = texts_again new.colors.class_record ∙ same_classes new.colors.class_record (color_texts theme) (λ c. of_signs _ _ (kept_colors theme old new changes c));
  same_horizontals = λ n.
      alone new.characters.horizontal_lines n
      ∙ same_horizontal (map.get new.characters.horizontal_lines n) (map.get (last_under (as_style theme).horizontals) n) (λ p. kept theme old new changes (of_line (LineOf.Horizontal n) p))
      ∙ last_put theme.set.horizontals theme.beneath.horizontals n;
  same_verticals = λ n.
      alone new.characters.vertical_lines n
      ∙ same_vertical (map.get new.characters.vertical_lines n) (map.get (last_under (as_style theme).verticals) n) (λ p. kept theme old new changes (of_line (LineOf.Vertical n) p))
      ∙ last_put theme.set.verticals theme.beneath.verticals n;
}
