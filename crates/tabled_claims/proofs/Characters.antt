-- What is made of characters that pass a test writes such characters alone.
use Rattle.std.proofs.Common.{◌≡◌, ◌==◌, ◌||◌, ◌<◌, ℕ, zero, suc, Bool, true, false, cond, if◌then◌else◌, length, get_or, arith, Option, Some, None, List, [], ◌∷◌, ◌++◌, map, take, drop, refl, ap, ◌∙◌}
use Rattle.std.specs.Option.{option_or}
use Rattle.std.specs.Prelude.{IfSome, option_map}
use Rattle.std.specs.List.{list_all, zip, filter, filter_map, cons_option, flat_map}
use Rattle.std.proofs.lemmas.List.Elements.{filter_map-append}
use Rattle.std.proofs.lemmas.Bool.{and_parts, and_from}
use Rattle.tabled_border.specs.declared.border.Border.{Border}
use Rattle.tabled_border.specs.Border.{no_border}
use Rattle.tabled_border.specs.Texts.{Texts}
use Rattle.tabled_object.specs.declared.entity.Entity.{Entity}
use Rattle.tabled_object.specs.Entities.{cells_of, is_inside}
use Rattle.tabled_object.specs.Listing.{listed}
use Rattle.tabled_places.specs.declared.borders.Borders.{Borders}
use Rattle.tabled_places.specs.declared.event.Event.{Event}
use Rattle.tabled_places.specs.declared.event.Event.TheVariants.{Write as write, Erase as erase}
use Rattle.tabled_places.specs.declared.event.Written.TheVariants.{Sign as sign}
use Rattle.tabled_places.specs.declared.event.Region.TheVariants.{All as every_site, One as one_site}
use Rattle.tabled_places.specs.declared.lines.HorizontalLine.{HorizontalLine}
use Rattle.tabled_places.specs.declared.lines.VerticalLine.{VerticalLine}
use Rattle.tabled_places.specs.declared.place.LineOf.{LineOf}
use Rattle.tabled_places.specs.declared.place.Place.{Place}
use Rattle.tabled_places.specs.declared.place.Rank.TheVariants.{First as at_first, Inner as inside, Last as at_last}
use Rattle.tabled_places.specs.declared.site.Class.{Class}
use Rattle.tabled_places.specs.declared.site.Class.TheVariants.{Edges as edges, Crossings as crossings}
use Rattle.tabled_places.specs.declared.site.Direction.TheVariants.{Horizontal, Vertical}
use Rattle.tabled_places.specs.declared.site.Part.{Part}
use Rattle.tabled_places.specs.declared.site.Site.{Site}
use Rattle.tabled_places.specs.declared.site.Site.TheVariants.{Class as of_class, Cell as at_spot}
use Rattle.tabled_places.specs.declared.site.Spot.{Spot}
use Rattle.tabled_places.specs.declared.site.Spot.TheVariants.{Edge, Crossing}
use Rattle.tabled_places.specs.Borders.{has_horizontal, has_vertical}
use Rattle.tabled_places.specs.Calls.{given_write, places_set, places_erased, spots_erased, spot_of, frame_erased, border_set, border_erased, borders_of, borders_erased, entity_border_set, entity_border_erased}
use Rattle.tabled_places.specs.CellBorder.{border_fields, border_places}
use Rattle.tabled_places.specs.Lines.{part_write, horizontal_line_set, vertical_line_set}
use Rattle.tabled_places.specs.Site.{class_value}
use Rattle.tabled_places.specs.State.{class_record_set, class_writes, classes}
use Rattle.tabled_configuration.specs.Configuration.{ConfigEvent, characters_of, settings_of, by_characters, by_colors, borders_replaced, borders_set, horizontal_lines_put, vertical_lines_put}
use Rattle.tabled_configuration.specs.Options.{entity_bordered, entity_unbordered, framed, inner_of, table_bordered, table_unbordered}
use Rattle.tabled_printing.specs.Picture.{Look}
use Rattle.tabled_color.specs.Shade.{Shade}
use Rattle.tabled_highlight.specs.Highlighting.{drawn_with, outline_if, highlight_events}
use Rattle.tabled_highlight.specs.Outline.{CellSet, Outlining, across_value, down_value, crossing_value, outline_value, every_spot, outline, upper_left, upper_right, lower_left, lower_right}
use Rattle.tabled_options.specs.LineChar.{EdgeChar, direction_of, has_edge, mark_written, line_char_events}
use Rattle.tabled_options.specs.LineText.{Lettering, character_written, characters_written, laid, places_along, places_taken, takes_character, text_events}
use Rattle.tabled_options.specs.TextStart.{limited, text_start}
use Rattle.tabled_style.specs.Shown.{StyleShown}
use Rattle.tabled_theme.specs.Events.{as_style, color_texts, style_applied, theme_applied}
use Rattle.tabled_theme.specs.Shown.{ThemeShown}
use Rattle.tabled_claims.specs.Characters.{is_passing_write, passes_if_given, passes_border, passes_record, passes_horizontal, passes_vertical, WritesOnly}

-- ---- lists

pub all_both : {A : Type 0} (p : A → Bool) (xs ys : List A) → list_all p xs ≡ true → list_all p ys ≡ true → list_all p (xs ++ ys) ≡ true
all_both p [] ys first second = second
all_both p (x ∷ xs) ys first second =
    let parts = and_parts (p x) (list_all p xs) first in
    and_from (p x) (list_all p (xs ++ ys)) parts.0 (all_both p xs ys parts.1 second)

all_one : {A : Type 0} (p : A → Bool) (x : A) → p x ≡ true → list_all p (x ∷ []) ≡ true
all_one p x h = and_from (p x) true h refl

all_flat : {A B : Type 0} (p : B → Bool) (f : A → List B) (xs : List A) → ((x : A) → list_all p (f x) ≡ true) → list_all p (flat_map f xs) ≡ true
all_flat p f [] each = refl
all_flat p f (x ∷ xs) each = all_both p (f x) (flat_map f xs) (each x) (all_flat p f xs each)

all_mapped : {A B : Type 0} (p : B → Bool) (f : A → B) (xs : List A) → ((x : A) → p (f x) ≡ true) → list_all p (map f xs) ≡ true
all_mapped p f [] each = refl
all_mapped p f (x ∷ xs) each = and_from (p (f x)) (list_all p (map f xs)) (each x) (all_mapped p f xs each)

all_chosen : {A : Type 0} (p : A → Bool) (x : A) (chosen : List A) (t : Bool) → p x ≡ true → list_all p chosen ≡ true → list_all p (cond t (x ∷ chosen) chosen) ≡ true
all_chosen p x chosen true here rest = and_from (p x) (list_all p chosen) here rest
all_chosen p x chosen false here rest = rest

all_filtered : {A : Type 0} (p q : A → Bool) (xs : List A) → list_all p xs ≡ true → list_all p (filter q xs) ≡ true
all_filtered p q [] all = refl
all_filtered p q (x ∷ xs) all = let parts = and_parts (p x) (list_all p xs) all in all_chosen p x (filter q xs) (q x) parts.0 (all_filtered p q xs parts.1)

all_taken : {A : Type 0} (p : A → Bool) (n : ℕ) (xs : List A) → list_all p xs ≡ true → list_all p (take n xs) ≡ true
all_taken p zero xs all = refl
all_taken p (suc n) [] all = refl
all_taken p (suc n) (x ∷ xs) all = let parts = and_parts (p x) (list_all p xs) all in and_from (p x) (list_all p (take n xs)) parts.0 (all_taken p n xs parts.1)

-- ---- events of one kind

no_characters : (colors : List (Event Texts)) → characters_of (by_colors colors) ≡ []
no_characters [] = refl
no_characters (event ∷ colors) = no_characters colors

both_kinds : (characters : List (Event ℕ)) (colors : List (Event Texts)) → characters_of (by_characters characters ++ by_colors colors) ≡ characters
both_kinds [] colors = no_characters colors
both_kinds (event ∷ characters) colors = ap (λ l. event ∷ l) (both_kinds characters colors)

one_kind : (characters : List (Event ℕ)) → characters_of (by_characters characters) ≡ characters
one_kind [] = refl
one_kind (event ∷ characters) = ap (λ l. event ∷ l) (one_kind characters)

no_settings : (characters : List (Event ℕ)) → settings_of (by_characters characters) ≡ []
no_settings [] = refl
no_settings (event ∷ characters) = no_settings characters

no_color_settings : (colors : List (Event Texts)) → settings_of (by_colors colors) ≡ []
no_color_settings [] = refl
no_color_settings (event ∷ colors) = no_color_settings colors

characters_both : (xs ys : List ConfigEvent) → characters_of (xs ++ ys) ≡ characters_of xs ++ characters_of ys
characters_both xs ys = filter_map-append _ xs ys

pub settings_both : (xs ys : List ConfigEvent) → settings_of (xs ++ ys) ≡ settings_of xs ++ settings_of ys
settings_both xs ys = filter_map-append _ xs ys

-- ---- what passes a test

module _ (test : ℕ → Bool) where
  abbrev good_write : Event ℕ → Bool
  good_write = is_passing_write test

  abbrev good_if_given : Option ℕ → Bool
  good_if_given = passes_if_given test

  abbrev good_border : Border ℕ → Bool
  good_border = passes_border test

  abbrev good_record : Borders ℕ → Bool
  good_record = passes_record test

  abbrev good_horizontal : HorizontalLine ℕ → Bool
  good_horizontal = passes_horizontal test

  abbrev good_vertical : VerticalLine ℕ → Bool
  good_vertical = passes_vertical test

  pub only_both : (characters : List (Event ℕ)) (colors : List (Event Texts)) → list_all good_write characters ≡ true → WritesOnly test (by_characters characters ++ by_colors colors)
  only_both characters colors all = record {
    borders = ap (list_all good_write) (both_kinds characters colors) ∙ all;
    settings = settings_both (by_characters characters) (by_colors colors) ∙ (λ i. no_settings characters i ++ no_color_settings colors i);
  }

  pub only_characters : (characters : List (Event ℕ)) → list_all good_write characters ≡ true → WritesOnly test (by_characters characters)
  only_characters characters all = record { borders = ap (list_all good_write) (one_kind characters) ∙ all; settings = no_settings characters }

  only_colors : (colors : List (Event Texts)) → WritesOnly test (by_colors colors)
  only_colors colors = record { borders = ap (list_all good_write) (no_characters colors); settings = no_color_settings colors }

  -- the writes of both lists
  pub drawn_both : (xs ys : List ConfigEvent) → list_all good_write (characters_of xs) ≡ true → list_all good_write (characters_of ys) ≡ true → list_all good_write (characters_of (xs ++ ys)) ≡ true
  drawn_both xs ys first second = ap (list_all good_write) (characters_both xs ys) ∙ all_both good_write (characters_of xs) (characters_of ys) first second

  only_append : (xs ys : List ConfigEvent) → WritesOnly test xs → WritesOnly test ys → WritesOnly test (xs ++ ys)
  only_append xs ys first second = record {
    borders = drawn_both xs ys first.borders second.borders;
    settings = settings_both xs ys ∙ (λ i. first.settings i ++ second.settings i);
  }

  -- ---- styles and themes

  part_good : (line : LineOf) (part : Part) (field : Option ℕ) → good_if_given field ≡ true → list_all good_write (part_write line part field) ≡ true
  part_good line part None h = refl
  part_good line part (Some character) h = and_from (test character) true h refl

  four : (a b c d : Option ℕ) → list_all good_if_given (a ∷ b ∷ c ∷ d ∷ []) ≡ true
      → (good_if_given a ≡ true) × (good_if_given b ≡ true) × (good_if_given c ≡ true) × (good_if_given d ≡ true)
  four a b c d h =
      let first = and_parts (good_if_given a) _ h in
      let second = and_parts (good_if_given b) _ first.1 in
      let third = and_parts (good_if_given c) _ second.1 in
      let fourth = and_parts (good_if_given d) _ third.1 in
      (first.0, second.0, third.0, fourth.0)

  parts_good : (line : LineOf) (p q r s : Part) (a b c d : Option ℕ) → list_all good_if_given (a ∷ b ∷ c ∷ d ∷ []) ≡ true
      → list_all good_write (part_write line p a ++ part_write line q b ++ part_write line r c ++ part_write line s d) ≡ true
  parts_good line p q r s a b c d h =
      let each = four a b c d h in
      all_both good_write (part_write line p a ++ part_write line q b ++ part_write line r c) (part_write line s d)
      (all_both good_write (part_write line p a ++ part_write line q b) (part_write line r c)
      (all_both good_write (part_write line p a) (part_write line q b) (part_good line p a each.0) (part_good line q b each.1)) (part_good line r c each.2))
      (part_good line s d each.3)

  horizontal_good : (n : ℕ) (line : HorizontalLine ℕ) → good_horizontal line ≡ true → list_all good_write (horizontal_line_set n line) ≡ true
  unfolding horizontal_line_set
  horizontal_good n line h = parts_good (LineOf.Horizontal n) _ _ _ _ line.main line.intersection line.left line.right h

  vertical_good : (n : ℕ) (line : VerticalLine ℕ) → good_vertical line ≡ true → list_all good_write (vertical_line_set n line) ≡ true
  unfolding vertical_line_set
  vertical_good n line h = parts_good (LineOf.Vertical n) _ _ _ _ line.main line.intersection line.top line.bottom h

  horizontals_good : (lines : List (ℕ × HorizontalLine ℕ)) → list_all (λ line. good_horizontal line.1) lines ≡ true → list_all good_write (horizontal_lines_put lines) ≡ true
  unfolding horizontal_lines_put
  horizontals_good [] all = refl
  horizontals_good (line ∷ lines) all =
      let parts = and_parts (good_horizontal line.1) (list_all (λ line. good_horizontal line.1) lines) all in
      all_both good_write (horizontal_line_set line.0 line.1) _ (horizontal_good line.0 line.1 parts.0) (horizontals_good lines parts.1)

  verticals_good : (lines : List (ℕ × VerticalLine ℕ)) → list_all (λ line. good_vertical line.1) lines ≡ true → list_all good_write (vertical_lines_put lines) ≡ true
  unfolding vertical_lines_put
  verticals_good [] all = refl
  verticals_good (line ∷ lines) all =
      let parts = and_parts (good_vertical line.1) (list_all (λ line. good_vertical line.1) lines) all in
      all_both good_write (vertical_line_set line.0 line.1) _ (vertical_good line.0 line.1 parts.0) (verticals_good lines parts.1)

  -- an event that may be there passes where it is
  passes : Option (Event ℕ) → Bool
  passes None = true
  passes (Some event) = good_write event

  cons_good : (event : Option (Event ℕ)) (events : List (Event ℕ)) → passes event ≡ true → list_all good_write events ≡ true → list_all good_write (cons_option event events) ≡ true
  unfolding passes
  cons_good None events h all = all
  cons_good (Some event) events h all = and_from (good_write event) (list_all good_write events) h all

  all_maybe : {A : Type 0} (f : A → Option (Event ℕ)) (xs : List A) → ((x : A) → passes (f x) ≡ true) → list_all good_write (filter_map f xs) ≡ true
  all_maybe f [] each = refl
  all_maybe f (x ∷ xs) each = cons_good (f x) (filter_map f xs) (each x) (all_maybe f xs each)

  written_good : (site : Site) (value : Option ℕ) → good_if_given value ≡ true → passes (option_map (λ x. write site (sign x)) value) ≡ true
  unfolding passes
  written_good site None h = refl
  written_good site (Some character) h = h

  class_writes_good : (borders : Borders ℕ) (some : List Class) → list_all (λ class. good_if_given (class_value class borders)) some ≡ true → list_all good_write (class_writes borders some) ≡ true
  unfolding class_writes
  class_writes_good borders [] all = refl
  class_writes_good borders (class ∷ some) all =
      let parts = and_parts (good_if_given (class_value class borders)) (list_all (λ class. good_if_given (class_value class borders)) some) all in
      cons_good (option_map (λ x. write (of_class class) (sign x)) (class_value class borders)) (class_writes borders some)
      (written_good (of_class class) (class_value class borders) parts.0) (class_writes_good borders some parts.1)

  pub style_writes : (style : StyleShown) → good_record style.borders ≡ true → list_all (λ line. good_horizontal line.1) style.horizontals ≡ true
      → list_all (λ line. good_vertical line.1) style.verticals ≡ true → WritesOnly test (style_applied style)
  unfolding borders_replaced class_record_set
  style_writes style borders horizontals verticals =
      only_both (erase every_site ∷ horizontal_lines_put style.horizontals ++ vertical_lines_put style.verticals ++ class_record_set style.borders) (erase every_site ∷ [])
      (all_both good_write (horizontal_lines_put style.horizontals ++ vertical_lines_put style.verticals) (class_record_set style.borders)
      (all_both good_write (horizontal_lines_put style.horizontals) (vertical_lines_put style.verticals) (horizontals_good style.horizontals horizontals) (verticals_good style.verticals verticals))
      (class_writes_good style.borders classes borders))

  pub theme_writes : (theme : ThemeShown) → good_record theme.characters ≡ true → list_all (λ line. good_horizontal line.1) (as_style theme).horizontals ≡ true
      → list_all (λ line. good_vertical line.1) (as_style theme).verticals ≡ true → WritesOnly test (theme_applied theme)
  unfolding theme_applied
  theme_writes theme borders horizontals verticals =
      only_append (style_applied (as_style theme)) (by_colors (class_record_set (color_texts theme))) (style_writes (as_style theme) borders horizontals verticals)
      (only_colors (class_record_set (color_texts theme)))

  -- ---- borders of cells

  given_good : (place : Option Place) (value : Option ℕ) → good_if_given value ≡ true → passes (given_write (place, value)) ≡ true
  unfolding passes
  given_good None None h = refl
  given_good None (Some character) h = refl
  given_good (Some place) None h = refl
  given_good (Some place) (Some character) h = h

  zipped_good : (places : List (Option Place)) (values : List (Option ℕ)) → list_all good_if_given values ≡ true → list_all good_write (filter_map given_write (zip places values)) ≡ true
  zipped_good [] values all = refl
  zipped_good (place ∷ places) [] all = refl
  zipped_good (place ∷ places) (value ∷ values) all =
      let parts = and_parts (good_if_given value) (list_all good_if_given values) all in
      cons_good (given_write (place, value)) (filter_map given_write (zip places values)) (given_good place value parts.0) (zipped_good places values parts.1)

  pub border_writes : (border : Border ℕ) (shape : ℕ × ℕ) (entity : Entity) → good_border border ≡ true → WritesOnly test (entity_bordered border shape entity)
  unfolding entity_bordered borders_of places_set
  border_writes border shape entity h =
      only_characters (entity_border_set entity shape border)
      (all_flat good_write (λ pos. border_set pos border) (filter (is_inside shape.0 shape.1) (cells_of entity shape.0 shape.1)) (λ pos. zipped_good (border_fields (border_places pos)) (border_fields border) h))

  -- ---- characters and texts on lines

  pub line_char_writes : (mark : EdgeChar) (shape : ℕ × ℕ) (entity : Entity) → test mark.character ≡ true → WritesOnly test (line_char_events mark shape entity)
  unfolding line_char_events
  line_char_writes mark shape entity h =
      only_characters (map (mark_written mark) (filter (has_edge (direction_of mark) shape) (cells_of entity shape.0 shape.1)))
      (all_mapped good_write (mark_written mark) (filter (has_edge (direction_of mark) shape) (cells_of entity shape.0 shape.1)) (λ pos. h))

  abbrev letter_good : Place × ℕ → Bool
  letter_good at = test at.1

  letters_zipped : (places : List Place) (letters : List ℕ) → list_all test letters ≡ true → list_all letter_good (zip places letters) ≡ true
  letters_zipped [] letters all = refl
  letters_zipped (place ∷ places) [] all = refl
  letters_zipped (place ∷ places) (letter ∷ letters) all =
      let parts = and_parts (test letter) (list_all test letters) all in
      and_from (test letter) (list_all letter_good (zip places letters)) parts.0 (letters_zipped places letters parts.1)

  laid_good : (start : Option ℕ) (letters : List ℕ) (places : List Place) → list_all test letters ≡ true → list_all letter_good (laid start letters places) ≡ true
  laid_good None letters places all = refl
  laid_good (Some start) letters places all = letters_zipped (drop start places) letters all

  limited_good : (limit : Option ℕ) (letters : List ℕ) → list_all test letters ≡ true → list_all test (limited limit letters) ≡ true
  limited_good None letters all = all
  limited_good (Some n) letters all = all_taken test n letters all

  taken_good : {L : Type 0} (text : Lettering L) (view : Look) (line : Option LineOf) → list_all test text.text ≡ true → list_all letter_good (places_taken text view line) ≡ true
  unfolding places_taken
  taken_good text view None all = refl
  taken_good text view (Some line) all =
      laid_good (text_start line (length (places_along view line)) (limited text.limit text.text) text.alignment text.offset) (limited text.limit text.text) (places_along view line)
      (limited_good text.limit text.text all)

  letters_written : (taken : List (Place × ℕ)) → list_all letter_good taken ≡ true → list_all good_write (map character_written taken) ≡ true
  letters_written [] all = refl
  letters_written (at ∷ taken) all =
      let parts = and_parts (letter_good at) (list_all letter_good taken) all in
      and_from (good_write (character_written at)) (list_all good_write (map character_written taken)) parts.0 (letters_written taken parts.1)

  pub text_writes : {L : Type 0} (text : Lettering L) (view : Look) (line : Option LineOf) → list_all test text.text ≡ true → WritesOnly test (text_events text view line)
  unfolding text_events characters_written
  text_writes text view line all =
      only_both (characters_written view.shown (places_taken text view line)) _
      (letters_written (filter (λ at. takes_character view.shown at.0) (places_taken text view line))
      (all_filtered letter_good (λ at. takes_character view.shown at.0) (places_taken text view line) (taken_good text view line all)))

  -- ---- outlines

  -- each side and corner
  record EachGood (border : Border ℕ) : Type 0 where
    top : good_if_given border.top ≡ true
    bottom : good_if_given border.bottom ≡ true
    left : good_if_given border.left ≡ true
    right : good_if_given border.right ≡ true
    left_top_corner : good_if_given border.left_top_corner ≡ true
    left_bottom_corner : good_if_given border.left_bottom_corner ≡ true
    right_top_corner : good_if_given border.right_top_corner ≡ true
    right_bottom_corner : good_if_given border.right_bottom_corner ≡ true

  each_good : (border : Border ℕ) → good_border border ≡ true → EachGood border
  each_good border h =
      let a = and_parts (good_if_given border.top) _ h in
      let b = and_parts (good_if_given border.bottom) _ a.1 in
      let c = and_parts (good_if_given border.left) _ b.1 in
      let d = and_parts (good_if_given border.right) _ c.1 in
      let e = and_parts (good_if_given border.left_top_corner) _ d.1 in
      let f = and_parts (good_if_given border.left_bottom_corner) _ e.1 in
      let g = and_parts (good_if_given border.right_top_corner) _ f.1 in
      let i = and_parts (good_if_given border.right_bottom_corner) _ g.1 in
      record { top = a.0; bottom = b.0; left = c.0; right = d.0; left_top_corner = e.0; left_bottom_corner = f.0; right_top_corner = g.0; right_bottom_corner = i.0 }

  or_good : (first second : Option ℕ) → good_if_given first ≡ true → good_if_given second ≡ true → good_if_given (option_or first second) ≡ true
  or_good None second a b = b
  or_good (Some character) second a b = a

  module _ (cells : CellSet) (given : Outlining ℕ) (each : EachGood given.border) (diagonal : good_if_given given.diagonal ≡ true) where
    across_good : (above under : Bool) → good_if_given (across_value given.border above under) ≡ true
    across_good false true = each.top
    across_good true false = each.bottom
    across_good false false = refl
    across_good true true = refl

    down_good : (before after : Bool) → good_if_given (down_value given.border before after) ≡ true
    down_good false true = each.left
    down_good true false = each.right
    down_good false false = refl
    down_good true true = refl

    crossing_good : (a b c d : Bool) → good_if_given (crossing_value given (a, b) (c, d)) ≡ true
    crossing_good false false false true = each.left_top_corner
    crossing_good false false true false = each.right_top_corner
    crossing_good false true false false = each.left_bottom_corner
    crossing_good true false false false = each.right_bottom_corner
    crossing_good false false true true = each.top
    crossing_good true true false false = each.bottom
    crossing_good false true false true = each.left
    crossing_good true false true false = each.right
    crossing_good true false false true =
        or_good given.diagonal (option_or given.border.left_top_corner given.border.right_bottom_corner) diagonal
        (or_good given.border.left_top_corner given.border.right_bottom_corner each.left_top_corner each.right_bottom_corner)
    crossing_good false true true false =
        or_good given.diagonal (option_or given.border.right_top_corner given.border.left_bottom_corner) diagonal
        (or_good given.border.right_top_corner given.border.left_bottom_corner each.right_top_corner each.left_bottom_corner)
    crossing_good false true true true = each.right_bottom_corner
    crossing_good true false true true = each.left_bottom_corner
    crossing_good true true false true = each.right_top_corner
    crossing_good true true true false = each.left_top_corner
    crossing_good false false false false = refl
    crossing_good true true true true = refl

    value_good : (spot : Spot) → good_if_given (outline_value cells given spot) ≡ true
    value_good (Edge Horizontal r c) = across_good (upper_right cells r c) (lower_right cells r c)
    value_good (Edge Vertical r c) = down_good (lower_left cells r c) (lower_right cells r c)
    value_good (Crossing r c) = crossing_good (upper_left cells r c) (upper_right cells r c) (lower_left cells r c) (lower_right cells r c)

    outline_good : (shape : ℕ × ℕ) → list_all good_write (outline shape cells given) ≡ true
    unfolding outline
    outline_good shape =
        all_maybe (λ spot. option_map (λ value. write (at_spot spot) (sign value)) (outline_value cells given spot)) (every_spot shape)
        (λ spot. written_good (at_spot spot) (outline_value cells given spot) (value_good spot))

  drawn_good : (shape : ℕ × ℕ) (cells : CellSet) (border : Option (Border ℕ)) (diagonal : Option ℕ) → IfSome border (λ given. good_border given ≡ true) → good_if_given diagonal ≡ true
      → list_all good_write (outline_if shape cells (drawn_with border diagonal)) ≡ true
  drawn_good shape cells None None first second = refl
  drawn_good shape cells None (Some character) first second =
      outline_good cells (record { border = no_border; diagonal = Some character }) (each_good no_border refl) second shape
  drawn_good shape cells (Some border) diagonal first second = outline_good cells (record { border = border; diagonal = diagonal }) (each_good border first) second shape

  pub outline_writes : (shape : ℕ × ℕ) (entities : List Entity) (border : Option (Border ℕ)) (diagonal : Option ℕ) (color : Option (Border Shade))
      → IfSome border (λ given. good_border given ≡ true) → good_if_given diagonal ≡ true → WritesOnly test (highlight_events shape entities border diagonal color)
  unfolding highlight_events
  outline_writes shape entities border diagonal color first second =
      only_both (outline_if shape (listed entities shape.0 shape.1) (drawn_with border diagonal)) _ (drawn_good shape (listed entities shape.0 shape.1) border diagonal first second)

  -- ---- the frame of a table

  all_at : {A : Type 0} (p : A → Bool) (xs : List A) → list_all p xs ≡ true → (k : ℕ) (d : A) → k < length xs → p (get_or xs k d) ≡ true
  all_at p [] all k d within = absurd (omega arith)
  all_at p (x ∷ xs) all zero d within = (and_parts (p x) (list_all p xs) all).0
  all_at p (x ∷ xs) all (suc k) d within = all_at p xs (and_parts (p x) (list_all p xs) all).1 k d (omega arith)

  all_each : {A : Type 0} (p : A → Bool) (xs : List A) → ((x : A) → p x ≡ true) → list_all p xs ≡ true
  all_each p [] each = refl
  all_each p (x ∷ xs) each = and_from (p x) (list_all p xs) (each x) (all_each p xs each)

  either_good : (b : Bool) (first second : Option ℕ) → good_if_given first ≡ true → good_if_given second ≡ true → good_if_given (if b then first else second) ≡ true
  either_good true first second a b = a
  either_good false first second a b = b

  -- what a class record has, by the number of the class
  class_field : (class : Borders ℕ) → good_record class ≡ true → (k : ℕ) → k < length classes → good_if_given (class_value (get_or classes k (edges Horizontal at_first)) class) ≡ true
  class_field class h k within = all_at (λ of. good_if_given (class_value of class)) classes h k (edges Horizontal at_first) within

  module _ (border : Border ℕ) (class : Borders ℕ) (each : EachGood border) (h : good_record class ≡ true) where
    framed_field : (of : Class) → good_if_given (class_value of (framed border class)) ≡ true
    unfolding classes
    framed_field (edges Horizontal at_first) = each.top
    framed_field (edges Horizontal inside) = class_field class h 1 (omega arith)
    framed_field (edges Horizontal at_last) = each.bottom
    framed_field (edges Vertical at_first) = each.left
    framed_field (edges Vertical inside) = class_field class h 4 (omega arith)
    framed_field (edges Vertical at_last) = each.right
    framed_field (crossings at_first at_first) = each.left_top_corner
    framed_field (crossings at_first inside) = either_good (has_vertical inside class) border.top class.top_intersection each.top (class_field class h 7 (omega arith))
    framed_field (crossings at_first at_last) = each.right_top_corner
    framed_field (crossings inside at_first) = either_good (has_horizontal inside class) border.left class.left_intersection each.left (class_field class h 9 (omega arith))
    framed_field (crossings inside inside) = class_field class h 10 (omega arith)
    framed_field (crossings inside at_last) = either_good (has_horizontal inside class) border.right class.right_intersection each.right (class_field class h 11 (omega arith))
    framed_field (crossings at_last at_first) = each.left_bottom_corner
    framed_field (crossings at_last inside) = either_good (has_vertical inside class) border.bottom class.bottom_intersection each.bottom (class_field class h 13 (omega arith))
    framed_field (crossings at_last at_last) = each.right_bottom_corner

  pub frame_writes : (border : Border ℕ) (class : Borders ℕ) → good_border border ≡ true → good_record class ≡ true → WritesOnly test (table_bordered border class)
  unfolding table_bordered borders_set class_record_set
  frame_writes border class first second =
      only_characters (class_record_set (framed border class))
      (class_writes_good (framed border class) classes
      (all_each (λ of. good_if_given (class_value of (framed border class))) classes (framed_field border class (each_good border first) second)))

  -- ---- borders taken away

  spots_good : (spots : List Spot) → list_all good_write (spots_erased spots) ≡ true
  unfolding spots_erased
  spots_good spots = all_mapped good_write (λ spot. erase (one_site (at_spot spot))) spots (λ spot. refl)

  erasure_good : (place : Option Place) → passes (option_map (λ at. erase (one_site (at_spot (spot_of at)))) place) ≡ true
  unfolding passes
  erasure_good None = refl
  erasure_good (Some place) = refl

  erasures_good : (places : List (Option Place)) → list_all good_write (places_erased places) ≡ true
  unfolding places_erased
  erasures_good places = all_maybe (option_map (λ place. erase (one_site (at_spot (spot_of place))))) places erasure_good

  pub unbordered_writes : (shape : ℕ × ℕ) (entity : Entity) → WritesOnly test (entity_unbordered shape entity)
  unfolding entity_unbordered borders_erased
  unbordered_writes shape entity =
      only_characters (entity_border_erased entity shape)
      (all_flat good_write border_erased (filter (is_inside shape.0 shape.1) (cells_of entity shape.0 shape.1)) (λ pos. erasures_good (border_fields (border_places pos))))

  inner_field : (class : Borders ℕ) → good_record class ≡ true → (of : Class) → good_if_given (class_value of (inner_of class)) ≡ true
  unfolding classes
  inner_field class h (edges Horizontal inside) = class_field class h 1 (omega arith)
  inner_field class h (edges Vertical inside) = class_field class h 4 (omega arith)
  inner_field class h (crossings inside inside) = class_field class h 10 (omega arith)
  inner_field class h (edges Horizontal at_first) = refl
  inner_field class h (edges Horizontal at_last) = refl
  inner_field class h (edges Vertical at_first) = refl
  inner_field class h (edges Vertical at_last) = refl
  inner_field class h (crossings at_first at_first) = refl
  inner_field class h (crossings at_first inside) = refl
  inner_field class h (crossings at_first at_last) = refl
  inner_field class h (crossings inside at_first) = refl
  inner_field class h (crossings inside at_last) = refl
  inner_field class h (crossings at_last at_first) = refl
  inner_field class h (crossings at_last inside) = refl
  inner_field class h (crossings at_last at_last) = refl

  none_or_spots : (none : Bool) (spots : List Spot) → list_all good_write (if none then [] else spots_erased spots) ≡ true
  none_or_spots true spots = refl
  none_or_spots false spots = spots_good spots

  none_or_good : (none : Bool) (characters : List (Event ℕ)) → list_all good_write characters ≡ true → WritesOnly test (if none then [] else by_characters characters)
  none_or_good true characters all = record { borders = refl; settings = refl }
  none_or_good false characters all = only_characters characters all

  pub unframed_writes : (shape : ℕ × ℕ) (class : Borders ℕ) → good_record class ≡ true → WritesOnly test (table_unbordered shape class)
  unfolding table_unbordered class_record_set
  unframed_writes shape class h =
      none_or_good ((shape.0 == 0) || (shape.1 == 0)) (class_record_set (inner_of class) ++ frame_erased shape)
      (all_both good_write (class_record_set (inner_of class)) (frame_erased shape)
      (class_writes_good (inner_of class) classes (all_each (λ of. good_if_given (class_value of (inner_of class))) classes (inner_field class h)))
      (none_or_spots ((shape.0 == 0) || (shape.1 == 0)) _))
