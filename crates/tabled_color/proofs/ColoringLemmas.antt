-- What colors do to cells and to tables, call by call.
use Rattle.std.proofs.Common.{◌≡◌, ◌==◌, ◌||◌, ℕ, ◌+◌, Bool, true, false, cond, if◌then◌else◌, Option, Some, None, is_some, List, [], ◌∷◌, ◌++◌, map, refl, sym, ap, subst, ◌∙◌, append_assoc, arith, flat_map}
use Rattle.std.proofs.lemmas.List.{append-nil, map-append}
use Rattle.std.proofs.lemmas.List.Elements.{filter_map-append}
use Rattle.std.proofs.lemmas.Grind.{flat_map-append}
use Rattle.std.proofs.lemmas.List.FromFn.{map-range_with_len_more}
use Rattle.tabled_border.specs.Texts.{Texts}
use Rattle.tabled_border.specs.declared.border.Border.{Border}
use Rattle.tabled_object.specs.declared.entity.Entity.{Entity}
use Rattle.tabled_object.specs.Entities.{below}
use Rattle.tabled_settings.specs.Setting.{is_global}
use Rattle.tabled_places.specs.declared.place.LineOf.{LineOf}
use Rattle.tabled_places.specs.declared.place.Place.{Place}
use Rattle.tabled_places.specs.declared.site.Spot.{Spot}
use Rattle.tabled_places.specs.declared.site.Spot.TheVariants.{Crossing}
use Rattle.tabled_places.specs.declared.event.Event.{Event}
use Rattle.tabled_places.specs.declared.writes.Target.{Target}
use Rattle.tabled_places.specs.declared.writes.Write.{Write}
use Rattle.tabled_places.specs.Calls.{spot_of, entity_border_set, edge_of, crossing_of}
use Rattle.tabled_places.specs.Writes.{given_event, writes_made}
use Rattle.tabled_configuration.specs.Configuration as borders
use Rattle.tabled_configuration.specs.Configuration.{Configuration, of_colors, by_characters, by_colors, cell_colors_of, writes_applied}
use Rattle.tabled_configuration.specs.ChangeLaws.{none_change_borders, both_change_borders}
use Rattle.tabled_changes.proofs.ColoredLemmas.{none_by_colors}
use Rattle.tabled_configuration.proofs.ConfigurationLemmas.{both_passed_over}
use Rattle.tabled_configuration.specs.Configuration.{cell_color_event}
use Rattle.tabled_color.specs.Coloring.{one_color, at_once_or_each, entity_colored, spot_colored, spot_cleared, line_colored, frame_colored, corners_cleared, table_colored}

-- ---- lists of writes

-- one more write, of a color or of none
pub one_more_write : (writes all : List (Write Texts)) (place : Place) (value color : Option Texts) → all ≡ writes ++ record { target = Some (Target.Cell place); value = value } ∷ [] → value ≡ color → writes_made all ≡ writes_made writes ++ spot_colored (spot_of place) color
unfolding writes_made
one_more_write writes all place value color pushed is =
    ap writes_made pushed
    ∙ filter_map-append (λ entry. given_event entry.target entry.value) writes (record { target = Some (Target.Cell place); value = value } ∷ [])
    ∙ ap (λ es. writes_made writes ++ es) (by_color value) ∙ ap (λ given. writes_made writes ++ spot_colored (spot_of place) given) is
  where
    by_color : (given : Option Texts) → writes_made (record { target = Some (Target.Cell place); value = given } ∷ []) ≡ spot_colored (spot_of place) given
    by_color None = refl
    by_color (Some texts) = refl

-- one more part of what is written
pub part_more : (old so_far new part : List (Event Texts)) → new ≡ old ++ part → old ≡ so_far → new ≡ so_far ++ part
part_more old so_far new part more is = more ∙ ap (λ es. es ++ part) is

pub nothing_yet : (writes : List (Write Texts)) → writes ≡ [] → writes_made writes ≡ []
unfolding writes_made
nothing_yet writes none = ap writes_made none

-- a line without a color
no_line : (line : LineOf) (length : ℕ) → line_colored line length None ≡ []
unfolding line_colored
no_line line length = nothing (below length)
  where
    nothing : (ns : List ℕ) → flat_map (λ n. spot_colored (edge_of line n) None ++ spot_colored (crossing_of line (n + 1)) None) ns ≡ []
    nothing [] = refl
    nothing (n ∷ ns) = nothing ns

pub nothing_added : (line : LineOf) (length : ℕ) (color : Option Texts) (es : List (Event Texts)) → is_some color ≡ false → es ≡ es ++ line_colored line length color
nothing_added line length None es none = sym (append-nil es) ∙ ap (λ more. es ++ more) (sym (no_line line length))
nothing_added line length (Some color) es none = absurd cc

-- one more edge and the crossing after it
pub line_more : (line : LineOf) (at : ℕ) (color : Option Texts) → line_colored line (at + 1) color ≡ line_colored line at color ++ (spot_colored (edge_of line at) color ++ spot_colored (crossing_of line (at + 1)) color)
unfolding line_colored
line_more line at color =
    let both : ℕ → List (Event Texts) = λ n. spot_colored (edge_of line n) color ++ spot_colored (crossing_of line (n + 1)) color in
    ap (flat_map both) (map-id (below (at + 1)) ∙ map-range_with_len_more (λ n. n) 0 at at (omega arith) ∙ ap (λ ns. ns ++ at ∷ []) (sym (map-id (below at))))
    ∙ flat_map-append both (below at) (at ∷ []) ∙ ap (λ es. flat_map both (below at) ++ es) (append-nil (both at))
  where
    map-id : (ns : List ℕ) → ns ≡ map (λ n. n) ns
    map-id [] = refl
    map-id (n ∷ ns) = ap (λ rest. n ∷ rest) (map-id ns)

pub both_written : (line : LineOf) (at : ℕ) (color : Option Texts) (old before between after : List (Event Texts)) (edge crossing : Spot) → before ≡ old ++ line_colored line at color → between ≡ before ++ spot_colored edge color → after ≡ between ++ spot_colored crossing color → edge ≡ edge_of line at → crossing ≡ crossing_of line (at + 1)
    → after ≡ old ++ line_colored line (at + 1) color
both_written line at color old before between after edge crossing so_far first second is_edge is_crossing =
    second ∙ ap (λ es. es ++ spot_colored crossing color) (first ∙ ap (λ es. es ++ spot_colored edge color) so_far)
    ∙ (λ i. ((old ++ line_colored line at color) ++ spot_colored (is_edge i) color) ++ spot_colored (is_crossing i) color)
    ∙ append_assoc (old ++ line_colored line at color) (spot_colored (edge_of line at) color) (spot_colored (crossing_of line (at + 1)) color)
    ∙ append_assoc old (line_colored line at color) (spot_colored (edge_of line at) color ++ spot_colored (crossing_of line (at + 1)) color)
    ∙ ap (λ es. old ++ es) (sym (line_more line at color))

pub no_line_yet : (line : LineOf) (color : Option Texts) (old : List (Event Texts)) → old ≡ old ++ line_colored line 0 color
unfolding line_colored
no_line_yet line color old = sym (append-nil old)

-- ---- changes of a configuration

-- changes of colors in a row
pub colors_in_turn : (es fs : List (Event Texts)) (old between new : Configuration) → borders.Changes (by_colors es) old between → borders.Changes (by_colors fs) between new → borders.Changes (by_colors (es ++ fs)) old new
colors_in_turn es fs old between new first second =
    subst (λ all. borders.Changes all old new) (sym (map-append of_colors es fs)) (both_change_borders (by_colors es) (by_colors fs) old between new first second)

pub corners_in_turn : (border : Border Texts) (rows cols : ℕ) (a b c d e : Configuration) → borders.Changes (by_colors (spot_cleared (Crossing 0 0) border.left_top_corner)) a b → borders.Changes (by_colors (spot_cleared (Crossing 0 cols) border.right_top_corner)) b c → borders.Changes (by_colors (spot_cleared (Crossing rows 0) border.left_bottom_corner)) c d → borders.Changes (by_colors (spot_cleared (Crossing rows cols) border.right_bottom_corner)) d e
    → borders.Changes (by_colors (corners_cleared border (rows, cols))) a e
unfolding corners_cleared
corners_in_turn border rows cols a b c d e first second third fourth =
    let one = spot_cleared (Crossing 0 0) border.left_top_corner in
    let two = spot_cleared (Crossing 0 cols) border.right_top_corner in
    let three = spot_cleared (Crossing rows 0) border.left_bottom_corner in
    let four = spot_cleared (Crossing rows cols) border.right_bottom_corner in
    colors_in_turn (one ++ two ++ three) four a d e (colors_in_turn (one ++ two) three a c d (colors_in_turn one two a b c first second) third) fourth

-- what was found decides between one color and the colors of each cell
pub found_colored : (found : Option Texts) (border : Border Texts) (shape : ℕ × ℕ) (entity : Entity) (old new : Configuration) → found ≡ (if is_global entity then one_color border else None) → borders.Changes (at_once_or_each found border shape entity) old new → borders.Changes (entity_colored border shape entity) old new
unfolding entity_colored
found_colored found border shape entity old new is changes = subst (λ one. borders.Changes (at_once_or_each one border shape entity) old new) is changes

-- lists of writes of colors alone
nothing_made : (writes : List (Write Texts)) → by_characters (writes_made []) ++ by_colors (writes_made writes) ≡ by_colors (writes_made writes)
unfolding writes_made
nothing_made writes = refl

pub colors_applied : (characters : List (Write ℕ)) (writes : List (Write Texts)) (es : List (Event Texts)) → characters ≡ [] → writes_made writes ≡ es → writes_applied characters writes ≡ by_colors es
unfolding writes_applied
colors_applied characters writes es none made = ap (λ ws. by_characters (writes_made ws) ++ by_colors (writes_made writes)) none ∙ nothing_made writes ∙ ap by_colors made

-- the frame written and its corners cleared
pub frame_in_turn : (border : Border Texts) (rows cols : ℕ) (old between new : Configuration) → ((rows == 0) || (cols == 0)) ≡ false → borders.Changes (by_colors (frame_colored border (rows, cols))) old between → borders.Changes (by_colors (corners_cleared border (rows, cols))) between new → borders.Changes (table_colored border (rows, cols)) old new
unfolding table_colored
frame_in_turn border rows cols old between new some written cleared =
    let frame = by_colors (frame_colored border (rows, cols)) in
    let corners = by_colors (corners_cleared border (rows, cols)) in
    subst (λ b. borders.Changes (cond b [] (frame ++ corners)) old new) (sym some) (both_change_borders frame corners old between new written cleared)

pub no_frame : (border : Border Texts) (rows cols : ℕ) (cfg : Configuration) → ((rows == 0) || (cols == 0)) ≡ true → borders.Changes (table_colored border (rows, cols)) cfg cfg
unfolding table_colored
no_frame border rows cols cfg none =
    subst (λ b. borders.Changes (cond b [] (by_colors (frame_colored border (rows, cols)) ++ by_colors (corners_cleared border (rows, cols)))) cfg cfg) (sym none) (none_change_borders cfg)

-- ---- none of these events is one of the colors of cells

pub none_in_entity_colored : (border : Border Texts) (shape : ℕ × ℕ) (entity : Entity) → cell_colors_of (entity_colored border shape entity) ≡ []
unfolding entity_colored
none_in_entity_colored border shape entity = by_one (if is_global entity then one_color border else None)
  where
    by_one : (one : Option Texts) → cell_colors_of (at_once_or_each one border shape entity) ≡ []
    by_one None = none_by_colors (entity_border_set entity shape border)
    by_one (Some color) = refl

pub none_in_table_colored : (border : Border Texts) (rows cols : ℕ) → cell_colors_of (table_colored border (rows, cols)) ≡ []
unfolding table_colored
none_in_table_colored border rows cols = by_shape ((rows == 0) || (cols == 0))
  where
    by_shape : (empty : Bool) → cell_colors_of (cond empty [] (by_colors (frame_colored border (rows, cols)) ++ by_colors (corners_cleared border (rows, cols)))) ≡ []
    by_shape true = refl
    by_shape false = both_passed_over cell_color_event (by_colors (frame_colored border (rows, cols))) (by_colors (corners_cleared border (rows, cols))) (none_by_colors (frame_colored border (rows, cols))) (none_by_colors (corners_cleared border (rows, cols)))
