-- Lists of writes that an option hands to a configuration.
use Rattle.std.proofs.Common.{◌≡◌, ℕ, Option, option_map, List, [], map, filter, ap, ◌∙◌}
use Rattle.tabled_configuration.specs.Configuration.{Configuration, ConfigEvent, all_writes, cell_colors_of}
use Rattle.tabled_printing.specs.Picture.{Look, look}
use Rattle.tabled_changes.proofs.ColoredLemmas.{none_by_characters, none_by_both}
use Rattle.tabled_object.specs.declared.entity.Entity.{Entity}
use Rattle.tabled_object.specs.Entities.{cells_of}
use Rattle.tabled_places.specs.declared.place.LineOf.{LineOf}
use Rattle.tabled_color.specs.Shade.{texts_of}
use Rattle.tabled_options.specs.LineChar.{EdgeChar, mark_written, has_edge, direction_of, line_char_events}
use Rattle.tabled_options.specs.LineText.{Lettering, characters_written, colors_written, places_taken, text_events}

-- none of the events that options here make is one of the colors of cells
pub none_in_marks : (mark : EdgeChar) (rows cols : ℕ) (entity : Entity) → cell_colors_of (line_char_events mark (rows, cols) entity) ≡ []
unfolding line_char_events
none_in_marks mark rows cols entity = none_by_characters (map (mark_written mark) (filter (has_edge (direction_of mark) (rows, cols)) (cells_of entity rows cols)))

pub none_in_text : {L : Type 0} (text : Lettering L) (view : Look) (line : Option LineOf) → cell_colors_of (text_events text view line) ≡ []
unfolding text_events
none_in_text text view line = none_by_both (characters_written view.shown (places_taken text view line)) (colors_written (option_map texts_of text.color) (places_taken text view line))

-- what a text makes of how the table was read is what it makes of the table
pub read_alike : {L : Type 0} (line_of : L → ℕ × ℕ → Option LineOf) (lent text : Lettering L) (before cfg : Configuration) (counted shape : ℕ × ℕ) (widths heights : ℕ → ℕ) (line : Option LineOf) (applied : List ConfigEvent)
    → applied ≡ text_events lent (look (all_writes before) counted widths heights) line → line ≡ line_of lent.line counted → lent ≡ text → before ≡ cfg → counted ≡ shape
    → applied ≡ text_events text (look (all_writes cfg) shape widths heights) (line_of text.line shape)
read_alike line_of lent text before cfg counted shape widths heights line applied made named is same counts =
    made ∙ ap (λ one. text_events lent (look (all_writes before) counted widths heights) one) named
    ∙ (λ i. text_events (is i) (look (all_writes (same i)) (counts i) widths heights) (line_of (is i).line (counts i)))
