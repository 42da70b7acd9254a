-- How a table looks, by what its configuration returns.
use Rattle.std.proofs.Common.{◌≡◌, ℕ, ◌-◌, ◌<◌, Bool, Option, List, refl, sym, ap, ◌∙◌, IsTrue, ◌↔◌}
use Rattle.std.proofs.lemmas.Bool.{lt-ltb}
use Rattle.std.proofs.Math.Bool.{and-true}
use Rattle.tabled_places.specs.declared.place.Place.{Place}
use Rattle.tabled_places.specs.declared.place.LineOf.{LineOf}
use Rattle.tabled_object.specs.declared.offset.Offset.{Offset}
use Rattle.tabled_places.specs.declared.event.Event.{Event}
use Rattle.tabled_places.specs.Event as grid
use Rattle.tabled_places.specs.Event.{replay}
use Rattle.tabled_places.specs.Value.{value, plain_value}
use Rattle.tabled_places.specs.Drawn.{drawn, Drawn}
use Rattle.tabled_places.specs.State.{State, state_at}
use Rattle.tabled_places.proofs.DrawnLemmas.{drawn-answer, Drawn-drawn, replay-shown, value-shown}
use Rattle.tabled_border.specs.Texts.{Texts}
use Rattle.tabled_configuration.specs.Configuration.{Configuration, ConfigEvent, Shows, characters_of, colors_of, all_writes}
use Rattle.tabled_printing.specs.Alike.{HasNoOffsetsOf}
use Rattle.tabled_printing.specs.Picture.{look, edge_size}
use Rattle.tabled_printing.specs.LinePieces.{piece_size, crossing_of, edge_of}
use Rattle.tabled_printing.proofs.LineLemmas.{crossing_size, edge_length}
use Rattle.tabled_configuration.proofs.ConfigurationLemmas.{shown_characters, shown_colors}

-- what the configuration returns of a line is how the table looks
pub own_drawn : (cfg : Configuration) (count : ℕ) (line : LineOf) (answer : Bool) → IsTrue answer ↔ Drawn (state_at cfg.characters) count line → answer ≡ drawn (characters_of (all_writes cfg)) count line
own_drawn cfg count line answer says =
    drawn-answer (characters_of (all_writes cfg)) (state_at cfg.characters) count line answer (shown_characters cfg) says

pub kept_drawn : (cfg : Configuration) (count : ℕ) (line : LineOf) → IsTrue (drawn (characters_of (all_writes cfg)) count line) ↔ Drawn (state_at cfg.characters) count line
kept_drawn cfg count line = let by = Drawn-drawn (characters_of (all_writes cfg)) (state_at cfg.characters) count line (shown_characters cfg) in (by.1, by.0)

-- and what is kept for a place is what it shows
kept_value : {T : Type 0} (events : List (Event T)) (state : State T) (shape : ℕ × ℕ) (widths heights : ℕ → ℕ) (place : Place) (size : ℕ) → grid.Shows events (state_at state) → size ≡ edge_size widths heights place
    → value (state_at state) shape size place ≡ value (replay events) shape (edge_size widths heights place) place
kept_value events state shape widths heights place size shows sized =
    ap (λ s. value (state_at state) shape s place) sized ∙ value-shown events (state_at state) shape (edge_size widths heights place) place shows

pub own_shown : (cfg : Configuration) (shape : ℕ × ℕ) (widths heights : ℕ → ℕ) (place : Place) (size : ℕ) (found : Option ℕ) → size ≡ edge_size widths heights place → found ≡ value (state_at cfg.characters) shape size place → found ≡ (look (all_writes cfg) shape widths heights).shown place
own_shown cfg shape widths heights place size found sized is = is ∙ kept_value (characters_of (all_writes cfg)) cfg.characters shape widths heights place size (shown_characters cfg) sized

pub own_color : (cfg : Configuration) (shape : ℕ × ℕ) (widths heights : ℕ → ℕ) (place : Place) (size : ℕ) (found : Option Texts) → size ≡ edge_size widths heights place → found ≡ value (state_at cfg.colors) shape size place → found ≡ (look (all_writes cfg) shape widths heights).color place
own_color cfg shape widths heights place size found sized is = is ∙ kept_value (colors_of (all_writes cfg)) cfg.colors shape widths heights place size (shown_colors cfg) sized

-- without offsets each place of an edge has what the edge has
plain_edge : {T : Type 0} (state : State T) (shape : ℕ × ℕ) (size : ℕ) (line : LineOf) (n k : ℕ) → HasNoOffsetsOf line n state → k < size
    → value (state_at state) shape size (edge_of line n k) ≡ plain_value (state_at state) shape (edge_of line n 0)
unfolding value plain_value
plain_edge state shape size (LineOf.Horizontal r) n k none within = simp (lt-ltb k size within, none (Offset.Start k), none (Offset.End (size - 1 - k)), and-true)
plain_edge state shape size (LineOf.Vertical c) n k none within = simp (lt-ltb k size within, none (Offset.Start k), none (Offset.End (size - 1 - k)), and-true)

-- and a crossing has no offsets
crossing_plain : {T : Type 0} (state : State T) (shape : ℕ × ℕ) (line : LineOf) (n : ℕ) → value (state_at state) shape 0 (crossing_of line n) ≡ plain_value (state_at state) shape (crossing_of line n)
unfolding value plain_value
crossing_plain state shape (LineOf.Horizontal r) n = refl
crossing_plain state shape (LineOf.Vertical c) n = refl

module _ {T : Type 0} (events : List (Event T)) (state : State T) (shape : ℕ × ℕ) (widths heights : ℕ → ℕ) (line : LineOf) (n : ℕ) (shows : grid.Shows events (state_at state)) where
  pub kept_edge : (k : ℕ) → HasNoOffsetsOf line n state → k < piece_size widths heights line n
      → plain_value (state_at state) shape (edge_of line n 0) ≡ value (replay events) shape (edge_size widths heights (edge_of line n k)) (edge_of line n k)
  kept_edge k none within =
      sym (plain_edge state shape (piece_size widths heights line n) line n k none within)
      ∙ kept_value events state shape widths heights (edge_of line n k) (piece_size widths heights line n) shows (sym (edge_length widths heights line n k))

  pub kept_crossing : plain_value (state_at state) shape (crossing_of line n) ≡ value (replay events) shape (edge_size widths heights (crossing_of line n)) (crossing_of line n)
  kept_crossing = sym (crossing_plain state shape line n) ∙ kept_value events state shape widths heights (crossing_of line n) 0 shows (sym (crossing_size widths heights line n))

-- two lists of events, whose characters and colors a configuration keeps, give one look
pub kept_look : (cfg : Configuration) (es fs : List ConfigEvent) (shape : ℕ × ℕ) (widths heights : ℕ → ℕ) → grid.Shows (characters_of es) (state_at cfg.characters) → grid.Shows (colors_of es) (state_at cfg.colors)
    → grid.Shows (characters_of fs) (state_at cfg.characters) → grid.Shows (colors_of fs) (state_at cfg.colors) → look es shape widths heights ≡ look fs shape widths heights
kept_look cfg es fs shape widths heights by by_color with with_color =
    let same_kept = sym (replay-shown (characters_of es) (state_at cfg.characters) by) ∙ replay-shown (characters_of fs) (state_at cfg.characters) with in
    let same_colors = sym (replay-shown (colors_of es) (state_at cfg.colors) by_color) ∙ replay-shown (colors_of fs) (state_at cfg.colors) with_color in
    let same_drawn : (count : ℕ) (line : LineOf) → drawn (characters_of es) count line ≡ drawn (characters_of fs) count line =
    λ count line.
    let there = Drawn-drawn (characters_of es) (state_at cfg.characters) count line by in
    drawn-answer (characters_of fs) (state_at cfg.characters) count line (drawn (characters_of es) count line) with (there.1, there.0) in
    λ i. record {
      shape = shape;
      widths = widths;
      heights = heights;
      horizontal = λ r. same_drawn shape.0 (LineOf.Horizontal r) i;
      vertical = λ c. same_drawn shape.1 (LineOf.Vertical c) i;
      shown = λ place. value (same_kept i) shape (edge_size widths heights place) place;
      color = λ place. value (same_colors i) shape (edge_size widths heights place) place;
    }

-- so do a configuration's own writes and any list that it shows, and two lists that it shows
pub own_look : (cfg : Configuration) (es : List ConfigEvent) (shape : ℕ × ℕ) (widths heights : ℕ → ℕ) → Shows es cfg → look (all_writes cfg) shape widths heights ≡ look es shape widths heights
own_look cfg es shape widths heights shows =
    kept_look cfg (all_writes cfg) es shape widths heights (shown_characters cfg) (shown_colors cfg) shows.characters_shown shows.colors_shown

pub same_look : (cfg : Configuration) (es fs : List ConfigEvent) (shape : ℕ × ℕ) (widths heights : ℕ → ℕ) → Shows es cfg → Shows fs cfg → look es shape widths heights ≡ look fs shape widths heights
same_look cfg es fs shape widths heights by with = sym (own_look cfg es shape widths heights by) ∙ own_look cfg fs shape widths heights with
