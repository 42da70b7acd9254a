-- Texts above and below a table: on its first and last line, where these are drawn and have room, and else beside it.
use Rattle.std.specs.Prelude.{ℕ, ◌+◌, Bool, ◌==◌, ◌&&◌, nat_le, if◌then◌else◌, List, [], ◌∷◌, ◌++◌, codes, chars, length, sum, false, Option, Some, None, unwrap_or}
use Rattle.std.specs.List.{list_all}
use Rattle.unicode_width.specs.Width.{char_width}
use Rattle.tabled_clean.specs.Steering.{cleaned}
use Rattle.tabled_object.specs.declared.object.rows.Row.{Row}
use Rattle.tabled_settings.specs.declared.alignment.AlignmentHorizontal.TheVariants.{Center}
use Rattle.tabled_object.specs.declared.offset.Offset.{Offset}
use Rattle.tabled_configuration.specs.Configuration.{ConfigEvent}
use Rattle.tabled_width.specs.CutOff.{truncated}
use Rattle.tabled_width.specs.Texts.{Table}
use Rattle.tabled_formatting.specs.declared.alignment.Alignment.TheVariants.{Horizontal}
use Rattle.tabled_options.specs.LineText.{Lettering, text_events}
use Rattle.tabled_options.specs.NamedLine.{row_line}
use Rattle.tabled_measure.specs.Sizes.{column_widths}
use Rattle.tabled_text.specs.TextTable.{look_of}

-- a text of the words as it is shown: cleaned, unless it is to be left as it is
abbrev pub shown_text : Bool → List ℕ → List ℕ
shown_text is_raw text = if is_raw then text else cleaned text

-- cut off before two dots where it is wider than the table may be
abbrev pub cut_to : Option ℕ → List ℕ → List ℕ
cut_to None text = text
cut_to (Some width) text = truncated width (codes "..") text

-- a text above or below a table; the empty one is none
abbrev pub caption : Bool → Option ℕ → Option (List ℕ) → Option (List ℕ)
caption is_raw width None = None
caption is_raw width (Some text) = if length text == 0 then None else Some (cut_to width (shown_text is_raw text))

-- a character that takes one column of the terminal
abbrev pub takes_one : ℕ → Bool
takes_one character = unwrap_or (char_width false character) 0 == 1

-- a text has room on a line of a table, between two spaces: it is no wider than the columns of the table together
abbrev pub has_room : Table → List ℕ → Bool
has_room table text = list_all takes_one (chars text) && nat_le (length (chars text) + 2) (sum (column_widths table))

-- a text in the middle of the horizontal line above the row of that number, between two spaces
abbrev pub lettering : List ℕ → ℕ → Lettering Row
lettering text line = record {
  text = chars (codes " " ++ text ++ codes " ");
  line = record { index = line };
  alignment = Some (Horizontal Center);
  offset = Offset.Start 0;
  color = None;
  limit = None;
}

-- what is written for it, after what was written before
unfoldable pub written_on_line : List ConfigEvent → Table → List ℕ → ℕ → List ConfigEvent
written_on_line before table text line = text_events (lettering text line) (look_of before table) (row_line line)

-- what is written on a line for a text, if there is one, and the line that stands beside the table for it
abbrev pub on_line : Bool → List ConfigEvent → Table → ℕ → Option (List ℕ) → List ConfigEvent
on_line is_drawn before table line None = []
on_line is_drawn before table line (Some text) = if is_drawn && has_room table text then written_on_line before table text line else []

abbrev pub beside : Bool → Table → Option (List ℕ) → List ℕ
beside is_drawn table None = []
beside is_drawn table (Some text) = if is_drawn && has_room table text then [] else text ++ 10 ∷ []
