-- The ready styles.
use Rattle.std.specs.Prelude.{ℕ, Option, None, Some, [], ◌∷◌, codes, slice_index}
use Prim.Native.String.{String}
use Rattle.tabled_places.specs.declared.borders.Borders.{Borders}
use Rattle.tabled_places.specs.declared.lines.HorizontalLine.{HorizontalLine}
use Rattle.tabled_places.specs.declared.place.Rank.TheVariants.{First as first, Inner as inner, Last as last}
use Rattle.tabled_places.specs.Borders.{put_horizontal}
use Rattle.tabled_places.specs.CustomLines.{no_horizontal, no_borders}
use Rattle.tabled_style.specs.Shown.{StyleShown}
use Rattle.tabled_style.specs.Lines.{full_horizontal}

-- the one character of a text
abbrev pub char : String → ℕ
char text = slice_index (codes text) 0

-- a line by its text: along its edges, at its crossings between, at its left and at its right end
abbrev pub line : String → HorizontalLine ℕ
line text = full_horizontal (slice_index (codes text) 0) (slice_index (codes text) 1) (slice_index (codes text) 2) (slice_index (codes text) 3)

-- a line without ends
abbrev pub open_line : ℕ → ℕ → HorizontalLine ℕ
open_line main intersection = record { main = Some main; intersection = Some intersection; left = None; right = None }

-- the record of a top, a bottom, the lines between rows, and the edges of the vertical lines
abbrev pub class_record : HorizontalLine ℕ → HorizontalLine ℕ → HorizontalLine ℕ → Option ℕ → Option ℕ → Option ℕ → Borders ℕ
class_record top bottom between left right vertical =
    put_horizontal first top (put_horizontal last bottom (put_horizontal inner between (record no_borders {
      left = left;
      right = right;
      vertical = vertical;
    })))

-- the record with one character for the edges of all vertical lines
abbrev pub boxed : HorizontalLine ℕ → HorizontalLine ℕ → HorizontalLine ℕ → ℕ → Borders ℕ
boxed top bottom between side = class_record top bottom between (Some side) (Some side) (Some side)

-- the record with one line for the top and the bottom, with lines between columns and without sides
abbrev pub unframed : HorizontalLine ℕ → ℕ → Borders ℕ
unframed ends vertical = class_record ends ends no_horizontal None None (Some vertical)

-- a style without custom vertical lines, and with at most one custom horizontal line, which is number 1
abbrev pub plain : Borders ℕ → StyleShown
plain borders = record { borders = borders; horizontals = []; verticals = [] }

abbrev pub ruled : Borders ℕ → HorizontalLine ℕ → StyleShown
ruled borders under = record { borders = borders; horizontals = (1, under) ∷ []; verticals = [] }

unfoldable pub empty : StyleShown
empty = plain no_borders

unfoldable pub blank : StyleShown
blank = plain (unframed no_horizontal (char " "))

unfoldable pub ascii : StyleShown
ascii = plain (boxed (line "-+++") (line "-+++") (line "-+++") (char "|"))

unfoldable pub psql : StyleShown
psql = ruled (unframed no_horizontal (char "|")) (open_line (char "-") (char "+"))

unfoldable pub markdown : StyleShown
markdown = ruled (boxed no_horizontal no_horizontal no_horizontal (char "|")) (line "-|||")

unfoldable pub modern : StyleShown
modern = plain (boxed (line "─┬┌┐") (line "─┴└┘") (line "─┼├┤") (char "│"))

unfoldable pub sharp : StyleShown
sharp = ruled (boxed (line "─┬┌┐") (line "─┴└┘") no_horizontal (char "│")) (line "─┼├┤")

unfoldable pub rounded : StyleShown
rounded = ruled (boxed (line "─┬╭╮") (line "─┴╰╯") no_horizontal (char "│")) (line "─┼├┤")

unfoldable pub modern_rounded : StyleShown
modern_rounded = plain (boxed (line "─┬╭╮") (line "─┴╰╯") (line "─┼├┤") (char "│"))

unfoldable pub extended : StyleShown
extended = plain (boxed (line "═╦╔╗") (line "═╩╚╝") (line "═╬╠╣") (char "║"))

unfoldable pub dots : StyleShown
dots = plain (boxed (line "....") (line ".:::") (line ".:::") (char ":"))

unfoldable pub re_structured_text : StyleShown
re_structured_text = ruled (unframed (open_line (char "=") (char " ")) (char " ")) (open_line (char "=") (char " "))

unfoldable pub ascii_rounded : StyleShown
ascii_rounded = plain (boxed (line "--..") (line "--''") no_horizontal (char "|"))
