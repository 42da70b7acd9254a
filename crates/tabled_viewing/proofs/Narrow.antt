-- A style as it is drawn writes narrow characters alone.
use Rattle.std.proofs.Common.{◌≡◌, ℕ, Bool, true, false, if◌then◌else◌, List, [], ◌∷◌, ◌++◌, refl, sym, ap, ◌∙◌}
use Rattle.std.specs.List.{list_all}
use Rattle.std.proofs.lemmas.Bool.{and_parts}
use Rattle.std.proofs.lemmas.List.Folds.{list_all-append}
use Rattle.unicode_width.proofs.Computing.{unicode_width}
use Rattle.tabled_border.specs.Texts.{Texts}
use Rattle.tabled_places.specs.declared.event.Event.{Event}
use Rattle.tabled_places.specs.declared.event.Event.TheVariants.{Erase as erase}
use Rattle.tabled_places.specs.declared.event.Region.TheVariants.{All as every_site}
use Rattle.tabled_places.specs.Lines.{horizontal_line_set}
use Rattle.tabled_places.specs.State.{class_record_set, class_writes, classes}
use Rattle.tabled_configuration.specs.Configuration.{by_characters, by_colors, characters_of, borders_replaced, horizontal_lines_put, vertical_lines_put}
use Rattle.tabled_printing.specs.Columns.{is_narrow_write, WritesNarrow}
use Rattle.tabled_style.specs.declared.ready_style.ReadyStyle.{ReadyStyle}
use Rattle.tabled_style.specs.declared.ready_style.ReadyStyle.TheVariants as ready
use Rattle.tabled_style.specs.Named.{shown, ready_applied}
use Rattle.tabled_style.specs.Shown.{StyleShown}
use Rattle.tabled_style.specs.Ready.{empty, blank, ascii, psql, markdown, modern, sharp, rounded, modern_rounded, extended, dots, re_structured_text, ascii_rounded}
use Rattle.tabled_request.specs.declared.request.Request.{Request}
use Rattle.tabled_viewing.specs.View.{drawn, has_header_line}

-- what a style writes
abbrev writes_of_style : StyleShown → List (Event ℕ)
writes_of_style style = erase every_site ∷ horizontal_lines_put style.horizontals ++ vertical_lines_put style.verticals ++ class_record_set style.borders

empty_narrow : list_all is_narrow_write (writes_of_style empty) ≡ true
unfolding unicode_width horizontal_lines_put vertical_lines_put class_record_set class_writes classes horizontal_line_set empty
empty_narrow = refl

blank_narrow : list_all is_narrow_write (writes_of_style blank) ≡ true
unfolding unicode_width horizontal_lines_put vertical_lines_put class_record_set class_writes classes horizontal_line_set blank
blank_narrow = refl

ascii_narrow : list_all is_narrow_write (writes_of_style ascii) ≡ true
unfolding unicode_width horizontal_lines_put vertical_lines_put class_record_set class_writes classes horizontal_line_set ascii
ascii_narrow = refl

psql_narrow : list_all is_narrow_write (writes_of_style psql) ≡ true
unfolding unicode_width horizontal_lines_put vertical_lines_put class_record_set class_writes classes horizontal_line_set psql
psql_narrow = refl

markdown_narrow : list_all is_narrow_write (writes_of_style markdown) ≡ true
unfolding unicode_width horizontal_lines_put vertical_lines_put class_record_set class_writes classes horizontal_line_set markdown
markdown_narrow = refl

modern_narrow : list_all is_narrow_write (writes_of_style modern) ≡ true
unfolding unicode_width horizontal_lines_put vertical_lines_put class_record_set class_writes classes horizontal_line_set modern
modern_narrow = refl

sharp_narrow : list_all is_narrow_write (writes_of_style sharp) ≡ true
unfolding unicode_width horizontal_lines_put vertical_lines_put class_record_set class_writes classes horizontal_line_set sharp
sharp_narrow = refl

rounded_narrow : list_all is_narrow_write (writes_of_style rounded) ≡ true
unfolding unicode_width horizontal_lines_put vertical_lines_put class_record_set class_writes classes horizontal_line_set rounded
rounded_narrow = refl

modern_rounded_narrow : list_all is_narrow_write (writes_of_style modern_rounded) ≡ true
unfolding unicode_width horizontal_lines_put vertical_lines_put class_record_set class_writes classes horizontal_line_set modern_rounded
modern_rounded_narrow = refl

extended_narrow : list_all is_narrow_write (writes_of_style extended) ≡ true
unfolding unicode_width horizontal_lines_put vertical_lines_put class_record_set class_writes classes horizontal_line_set extended
extended_narrow = refl

dots_narrow : list_all is_narrow_write (writes_of_style dots) ≡ true
unfolding unicode_width horizontal_lines_put vertical_lines_put class_record_set class_writes classes horizontal_line_set dots
dots_narrow = refl

re_structured_text_narrow : list_all is_narrow_write (writes_of_style re_structured_text) ≡ true
unfolding unicode_width horizontal_lines_put vertical_lines_put class_record_set class_writes classes horizontal_line_set re_structured_text
re_structured_text_narrow = refl

ascii_rounded_narrow : list_all is_narrow_write (writes_of_style ascii_rounded) ≡ true
unfolding unicode_width horizontal_lines_put vertical_lines_put class_record_set class_writes classes horizontal_line_set ascii_rounded
ascii_rounded_narrow = refl

shown_narrow : (style : ReadyStyle) → list_all is_narrow_write (writes_of_style (shown style)) ≡ true
unfolding shown
shown_narrow ready.Empty = empty_narrow
shown_narrow ready.Blank = blank_narrow
shown_narrow ready.Ascii = ascii_narrow
shown_narrow ready.Psql = psql_narrow
shown_narrow ready.Markdown = markdown_narrow
shown_narrow ready.Modern = modern_narrow
shown_narrow ready.Sharp = sharp_narrow
shown_narrow ready.Rounded = rounded_narrow
shown_narrow ready.ModernRounded = modern_rounded_narrow
shown_narrow ready.Extended = extended_narrow
shown_narrow ready.Dots = dots_narrow
shown_narrow ready.ReStructuredText = re_structured_text_narrow
shown_narrow ready.AsciiRounded = ascii_rounded_narrow

-- its characters are what it writes
no_characters : (fs : List (Event Texts)) → characters_of (by_colors fs) ≡ []
no_characters [] = refl
no_characters (f ∷ fs) = no_characters fs

pub characters_written : (es : List (Event ℕ)) (fs : List (Event Texts)) → characters_of (by_characters es ++ by_colors fs) ≡ es
characters_written [] fs = no_characters fs
characters_written (e ∷ es) fs = ap (λ rest. e ∷ rest) (characters_written es fs)

-- without its lines at single rows it writes less
class_narrow : (style : StyleShown) → list_all is_narrow_write (writes_of_style style) ≡ true → list_all is_narrow_write (class_record_set style.borders) ≡ true
class_narrow style all =
    let lines : List (Event ℕ) = horizontal_lines_put style.horizontals ++ vertical_lines_put style.verticals in
    let class : List (Event ℕ) = class_record_set style.borders in
    (and_parts (list_all is_narrow_write lines) (list_all is_narrow_write class) (sym (list_all-append is_narrow_write lines class) ∙ all)).1

either_narrow : (style : ReadyStyle) (b : Bool) → WritesNarrow (if b then ready_applied style else borders_replaced (shown style).borders [] [])
unfolding borders_replaced horizontal_lines_put vertical_lines_put
either_narrow style true = ap (list_all is_narrow_write) (characters_written (writes_of_style (shown style)) (erase every_site ∷ [])) ∙ shown_narrow style
either_narrow style false =
    ap (list_all is_narrow_write) (characters_written (erase every_site ∷ class_record_set (shown style).borders) (erase every_site ∷ []))
    ∙ class_narrow (shown style) (shown_narrow style)

pub drawn_narrow : (request : Request) (style : ReadyStyle) (rows : ℕ) → WritesNarrow (drawn request style rows)
drawn_narrow request style rows = either_narrow style (has_header_line request style rows)
