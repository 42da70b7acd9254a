-- A ready style writes narrow characters alone, of which none steers.
use Rattle.std.proofs.Common.{◌≡◌, ◌&&◌, ℕ, Bool, true, List, [], ◌∷◌, ◌++◌, refl, sym, ◌∙◌}
use Rattle.std.specs.List.{list_all}
use Rattle.std.proofs.lemmas.Bool.{and_from, and_parts}
use Rattle.std.proofs.lemmas.List.Folds.{list_all-append}
use Rattle.tabled_clean.specs.Steering.{steers}
use Rattle.unicode_width.proofs.Computing.{unicode_width}
use Rattle.tabled_places.specs.declared.event.Event.{Event}
use Rattle.tabled_places.specs.declared.event.Event.TheVariants.{Write as write, Erase as erase}
use Rattle.tabled_places.specs.declared.event.Written.TheVariants.{Sign as sign, Standing as standing}
use Rattle.tabled_places.specs.declared.event.Region.TheVariants.{All as every_site}
use Rattle.tabled_places.specs.Lines.{horizontal_line_set}
use Rattle.tabled_places.specs.State.{class_record_set, class_writes, classes}
use Rattle.tabled_configuration.specs.Configuration.{borders_replaced, horizontal_lines_put, vertical_lines_put}
use Rattle.tabled_width.specs.Narrow.{is_narrow}
use Rattle.tabled_printing.specs.Columns.{WritesNarrow}
use Rattle.tabled_style.specs.declared.ready_style.ReadyStyle.{ReadyStyle}
use Rattle.tabled_style.specs.declared.ready_style.ReadyStyle.TheVariants as ready
use Rattle.tabled_style.specs.Named.{shown, ready_applied}
use Rattle.tabled_style.specs.Shown.{StyleShown}
use Rattle.tabled_style.specs.Ready.{empty, blank, ascii, psql, markdown, modern, sharp, rounded, modern_rounded, extended, dots, re_structured_text, ascii_rounded}
use Rattle.tabled_theme.specs.Events.{style_applied}
use Rattle.tabled_claims.specs.Characters.{is_passing_write}
use Rattle.tabled_claims.specs.Clean.{WritesClean, is_quiet}
use Rattle.tabled_claims.proofs.Characters.{only_both}
use Rattle.tabled_claims.proofs.CleanWrites.{clean_only}

-- whether a character is narrow and does not steer
abbrev is_plain : ℕ → Bool
is_plain c = is_narrow c && is_quiet c

-- what a style writes
abbrev writes_of_style : StyleShown → List (Event ℕ)
writes_of_style style = erase every_site ∷ horizontal_lines_put style.horizontals ++ vertical_lines_put style.verticals ++ class_record_set style.borders

empty_plain : list_all (is_passing_write is_plain) (writes_of_style empty) ≡ true
unfolding unicode_width steers horizontal_lines_put vertical_lines_put class_record_set class_writes classes horizontal_line_set empty
empty_plain = refl

blank_plain : list_all (is_passing_write is_plain) (writes_of_style blank) ≡ true
unfolding unicode_width steers horizontal_lines_put vertical_lines_put class_record_set class_writes classes horizontal_line_set blank
blank_plain = refl

ascii_plain : list_all (is_passing_write is_plain) (writes_of_style ascii) ≡ true
unfolding unicode_width steers horizontal_lines_put vertical_lines_put class_record_set class_writes classes horizontal_line_set ascii
ascii_plain = refl

psql_plain : list_all (is_passing_write is_plain) (writes_of_style psql) ≡ true
unfolding unicode_width steers horizontal_lines_put vertical_lines_put class_record_set class_writes classes horizontal_line_set psql
psql_plain = refl

markdown_plain : list_all (is_passing_write is_plain) (writes_of_style markdown) ≡ true
unfolding unicode_width steers horizontal_lines_put vertical_lines_put class_record_set class_writes classes horizontal_line_set markdown
markdown_plain = refl

modern_plain : list_all (is_passing_write is_plain) (writes_of_style modern) ≡ true
unfolding unicode_width steers horizontal_lines_put vertical_lines_put class_record_set class_writes classes horizontal_line_set modern
modern_plain = refl

sharp_plain : list_all (is_passing_write is_plain) (writes_of_style sharp) ≡ true
unfolding unicode_width steers horizontal_lines_put vertical_lines_put class_record_set class_writes classes horizontal_line_set sharp
sharp_plain = refl

rounded_plain : list_all (is_passing_write is_plain) (writes_of_style rounded) ≡ true
unfolding unicode_width steers horizontal_lines_put vertical_lines_put class_record_set class_writes classes horizontal_line_set rounded
rounded_plain = refl

modern_rounded_plain : list_all (is_passing_write is_plain) (writes_of_style modern_rounded) ≡ true
unfolding unicode_width steers horizontal_lines_put vertical_lines_put class_record_set class_writes classes horizontal_line_set modern_rounded
modern_rounded_plain = refl

extended_plain : list_all (is_passing_write is_plain) (writes_of_style extended) ≡ true
unfolding unicode_width steers horizontal_lines_put vertical_lines_put class_record_set class_writes classes horizontal_line_set extended
extended_plain = refl

dots_plain : list_all (is_passing_write is_plain) (writes_of_style dots) ≡ true
unfolding unicode_width steers horizontal_lines_put vertical_lines_put class_record_set class_writes classes horizontal_line_set dots
dots_plain = refl

re_structured_text_plain : list_all (is_passing_write is_plain) (writes_of_style re_structured_text) ≡ true
unfolding unicode_width steers horizontal_lines_put vertical_lines_put class_record_set class_writes classes horizontal_line_set re_structured_text
re_structured_text_plain = refl

ascii_rounded_plain : list_all (is_passing_write is_plain) (writes_of_style ascii_rounded) ≡ true
unfolding unicode_width steers horizontal_lines_put vertical_lines_put class_record_set class_writes classes horizontal_line_set ascii_rounded
ascii_rounded_plain = refl

plain_shown : (style : ReadyStyle) → list_all (is_passing_write is_plain) (writes_of_style (shown style)) ≡ true
unfolding shown
plain_shown ready.Empty = empty_plain
plain_shown ready.Blank = blank_plain
plain_shown ready.Ascii = ascii_plain
plain_shown ready.Psql = psql_plain
plain_shown ready.Markdown = markdown_plain
plain_shown ready.Modern = modern_plain
plain_shown ready.Sharp = sharp_plain
plain_shown ready.Rounded = rounded_plain
plain_shown ready.ModernRounded = modern_rounded_plain
plain_shown ready.Extended = extended_plain
plain_shown ready.Dots = dots_plain
plain_shown ready.ReStructuredText = re_structured_text_plain
plain_shown ready.AsciiRounded = ascii_rounded_plain

-- ---- what passes one test passes another

passing_less : (first second : ℕ → Bool) → ((c : ℕ) → first c ≡ true → second c ≡ true) → (event : Event ℕ) → is_passing_write first event ≡ true → is_passing_write second event ≡ true
passing_less first second less (write site (sign character)) h = less character h
passing_less first second less (write site standing) h = refl
passing_less first second less (erase region) h = refl

all_less : (first second : ℕ → Bool) → ((c : ℕ) → first c ≡ true → second c ≡ true) → (events : List (Event ℕ)) → list_all (is_passing_write first) events ≡ true → list_all (is_passing_write second) events ≡ true
all_less first second less [] all = refl
all_less first second less (event ∷ events) all =
    let parts = and_parts (is_passing_write first event) (list_all (is_passing_write first) events) all in
    and_from (is_passing_write second event) (list_all (is_passing_write second) events) (passing_less first second less event parts.0) (all_less first second less events parts.1)

narrow_style : (style : StyleShown) → list_all (is_passing_write is_plain) (writes_of_style style) ≡ true → WritesNarrow (style_applied style)
unfolding borders_replaced
narrow_style style plain =
    (only_both is_narrow (writes_of_style style) (erase every_site ∷ []) (all_less is_plain is_narrow (λ c h. (and_parts (is_narrow c) (is_quiet c) h).0) (writes_of_style style) plain)).borders

clean_style : (style : StyleShown) → list_all (is_passing_write is_plain) (writes_of_style style) ≡ true → WritesClean (style_applied style)
unfolding borders_replaced
clean_style style plain =
    clean_only (style_applied style)
    (only_both is_quiet (writes_of_style style) (erase every_site ∷ []) (all_less is_plain is_quiet (λ c h. (and_parts (is_narrow c) (is_quiet c) h).1) (writes_of_style style) plain))

pub ready_narrow : (style : ReadyStyle) → WritesNarrow (ready_applied style)
ready_narrow style = narrow_style (shown style) (plain_shown style)

pub ready_clean : (style : ReadyStyle) → WritesClean (ready_applied style)
ready_clean style = clean_style (shown style) (plain_shown style)

-- without its lines at single rows it writes less
pub class_clean : (style : ReadyStyle) → WritesClean (borders_replaced (shown style).borders [] [])
unfolding borders_replaced horizontal_lines_put vertical_lines_put
class_clean style =
    let own = shown style in
    let lines = horizontal_lines_put own.horizontals ++ vertical_lines_put own.verticals in
    let all = all_less is_plain is_quiet (λ c h. (and_parts (is_narrow c) (is_quiet c) h).1) (writes_of_style own) (plain_shown style) in
    clean_only (borders_replaced own.borders [] [])
    (only_both is_quiet (erase every_site ∷ class_record_set own.borders) (erase every_site ∷ [])
    (and_parts (list_all (is_passing_write is_quiet) lines) (list_all (is_passing_write is_quiet) (class_record_set own.borders))
    (sym (list_all-append (is_passing_write is_quiet) lines (class_record_set own.borders)) ∙ all)).1)

pub rounded_narrow : WritesNarrow (style_applied rounded)
rounded_narrow = narrow_style rounded rounded_plain

pub rounded_clean : WritesClean (style_applied rounded)
rounded_clean = clean_style rounded rounded_plain
