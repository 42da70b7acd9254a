-- What fills a line of a cell: a narrow character, which takes one column however often it stands beside the line.
use Rattle.std.proofs.Common.{◌≡◌, ◌||◌, ℕ, ◌+◌, zero, suc, Bool, true, false, if◌then◌else◌, not, ⊎_elim, List, ◌++◌, length, replicate, chars, refl, sym, ap, subst, ◌∙◌, arith, encode_utf8_all}
use Rattle.std.specs.Int.{is_in_range}
use Rattle.std.specs.List.{All, list_all}
use Rattle.std.proofs.lemmas.Bool.{and_parts, cond_both, not-true, or_cases, or_left}
use Rattle.std.proofs.lemmas.Bool.Decides.{nat_tests}
use Rattle.std.proofs.lemmas.List.{length-replicate}
use Rattle.std.proofs.lemmas.List.Elements.{All-replicate, All-weaker}
use Rattle.std.proofs.lemmas.List.Sums.{AllPass-from_list_all, list_all-from_AllPass}
use Rattle.std.proofs.lemmas.Str.{encodes-IsAscii}
use Rattle.unicode_width.specs.Width.{plain, read_before, str_width}
use Rattle.tabled_width.specs.Texts.{is_printable, begins_with, times, width_of_text}
use Rattle.tabled_width.proofs.AfterSpace.{spaces_before}
use Rattle.tabled_width.proofs.Prefixes.{width_before}
use Rattle.tabled_width.proofs.Printing.{printable_ascii}
use Rattle.tabled_width.specs.Narrow.{draws_plainly, is_narrow}
use Rattle.tabled_width.proofs.Ranges.{plainly_narrow}
use Rattle.tabled_width.proofs.Tiles.{Tile, Tile-append, Tile-narrow, Tile-times, Splits-encoded, chars_of}
use Rattle.tabled_width.proofs.TimesLemmas.{times_spaces}
use Rattle.tabled_cells.specs.Placed.{fills, fill_of}
use Rattle.tabled_cells.proofs.Boxes.{box_step}

-- ---- lines of printable ASCII

abbrev pub Printable : List ℕ → Type 0
Printable line = All (λ byte. is_printable byte ≡ true) line

ascii_bytes : (line : List ℕ) → list_all is_printable line ≡ true → encode_utf8_all line ≡ line
ascii_bytes line printable = encodes-IsAscii line (printable_ascii line printable)

-- each of these characters is narrow
narrow_bytes : (line : List ℕ) → Printable line → list_all is_narrow line ≡ true
narrow_bytes line all =
    list_all-from_AllPass is_narrow line (All-weaker (λ byte. is_printable byte ≡ true) (λ byte. is_narrow byte ≡ true) (λ byte. or_left (is_printable byte) _) line all)

pub bytes_tile : (line : List ℕ) → Printable line → Tile (length line) line
bytes_tile line all = subst (Tile (length line)) (ascii_bytes line (list_all-from_AllPass is_printable line all)) (Tile-narrow line (narrow_bytes line all))

-- ---- what fills a line

pub fill_narrow : (character : ℕ) (line : List ℕ) → is_narrow (fill_of character line) ≡ true
fill_narrow character line = cond_both (fills character line) character 32 (λ fill. is_narrow fill ≡ true) (λ fit. plainly_narrow character (and_parts (draws_plainly character) _ fit).0) (λ _. refl)

-- each time it stands before a line one column more is taken
abbrev Adds : ℕ → List ℕ → Type 0
Adds character line = (n : ℕ) → width_of_text (times n character ++ line) ≡ n + width_of_text line

printable_adds : (character : ℕ) (line : List ℕ) → is_printable character ≡ true → begins_with 0xFE0F (chars line) ≡ false → Adds character line
printable_adds character line printable begins n =
    let all : list_all is_printable (replicate n character) ≡ true = list_all-from_AllPass is_printable (replicate n character) (All-replicate (λ byte. is_printable byte ≡ true) n character printable) in
    ap (λ bs. width_of_text (bs ++ line)) (ascii_bytes (replicate n character) all)
    ∙ width_before (replicate n character) line all begins ∙ ap (λ k. k + width_of_text line) (length-replicate n character)

boxes_read : (n character : ℕ) (cs : List ℕ) → is_in_range 0x2500 0x259F character ≡ true → str_width false (replicate n character ++ cs) ≡ n + str_width false cs
unfolding str_width
boxes_read zero character cs box = omega arith
boxes_read (suc n) character cs box =
    ap (λ r. r.0) (box_step character (grind (arith, nat_tests)) (grind (arith, nat_tests)) (read_before false (replicate n character ++ cs) (0, plain))) ∙ omega (arith, boxes_read n character cs box)

box_adds : (character : ℕ) (line : List ℕ) → is_in_range 0x2500 0x259F character ≡ true → Adds character line
box_adds character line box n =
    ap (str_width false) (Splits-encoded (replicate n character) line ∙ ap (λ cs. cs ++ chars line) (chars_of (replicate n character))) ∙ boxes_read n character (chars line) box

plain_adds : (character : ℕ) (line : List ℕ) → draws_plainly character ≡ true → list_all is_printable line ≡ true → Adds character line
plain_adds character line plainly printable n =
    let own = bytes_tile line (AllPass-from_list_all is_printable line printable) in
    (Tile-append n (length line) (times n character) line (Tile-times n character (plainly_narrow character plainly)) own).wide ∙ ap (λ k. n + k) (sym own.wide)

space_adds : (line : List ℕ) → Adds 32 line
space_adds line n = ap (λ bs. width_of_text (bs ++ line)) (times_spaces n) ∙ spaces_before n line

fitting_adds : (character : ℕ) (line : List ℕ) → fills character line ≡ true → Adds character line
fitting_adds character line fit =
    let soon : Bool = is_printable character || is_in_range 0x2500 0x259F character in
    let apart : Bool = not (begins_with 0xFE0F (chars line)) in
    let parts = and_parts (draws_plainly character) (if soon then apart else list_all is_printable line) fit in
    cond_both soon apart (list_all is_printable line) (λ joins. joins ≡ true → Adds character line)
    (λ e apart.
    ⊎_elim (λ printable. printable_adds character line printable (not-true _ apart)) (box_adds character line)
    (or_cases (is_printable character) (is_in_range 0x2500 0x259F character) e))
    (λ e. plain_adds character line parts.0) parts.1

pub fill_before : (n character : ℕ) (line : List ℕ) → width_of_text (times n (fill_of character line) ++ line) ≡ n + width_of_text line
fill_before n character line = cond_both (fills character line) character 32 (λ fill. Adds fill line) (fitting_adds character line) (λ _. space_adds line) n
