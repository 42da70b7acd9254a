-- How a bare cell is painted.
use Rattle.std.proofs.Common.{◌≡◌, ℕ, ◌+◌, ◌-◌, Bool, true, false, if◌then◌else◌, Option, Some, None, List, [], ◌∷◌, ◌++◌, map, length, refl, sym, ap, subst, ◌∙◌, arith, option_map, nat_lt, ◌==◌}
use Rattle.std.specs.Prelude.{IfSome, option_and_then, option_copied, slice_index_or}
use denote.Ref.{Bor}
use Rattle.tabled_settings.specs.declared.cell_settings.CellSettings.{CellSettings}
use Rattle.tabled_configuration.specs.AlikeRows.{AreCellsAlike, AreColorsAlike}
use Rattle.std.specs.List.{list_all}
use Rattle.std.proofs.lemmas.Bool.Decides.{nat_tests}
use Rattle.std.proofs.lemmas.List.{append_assoc, map-append}
use Rattle.tabled_border.specs.Texts.{Texts}
use Rattle.tabled_object.specs.declared.position.Position.{Position}
use Rattle.tabled_settings.specs.Live.{Live, value_at}
use Rattle.tabled_settings.specs.declared.alignment.AlignmentHorizontal.{AlignmentHorizontal}
use Rattle.tabled_settings.specs.declared.indent.Indent.{Indent}
use Rattle.tabled_settings.specs.declared.sides.Sides.{Sides}
use Rattle.tabled_settings.specs.CellSettings.{no_colors as no_sides}
use Rattle.tabled_settings.specs.Padding.{first_padding}
use Rattle.tabled_width.specs.Texts.{pieces, width_of_text, is_printable}
use Rattle.tabled_width.proofs.TimesLemmas.{times_both}
use Rattle.tabled_cells.specs.declared.filling.LineParts.{LineParts}
use Rattle.tabled_cells.specs.declared.placement.Placement.{Placement}
use Rattle.tabled_settings.specs.declared.alignment.AlignmentVertical.{AlignmentVertical}
use Rattle.tabled_settings.specs.declared.alignment.AlignmentVertical.TheVariants.{Top, Center, Bottom}
use Rattle.tabled_cells.specs.Placed.{times, free_before, free_above, fill_of, greatest, line_parts, aligned_width, padding_shown}
use Rattle.tabled_cells.specs.Placements.{placement_at}
use Rattle.tabled_cells.specs.Trimmed.{without_ends, is_space, is_blank, line_shown, lines_shown}
use Rattle.tabled_cells.proofs.Printing.{one_piece, printable_width}
use Rattle.tabled_painting.specs.Painted.{Painted, paint, plain, colored_if}
use Rattle.tabled_painting.specs.CellLines.{Coloring, coloring_at, painted_line, cell_line, text_color, with_texts}
use Rattle.tabled_painting.specs.BareCells.{IsBareCell, IsBareIn, IsInColor, bare_text}
use Rattle.tabled_painting.proofs.PainterLemmas.{plain_paint}
use Rattle.tabled_painting.proofs.Plain.{plain_cell}

-- ---- the color of a text

-- by the color that is read, if there are colors
pub color_read : (colors : Option (Live Texts)) (cell : Position) (found : Option Texts) → found ≡ option_map (λ live. value_at live cell) colors → option_and_then with_texts found ≡ text_color colors cell
color_read None cell found is = ap (option_and_then with_texts) is
color_read (Some live) cell found is = ap (option_and_then with_texts) is

pub without_texts : (color : Texts) → (color.prefix ≡ []) × (color.suffix ≡ []) → with_texts color ≡ None
without_texts color none = λ i. if length (none.0 i) + length (none.1 i) == 0 then None else Some color

pub some_texts : (color : Texts) (empty : Bool) → empty ≡ false → ((color.prefix ≡ []) × (color.suffix ≡ []) → empty ≡ true) → with_texts color ≡ Some color
some_texts color empty some told = ap (λ b. if b then None else Some color) (by color.prefix color.suffix told)
  where
    by : (before after : List ℕ) → ((before ≡ []) × (after ≡ []) → empty ≡ true) → (length before + length after == 0) ≡ false
    by [] [] told = sym (told (refl, refl)) ∙ some
    by [] (b ∷ after) told = grind (arith, nat_tests)
    by (b ∷ before) after told = grind (arith, nat_tests)

-- ---- cells of rows

abbrev cell_at : ℕ → ℕ → Position
cell_at r c = record { row = r; col = c }

text_alike : (colors : Option (Live Texts)) (r c : ℕ) → AreColorsAlike colors r → text_color colors (cell_at r c) ≡ text_color colors (cell_at r 0)
text_alike None r c alike = refl
text_alike (Some live) r c alike = ap with_texts (alike c 0)

colors_alike : (settings : CellSettings) (colors : Option (Live Texts)) (r c : ℕ) → AreCellsAlike settings r → AreColorsAlike colors r → coloring_at settings colors r c ≡ coloring_at settings colors r 0
unfolding coloring_at
colors_alike settings colors r c beside texts = λ i. record {
  text = text_alike colors r c texts i;
  fill = beside.justification_color c 0 i;
  padding = beside.padding_color c 0 i;
}

bare_alike : (wanted : Bool) (settings : CellSettings) (colors : Option (Live Texts)) (r c : ℕ) (color : Option Texts) → AreCellsAlike settings r → AreColorsAlike colors r → IsBareIn wanted settings colors r 0 color → IsBareIn wanted settings colors r c color
unfolding placement_at
bare_alike wanted settings colors r c color beside texts is = record {
  bare = record {
    whole_lines = beside.trim_horizontal c 0 ∙ is.bare.whole_lines;
    all_lines = beside.trim_vertical c 0 ∙ is.bare.all_lines;
    spaces = beside.justification c 0 ∙ is.bare.spaces;
    padding = ap padding_shown (beside.padding c 0) ∙ is.bare.padding;
  };
  in_color = λ yes. subst (IsInColor color) (sym (colors_alike settings colors r c beside texts)) (is.in_color yes);
}

-- what is known of the first cell of such a row is known of each
pub bare_row : (wanted : Bool) (settings : CellSettings) (colors : Option (Live Texts)) (row col r : ℕ) (found : Option (Option (Bor Texts))) → AreCellsAlike settings r → AreColorsAlike colors r → row ≡ r → col ≡ 0
    → IfSome found (λ color. IsBareIn wanted settings colors row col (option_copied color)) → IfSome found (λ color. (c : ℕ) → IsBareIn wanted settings colors r c (option_copied color))
bare_row wanted settings colors row col r None beside texts at_row at_col is = tt
bare_row wanted settings colors row col r (Some color) beside texts at_row at_col is = λ c.
    bare_alike wanted settings colors r c (option_copied color) beside texts (subst (λ n. IsBareIn wanted settings colors n 0 (option_copied color)) at_row (subst (λ n. IsBareIn wanted settings colors row n (option_copied color)) at_col is))

-- and so of each
pub bare_of_row : (wanted : Bool) (settings : CellSettings) (colors : Option (Live Texts)) (r row col : ℕ) (found : Option (Option (Bor Texts))) → row ≡ r
    → IfSome found (λ color. (c : ℕ) → IsBareIn wanted settings colors r c (option_copied color)) → IfSome found (λ color. IsBareIn wanted settings colors row col (option_copied color))
bare_of_row wanted settings colors r row col None at_row is = tt
bare_of_row wanted settings colors r row col (Some color) at_row is = subst (λ n. IsBareIn wanted settings colors n col (option_copied color)) (sym at_row) (is col)

-- where the text of a cell stands, as it is read
pub stands_at : (settings : CellSettings) (row col : ℕ) (read : AlignmentHorizontal) → read ≡ value_at settings.alignment_horizontal (cell_at row col) → read ≡ (placement_at settings row col).alignment_horizontal
unfolding placement_at
stands_at settings row col read is = is

-- ---- such a cell

either_same : (b : Bool) (n : ℕ) → (if b then n else n) ≡ n
either_same true n = refl
either_same false n = refl

painted_in_turn : (color : Option Texts) (first before text after last : List ℕ) → paint color first ++ paint color before ++ paint color text ++ paint color after ++ paint color last ≡ paint color (first ++ before ++ text ++ after ++ last)
painted_in_turn color first before text after last = simp map-append

none_above : (place : AlignmentVertical) → free_above place 0 ≡ 0
none_above Top = refl
none_above Center = refl
none_above Bottom = refl

one_greatest : (n : ℕ) → greatest (n ∷ []) ≡ n
one_greatest n = omega arith

abbrev no_coloring : Coloring
no_coloring = record { text = None; fill = None; padding = no_sides }

module _ (how : Placement) (is : IsBareCell how) (width height : ℕ) (low : height ≡ 1) (text : List ℕ) (printable : list_all is_printable text ≡ true) where
  shown : lines_shown how text ≡ text ∷ []
  unfolding lines_shown
  shown =
      ap (λ b. if b then without_ends is_blank (map (line_shown how) (pieces text)) else map (line_shown how) (pieces text)) is.all_lines
      ∙ ap (map (line_shown how)) (one_piece text printable)
      ∙ ap (λ b. (if b then without_ends is_space text else text) ∷ []) is.whole_lines

  abbrev side : AlignmentHorizontal
  side = how.alignment_horizontal

  abbrev free : ℕ
  free = width - 2 - length text

  abbrev before : ℕ
  before = free_before side free

  abbrev after : ℕ
  after = free - before

  as_one : (b : Bool) → (if b then width_of_text text else greatest (width_of_text text ∷ [])) ≡ length text
  as_one true = printable_width text printable
  as_one false = one_greatest (width_of_text text) ∙ printable_width text printable

  parts : (aligned : ℕ) → aligned ≡ length text → line_parts how width aligned text ≡ record { before = before; after = after; fill = 32 }
  unfolding line_parts
  parts aligned long =
      let room : Sides Indent → ℕ = λ padding. width - padding.left.size - padding.right.size in
      let ahead : Sides Indent → AlignmentHorizontal → ℕ → ℕ = λ padding place wide. free_before place (room padding - wide) in
      let made : Sides Indent → AlignmentHorizontal → ℕ → ℕ → ℕ → LineParts = λ padding place character wide of_text. record {
        before = ahead padding place wide;
        after = room padding - ahead padding place wide - of_text;
        fill = fill_of character text;
      } in
      let of : ℕ → ℕ → ℕ → LineParts = λ first rest character. record { before = first; after = rest; fill = character } in
      let all : width - 1 - 1 - length text ≡ free = omega arith in
      let rest : width - 1 - 1 - before - length text ≡ after = omega arith in
      ap (λ padding. made padding how.alignment_horizontal how.justification aligned (width_of_text text)) is.padding
      ∙ ap (λ character. made first_padding side character aligned (width_of_text text)) is.spaces
      ∙ (λ i. made first_padding side 32 (long i) (printable_width text printable i))
      ∙ (λ i. of (free_before side (all i)) (width - 1 - 1 - free_before side (all i) - length text) (fill_of 32 text))
      ∙ ap (of before (width - 1 - 1 - before - length text)) (either_same _ 32)
      ∙ ap (λ n. of before n 32) rest

  spaces_around : times 1 32 ++ times before 32 ++ text ++ times after 32 ++ times 1 32 ≡ bare_text side width text
  spaces_around =
      append_assoc (times 1 32 ++ times before 32 ++ text) (times after 32) (times 1 32)
      ∙ (λ i. sym (times_both 1 before 32) i ++ text ++ sym (times_both after 1 32) i)

  line : (color : Option Texts) (colors : Coloring) (aligned : ℕ) → IsInColor color colors → aligned ≡ length text → painted_line how colors width aligned text ≡ paint color (bare_text side width text)
  unfolding painted_line
  line color colors aligned one long =
      let whole : Sides Indent → Option Texts → Option Texts → Option Texts → Option Texts → LineParts → Painted =
      λ padding left fill middle right of. paint left (times padding.left.size padding.left.fill) ++ paint fill (times of.before of.fill) ++ paint middle text ++ paint fill (times of.after of.fill)
      ++ paint right (times padding.right.size padding.right.fill) in
      (λ i. whole (is.padding i) (one.before i) (one.fill i) (one.text i) (one.after i) (parts aligned long i))
      ∙ painted_in_turn color (times 1 32) (times before 32) text (times after 32) (times 1 32)
      ∙ ap (paint color) spaces_around

  -- line 0 of it, where that many lines stand above the text
  abbrev by_place : Coloring → ℕ → Painted
  by_place colors above =
      let own = slice_index_or (text ∷ []) (0 - above) [] in
      if nat_lt 0 above then paint colors.padding.top (times width how.padding.top.fill) else
      if nat_lt (0 - above) (length (text ∷ [])) then painted_line how colors width (aligned_width how (text ∷ []) own) own else
      paint colors.padding.bottom (times width how.padding.bottom.fill)

  bare_cell : (color : Option Texts) (colors : Coloring) → IsInColor color colors → paint color (bare_text side width text) ≡ cell_line how colors width height (lines_shown how text) 0
  unfolding cell_line
  bare_cell color colors one =
      sym (ap (λ lines. cell_line how colors width height lines 0) shown
      ∙ ap (λ (padding : Sides Indent). by_place colors (padding.top.size + free_above how.alignment_vertical (height - padding.top.size - padding.bottom.size - 1))) is.padding
      ∙ ap (λ n. by_place colors (0 + free_above how.alignment_vertical (n - 0 - 0 - 1))) low
      ∙ ap (λ n. by_place colors (0 + n)) (none_above how.alignment_vertical)
      ∙ line color colors (aligned_width how (text ∷ []) text) one (as_one how.line_alignment))

  -- its characters, whatever its colors
  pub bare_plain : (colors : Coloring) → bare_text side width text ≡ plain (cell_line how colors width height (lines_shown how text) 0)
  bare_plain colors =
      sym (plain_paint None (bare_text side width text))
      ∙ ap plain (bare_cell None no_coloring (record { text = refl; fill = refl; before = refl; after = refl }))
      ∙ plain_cell how no_coloring width height (lines_shown how text) 0
      ∙ sym (plain_cell how colors width height (lines_shown how text) 0)

  -- so it is painted, with colors or without them
  pub bare_shown : (with_colors : Bool) (color : Option Texts) (colors : Coloring) → (with_colors ≡ true → IsInColor color colors)
      → colored_if with_colors (paint color (bare_text side width text)) ≡ colored_if with_colors (cell_line how colors width height (lines_shown how text) 0)
  bare_shown true color colors one = bare_cell color colors (one refl)
  bare_shown false color colors one = ap (paint None) (plain_paint color (bare_text side width text) ∙ bare_plain colors)
