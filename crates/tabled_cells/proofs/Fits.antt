-- Each line of a cell is as wide as its column, and has no line feed.
use Rattle.std.proofs.Common.{◌≡◌, ◌==◌, ℕ, ◌+◌, ◌-◌, ◌<◌, ◌≤◌, zero, suc, max, fold, Bool, true, false, if◌then◌else◌, ltb, Some, List, [], ◌∷◌, ◌++◌, map, length, get_or, take, replicate, refl, ap, subst, ◌∙◌, arith, lit<, encode_utf8, length-append}
use Rattle.std.specs.Prelude.{chars}
use Rattle.std.specs.Str.{IsUtf8}
use Rattle.std.specs.List.{All}
use Rattle.std.proofs.lemmas.Bool.{cond_both, ltb-true, eqb-true}
use Rattle.std.proofs.lemmas.List.{append_assoc, take_at, get_or_at}
use Rattle.std.proofs.lemmas.List.Elements.{All-nil, All-head, All-tail, All-append, All-map, All-pop}
use Rattle.std.proofs.lemmas.List.Sums.{AllPass-from_list_all}
use Rattle.std.proofs.lemmas.Str.{IsUtf8-take, IsUtf8-drop, IsCharBoundary-before_ascii, IsCharBoundary-after_ascii}
use Rattle.unicode_width.specs.Width.{str_width}
use Rattle.tabled_settings.specs.declared.alignment.AlignmentHorizontal.{AlignmentHorizontal}
use Rattle.tabled_settings.specs.declared.alignment.AlignmentHorizontal.TheVariants.{Left, Center, Right}
use Rattle.tabled_settings.specs.declared.cell_settings.CellSettings.{CellSettings}
use Rattle.tabled_settings.specs.declared.indent.Indent.{Indent}
use Rattle.tabled_settings.specs.declared.sides.Sides.{Sides}
use Rattle.tabled_settings.specs.Live.{value_at}
use Rattle.tabled_settings.specs.Padding.{first_padding, keeps_first_padding}
use Rattle.tabled_settings.proofs.Paddings.{no_padding_at}
use Rattle.tabled_width.specs.Narrow.{draws_plainly, is_narrow}
use Rattle.tabled_width.specs.Texts.{is_printable, pieces, width_of_text}
use Rattle.tabled_width.specs.Limited.{IsPrintableText}
use Rattle.tabled_width.proofs.Ranges.{plainly_narrow}
use Rattle.tabled_width.proofs.PieceFacts.{all_lack, all_texts}
use Rattle.tabled_width.proofs.AfterSpace.{IsUtf8-spaces, one_space, space_read, spaces_before}
use Rattle.tabled_width.proofs.Tiles.{IsOther, Lacks, Tile, Tile-append, Tile-same, Tile-space, Tile-times, Splits, Splits-append, Splits-encoded, Splits-utf8, char_lacks, narrow_other}
use Rattle.tabled_cells.specs.declared.filling.LineParts.{LineParts}
use Rattle.tabled_cells.specs.declared.placement.Placement.{Placement}
use Rattle.tabled_cells.specs.Trimmed.{without_ends, is_space, is_blank, line_shown, lines_shown}
use Rattle.tabled_cells.specs.Placements.{placement_at}
use Rattle.tabled_cells.specs.Placed.{StartsWithSpaces, padding_shown, fill_shown, line_parts, lines_above, free_before, times, filled, fill_of, greatest, aligned_width}
use Rattle.tabled_width.proofs.TimesLemmas.{times_spaces}
use Rattle.tabled_cells.proofs.Fills.{Printable, bytes_tile, fill_narrow, fill_before}
use Rattle.tabled_cells.proofs.Trimming.{ends_off}

-- ---- a line of a cell, as text

-- a line of a cell that has no text, one that has, and line n of a cell
abbrev pub empty_line : Indent → ℕ → List ℕ
empty_line side width = times width side.fill

unfoldable pub placed_line : Placement → ℕ → ℕ → List ℕ → List ℕ
placed_line how width aligned line = let parts = line_parts how width aligned line in filled how.padding parts.fill parts.before parts.after line

abbrev pub placed_at : Placement → ℕ → ℕ → List (List ℕ) → ℕ → List ℕ
placed_at how width height lines n =
    let above = lines_above how height (length lines) in
    let line = get_or lines (n - above) [] in
    if ltb n above then empty_line how.padding.top width else if ltb (n - above) (length lines) then placed_line how width (aligned_width how lines line) line else empty_line how.padding.bottom width

fold-max-start : (a : ℕ) (ns : List ℕ) → a ≤ fold max a ns
fold-max-start a [] = omega arith
fold-max-start a (n ∷ ns) = omega (arith, fold-max-start (max a n) ns)

-- no number of a list is above its greatest
pub greatest_bound : {X : Type 0} (f : X → ℕ) (a : ℕ) (xs : List X) (k : ℕ) (d : X) → k < length xs → f (get_or xs k d) ≤ fold max a (map f xs)
greatest_bound f a [] k d within = absurd (omega arith)
greatest_bound f a (x ∷ xs) zero d within = omega (arith, fold-max-start (max a (f x)) (map f xs))
greatest_bound f a (x ∷ xs) (suc k) d within = greatest_bound f (max a (f x)) xs k d (omega arith)

-- narrow characters after a text
narrow_after : (text : List ℕ) (n character : ℕ) → is_narrow character ≡ true → Splits text → width_of_text (text ++ times n character) ≡ width_of_text text + n
narrow_after text n character narrow splits = ap (str_width false) (splits (times n character)) ∙ (Tile-times n character narrow).apart (chars text)

-- ---- a line in its column

pub before_fits : (side : AlignmentHorizontal) (free : ℕ) → free_before side free ≤ free
before_fits Left free = omega arith
before_fits Center free = omega arith
before_fits Right free = omega arith

-- a line between as many columns of a character that fills it
filled_wide : (padding : Sides Indent) → StartsWithSpaces padding → (character before after : ℕ) (line : List ℕ) → IsUtf8 line
    → width_of_text (filled padding (fill_of character line) before after line) ≡ padding.left.size + before + width_of_text line + after + padding.right.size
filled_wide padding has character before after line u =
    let left : ℕ = padding.left.size in
    let right : ℕ = padding.right.size in
    let fill : ℕ = fill_of character line in
    let own_text : List ℕ = times before fill ++ line in
    let front : List ℕ = replicate left 32 ++ own_text in
    let whole : List ℕ = front ++ times after fill in
    let front_splits : Splits front = Splits-append (replicate left 32) own_text (Splits-utf8 (replicate left 32) (IsUtf8-spaces left)) (Splits-append (times before fill) line (Splits-encoded (replicate before fill)) (Splits-utf8 line u)) in
    let ends = narrow_after whole right padding.right.fill has.right (Splits-append front (times after fill) front_splits (Splits-encoded (replicate after fill))) in
    let sides = narrow_after front after fill (fill_narrow character line) front_splits in
    let first = spaces_before left own_text in
    let own = fill_before before character line in
    (λ i. width_of_text ((ap (times left) has.left ∙ times_spaces left) i ++ times before fill ++ line ++ times after fill ++ times right padding.right.fill))
    ∙ ap (λ bs. width_of_text (bs ++ times after fill ++ times right padding.right.fill)) (append_assoc (replicate left 32) (times before fill) line)
    ∙ omega (arith, ends, first, sides, own)

wide_line : (how : Placement) → StartsWithSpaces how.padding → (width aligned : ℕ) (line : List ℕ) → IsUtf8 line → width_of_text line ≤ aligned → how.padding.left.size + aligned + how.padding.right.size ≤ width
    → width_of_text (placed_line how width aligned line) ≡ width
unfolding placed_line line_parts
wide_line how has width aligned line u narrow room =
    let parts : LineParts = line_parts how width aligned line in
    let stands = before_fits how.alignment_horizontal (width - how.padding.left.size - how.padding.right.size - aligned) in
    filled_wide how.padding has how.justification parts.before parts.after line u ∙ omega (arith, stands)

-- ---- no line has a line feed

times_lack : (count character : ℕ) → (character == 10) ≡ false → Lacks (times count character)
times_lack zero character other = All-nil IsOther
times_lack (suc count) character other = All-append IsOther (encode_utf8 character) (times count character) (char_lacks character other) (times_lack count character other)

-- a padding in which no line feed is shown: one of spaces, and any as it is shown
pub record NoFeeds (padding : Sides Indent) : Type 0 where
  pub left : (padding.left.fill == 10) ≡ false
  pub right : (padding.right.fill == 10) ≡ false
  pub top : (padding.top.fill == 10) ≡ false
  pub bottom : (padding.bottom.fill == 10) ≡ false

-- what is shown of a character that fills a side is narrow, and no line feed
shown_narrow : (fill : ℕ) → is_narrow (fill_shown fill) ≡ true
shown_narrow fill = cond_both (draws_plainly fill) fill 32 (λ character. is_narrow character ≡ true) (plainly_narrow fill) (λ _. refl)

-- a padding of narrow characters, as what is shown of any is
pub record IsNarrowPadding (padding : Sides Indent) : Type 0 where
  pub left : is_narrow padding.left.fill ≡ true
  pub right : is_narrow padding.right.fill ≡ true
  pub top : is_narrow padding.top.fill ≡ true
  pub bottom : is_narrow padding.bottom.fill ≡ true

pub narrow_padding : (settings : CellSettings) (r c : ℕ) → IsNarrowPadding (placement_at settings r c).padding
unfolding placement_at
narrow_padding settings r c =
    let set = value_at settings.padding (record { row = r; col = c }) in
    record { left = shown_narrow set.left.fill; right = shown_narrow set.right.fill; top = shown_narrow set.top.fill; bottom = shown_narrow set.bottom.fill }

narrow_lack : (padding : Sides Indent) → IsNarrowPadding padding → NoFeeds padding
narrow_lack padding narrow = record {
  left = narrow_other padding.left.fill narrow.left;
  right = narrow_other padding.right.fill narrow.right;
  top = narrow_other padding.top.fill narrow.top;
  bottom = narrow_other padding.bottom.fill narrow.bottom;
}

pub settings_lack : (settings : CellSettings) (r c : ℕ) → NoFeeds (placement_at settings r c).padding
settings_lack settings r c = narrow_lack (placement_at settings r c).padding (narrow_padding settings r c)

spaces_narrow : (padding : Sides Indent) → StartsWithSpaces padding → IsNarrowPadding padding
spaces_narrow padding has = record { left = ap is_narrow has.left; right = has.right; top = has.top; bottom = has.bottom }

-- what holds of the parts of a line, and of two texts in a row, holds of the line
filled_by : (P : List ℕ → Type 0) → ((xs ys : List ℕ) → P xs → P ys → P (xs ++ ys)) → (padding : Sides Indent) (character before after : ℕ) (line : List ℕ) → P (times padding.left.size padding.left.fill) → P (times before character) → P line
    → P (times after character) → P (times padding.right.size padding.right.fill) → P (filled padding character before after line)
filled_by P both padding character before after line first start own end last = both _ _ (both _ _ (both _ _ (both _ _ first start) own) end) last

placed_lacks : (how : Placement) → NoFeeds how.padding → (width aligned : ℕ) (line : List ℕ) → Lacks line → Lacks (placed_line how width aligned line)
unfolding placed_line line_parts
placed_lacks how none width aligned line lack =
    let parts : LineParts = line_parts how width aligned line in
    let other = narrow_other parts.fill (fill_narrow how.justification line) in
    filled_by Lacks (All-append IsOther) how.padding parts.fill parts.before parts.after line (times_lack how.padding.left.size how.padding.left.fill none.left) (times_lack parts.before parts.fill other) lack
    (times_lack parts.after parts.fill other) (times_lack how.padding.right.size how.padding.right.fill none.right)

-- a line that begins with a space joins nothing before it
line_tile : (how : Placement) → StartsWithSpaces how.padding → 1 ≤ how.padding.left.size → (width aligned : ℕ) (line : List ℕ) → IsUtf8 line → width_of_text (placed_line how width aligned line) ≡ width
    → Lacks (placed_line how width aligned line) → Tile width (placed_line how width aligned line)
unfolding placed_line line_parts
line_tile how has some width aligned line u wide lacks =
    let parts : LineParts = line_parts how width aligned line in
    let left : ℕ = how.padding.left.size in
    let right : ℕ = how.padding.right.size in
    let size : left ≡ suc (left - 1) = omega arith in
    let begins = ap (λ first. first ++ times parts.before parts.fill ++ line ++ times parts.after parts.fill ++ times right how.padding.right.fill)
    (ap (times left) has.left ∙ times_spaces left ∙ ap (λ n. replicate n 32) size) in
    let splits : Splits (placed_line how width aligned line) = filled_by Splits Splits-append how.padding parts.fill parts.before parts.after line (Splits-encoded (replicate left how.padding.left.fill)) (Splits-encoded (replicate parts.before parts.fill))
    (Splits-utf8 line u) (Splits-encoded (replicate parts.after parts.fill)) (Splits-encoded (replicate right how.padding.right.fill)) in
    Tile-space width (placed_line how width aligned line) _ (ap chars begins ∙ space_read _) splits wide lacks

-- where no padding is set, a cell has the first one
pub padding_unset : (settings : CellSettings) (r c : ℕ) → keeps_first_padding settings.padding ≡ true → (placement_at settings r c).padding ≡ first_padding
unfolding placement_at
padding_unset settings r c is = ap padding_shown (no_padding_at settings.padding (record { row = r; col = c }) is)

-- the padding of a cell starts with spaces where these are at its left
pub starts_with_spaces : (settings : CellSettings) (r c : ℕ) → (placement_at settings r c).padding.left.fill ≡ 32 → StartsWithSpaces (placement_at settings r c).padding
starts_with_spaces settings r c spaces = let narrow = narrow_padding settings r c in record { left = spaces; right = narrow.right; top = narrow.top; bottom = narrow.bottom }

-- ---- what is trimmed of lines

-- a line as it may stand in a column
record Good (most : ℕ) (line : List ℕ) : Type 0 where
  utf8 : IsUtf8 line
  narrow : width_of_text line ≤ most

space_off : (most : ℕ) (b : ℕ) (bs : List ℕ) → (b == 32) ≡ true → Good most (b ∷ bs) → Good most bs
space_off most b bs is good =
    let same : b ≡ 32 = eqb-true b 32 is in
    let spaced : Good most (32 ∷ bs) = subst (λ n. Good most (n ∷ bs)) same good in
    record {
      utf8 = IsUtf8-drop (32 ∷ bs) 1 spaced.utf8 (IsCharBoundary-after_ascii (32 ∷ bs) 0 spaced.utf8 (omega arith) (lit< tt));
      narrow = let one = one_space bs in omega (arith, one, spaced.narrow);
    }

last_off : (most : ℕ) (front : List ℕ) → Good most (front ++ 32 ∷ []) → Good most front
last_off most front good =
    let at : get_or (front ++ 32 ∷ []) (length front) 0 ≡ 32 = get_or_at front 32 [] 0 (length front) refl in
    let long : length (front ++ 32 ∷ []) ≡ length front + 1 = length-append front (32 ∷ []) in
    let cut : take (length front) (front ++ 32 ∷ []) ≡ front = take_at front (32 ∷ []) (length front) refl in
    let text : IsUtf8 front = subst IsUtf8 cut (IsUtf8-take (front ++ 32 ∷ []) (length front) good.utf8 (IsCharBoundary-before_ascii (front ++ 32 ∷ []) (length front) (omega arith) (omega (arith, at)))) in
    record {
      utf8 = text;
      narrow = let one = narrow_after front 1 32 refl (Splits-utf8 front text) in omega (arith, ap (λ end. width_of_text (front ++ end)) (times_spaces 1), one, good.narrow);
    }

trimmed_good : (most : ℕ) (line : List ℕ) → Good most line → Good most (without_ends is_space line)
trimmed_good most line good = ends_off (Good most) is_space (space_off most) (λ b front is whole. last_off most front (subst (λ n. Good most (front ++ n ∷ [])) (eqb-true b 32 is) whole)) line good

All-without_ends : {A : Type 0} (P : A → Type 0) (test : A → Bool) (xs : List A) → All P xs → All P (without_ends test xs)
All-without_ends P test xs all = ends_off (All P) test (λ x xs _. All-tail P x xs) (λ x xs _ whole. (All-pop P (xs ++ x ∷ []) xs (Some x) refl whole).0) xs all

-- what holds of each line of a text, and of a line that is trimmed, holds of the lines that are shown
shown_all : (P : List ℕ → Type 0) (how : Placement) (text : List ℕ) → ((line : List ℕ) → P line → P (without_ends is_space line)) → All P (pieces text) → All P (lines_shown how text)
unfolding lines_shown
shown_all P how text trimmed all =
    let lines : List (List ℕ) = map (line_shown how) (pieces text) in
    let each : All P lines = All-map P (line_shown how) (pieces text) (λ k d within.
    (let line : List ℕ = get_or (pieces text) k d in cond_both how.trim_horizontal (without_ends is_space line) line P (λ _. trimmed line (all k d within)) (λ _. all k d within))) in
    cond_both how.trim_vertical (without_ends is_blank lines) lines (All P) (λ _. All-without_ends P is_blank lines each) (λ _. each)

-- the lines of a text that are shown may stand in a column as wide as its widest line
shown_good : (how : Placement) (text : List ℕ) → IsUtf8 text → All (Good (greatest (map width_of_text (pieces text)))) (lines_shown how text)
shown_good how text u =
    let most : ℕ = greatest (map width_of_text (pieces text)) in
    shown_all (Good most) how text (trimmed_good most) (λ k d within. record { utf8 = all_texts 10 (lit< tt) text u k d within; narrow = greatest_bound width_of_text 0 (pieces text) k d within })

-- the widest of lines that may stand in a column may
widest_narrow : (most start : ℕ) (lines : List (List ℕ)) → start ≤ most → All (Good most) lines → fold max start (map width_of_text lines) ≤ most
widest_narrow most start [] small all = small
widest_narrow most start (line ∷ lines) small all =
    let here : width_of_text line ≤ most = (All-head (Good most) line lines all).narrow in
    widest_narrow most (max start (width_of_text line)) lines (omega arith) (All-tail (Good most) line lines all)

-- ---- lines of printable ASCII

printable_shown : (how : Placement) (text : List ℕ) → IsPrintableText text → All Printable (lines_shown how text)
printable_shown how text printable =
    shown_all Printable how text (All-without_ends (λ byte. is_printable byte ≡ true) is_space) (λ k d within. AllPass-from_list_all is_printable (get_or (pieces text) k d) (printable k d within))

narrow_line : (how : Placement) → IsNarrowPadding how.padding → (width aligned : ℕ) (line : List ℕ) → Printable line → width_of_text line ≤ aligned
    → how.padding.left.size + aligned + how.padding.right.size ≤ width → Tile width (placed_line how width aligned line)
unfolding placed_line line_parts
narrow_line how sides width aligned line printable less room =
    let left : ℕ = how.padding.left.size in
    let right : ℕ = how.padding.right.size in
    let parts : LineParts = line_parts how width aligned line in
    let filling : is_narrow parts.fill ≡ true = fill_narrow how.justification line in
    let own = bytes_tile line printable in
    let stands = before_fits how.alignment_horizontal (width - left - right - aligned) in
    let long = own.wide in
    Tile-same (left + parts.before + length line + parts.after + right) width _ (omega (arith, stands, long, less, room))
    (Tile-append (left + parts.before + length line + parts.after) right _ _
    (Tile-append (left + parts.before + length line) parts.after _ _
    (Tile-append (left + parts.before) (length line) _ _
    (Tile-append left parts.before _ _ (Tile-times left how.padding.left.fill sides.left) (Tile-times parts.before parts.fill filling)) own) (Tile-times parts.after parts.fill filling))
    (Tile-times right how.padding.right.fill sides.right))

-- ---- a cell

-- the lines that are shown have no line feed
shown_lacks : (how : Placement) (text : List ℕ) → All Lacks (lines_shown how text)
shown_lacks how text = shown_all Lacks how text (All-without_ends IsOther is_space) (all_lack 10 text)

module _ (how : Placement) (width height : ℕ) (text : List ℕ) (n : ℕ) where
  abbrev shown : List (List ℕ)
  shown = lines_shown how text

  abbrev above : ℕ
  above = lines_above how height (length (lines_shown how text))

  abbrev line : List ℕ
  line = get_or (lines_shown how text) (n - above) []

  -- what holds of an empty line, and of one that has text, holds of a line of the cell
  by_place : (P : List ℕ → Type 0) → P (empty_line how.padding.top width) → P (empty_line how.padding.bottom width) → (n - above < length shown → P (placed_line how width (aligned_width how shown line) line))
      → P (placed_at how width height shown n)
  by_place P first last own =
      cond_both (ltb n above) _ _ P (λ _. first) (λ _. cond_both (ltb (n - above) (length shown)) _ _ P (λ within. own (ltb-true (n - above) (length shown) within)) (λ _. last))

  -- a line of a cell has no line feed
  pub placed_at_lacks : NoFeeds how.padding → Lacks (placed_at how width height (lines_shown how text) n)
  placed_at_lacks none =
      by_place Lacks (times_lack width how.padding.top.fill none.top) (times_lack width how.padding.bottom.fill none.bottom)
      (λ within. placed_lacks how none width (aligned_width how shown line) line (shown_lacks how text (n - above) [] within))

  -- what is aligned is at least as wide as the line, and no wider than the text
  aligned_fits : IsUtf8 text → n - above < length shown → (width_of_text line ≤ aligned_width how shown line) × (aligned_width how shown line ≤ greatest (map width_of_text (pieces text)))
  aligned_fits u within =
      let most : ℕ = greatest (map width_of_text (pieces text)) in
      let widest : ℕ = greatest (map width_of_text shown) in
      let own : width_of_text line ≤ widest = greatest_bound width_of_text 0 shown (n - above) [] within in
      let narrow : width_of_text line ≤ most = (shown_good how text u (n - above) [] within).narrow in
      cond_both how.line_alignment (width_of_text line) widest (λ aligned. (width_of_text line ≤ aligned) × (aligned ≤ most)) (λ _. (omega arith, narrow))
      (λ _. (own, widest_narrow most 0 shown (omega arith) (shown_good how text u)))

  module _ (has : StartsWithSpaces how.padding) (u : IsUtf8 text) (room : how.padding.left.size + greatest (map width_of_text (pieces text)) + how.padding.right.size ≤ width) where
    text_wide : n - above < length shown → width_of_text (placed_line how width (aligned_width how shown line) line) ≡ width
    text_wide within =
        let fits = aligned_fits u within in
        wide_line how has width (aligned_width how shown line) line (shown_good how text u (n - above) [] within).utf8 fits.0 (omega (arith, fits.1))

    -- a line of a cell is as wide as its column, where that leaves room for the text
    pub placed_at_wide : width_of_text (placed_at how width height (lines_shown how text) n) ≡ width
    placed_at_wide =
        by_place (λ shown. width_of_text shown ≡ width) (Tile-times width how.padding.top.fill has.top).wide (Tile-times width how.padding.bottom.fill has.bottom).wide text_wide

    -- where it begins with a space it is a tile of its column: whatever stands before it, it is as wide as that
    pub placed_at_tile : 1 ≤ how.padding.left.size → Tile width (placed_at how width height (lines_shown how text) n)
    placed_at_tile some =
        by_place (Tile width) (Tile-times width how.padding.top.fill has.top) (Tile-times width how.padding.bottom.fill has.bottom)
        (λ within.
        line_tile how has some width (aligned_width how shown line) line (shown_good how text u (n - above) [] within).utf8 (text_wide within)
        (placed_lacks how (narrow_lack how.padding (spaces_narrow how.padding has)) width (aligned_width how shown line) line (shown_lacks how text (n - above) [] within)))

  -- a cell of printable ASCII between narrow characters is a tile too, also without any padding
  module _ (sides : IsNarrowPadding how.padding) (fill : is_narrow how.justification ≡ true) (u : IsUtf8 text) (printable : IsPrintableText text)
      (room : how.padding.left.size + greatest (map width_of_text (pieces text)) + how.padding.right.size ≤ width) where
    pub printable_tile : Tile width (placed_at how width height (lines_shown how text) n)
    printable_tile =
        by_place (Tile width) (Tile-times width how.padding.top.fill sides.top) (Tile-times width how.padding.bottom.fill sides.bottom)
        (λ within.
        (let fits = aligned_fits u within in
        narrow_line how sides width (aligned_width how shown line) line (printable_shown how text printable (n - above) [] within) fits.0 (omega (arith, fits.1))))
