-- Rows of a line of printable ASCII, of which each byte is a cluster of one column.
use Rattle.std.proofs.Common.{◌≡◌, ◌==◌, ℕ, ◌+◌, ◌-◌, ◌<◌, ◌≤◌, zero, suc, max, min, ⊎_elim, nat_le, Bool, true, false, ◌&&◌, ◌||◌, unwrap_or, lit<, if◌then◌else◌, Some, List, [], ◌∷◌, ◌++◌, map, length, take, drop, slice_range, encode_utf8, chars, encode_utf8_all, refl, sym, ap, ◌∙◌, arith, append_assoc, append-nil, length-append}
use Rattle.std.specs.List.{All, list_all, list_any, join_with_byte}
use Rattle.std.specs.Int.{is_in_range}
use Rattle.std.proofs.lemmas.Bool.{and_parts, cases_lt, le-leb, lt-leb}
use Rattle.std.proofs.lemmas.Bool.Decides.{nat_tests}
use Rattle.std.proofs.lemmas.List.{take_all}
use Rattle.std.proofs.lemmas.List.Elements.{All-nil, All-cons, All-same}
use Rattle.std.proofs.lemmas.List.Folds.{list_all-append}
use Rattle.std.proofs.lemmas.Str.{encode_ascii, chars-IsAscii}
use Rattle.unicode_width.specs.Width.{char_width}
use Rattle.tabled_width.specs.Texts.{begins_with, fits, is_printable, width_of_text}
use Rattle.tabled_width.specs.Marks.{spacing_marks, is_near_marks, is_spacing_mark}
use Rattle.tabled_width.specs.Clusters.{takes_none, is_skin_tone, is_indicator, belongs, grouped, clusters_of, clusters}
use Rattle.tabled_width.specs.CutOff.{beginning}
use Rattle.tabled_width.specs.Rows.{close, rows}
use Rattle.tabled_width.proofs.Printing.{below_128, printable_ascii, printable_width}
use Rattle.tabled_width.proofs.Prefixes.{width_before}
use Rattle.tabled_width.proofs.Filling.{step_fits, step_full, step_end, some_rows, before_some}

-- each byte by itself
abbrev pub singles : List ℕ → List (List ℕ)
singles bytes = map (λ byte. byte ∷ []) bytes

-- ---- the clusters are the bytes

one_column : (c : ℕ) → is_printable c ≡ true → char_width false c ≡ Some 1
unfolding char_width
one_column c is = grind (arith, nat_tests)

takes_one : (c : ℕ) → is_printable c ≡ true → takes_none c ≡ false
takes_one c is = ap (λ width. unwrap_or width 1 == 0) (one_column c is)

no_skin_tone : (c : ℕ) → is_printable c ≡ true → is_skin_tone c ≡ false
no_skin_tone c is = grind (arith, nat_tests)

no_indicator : (c : ℕ) → is_printable c ≡ true → is_indicator c ≡ false
no_indicator c is = grind (arith, nat_tests)

no_joiner : (c : ℕ) → is_printable c ≡ true → (c == 0x200D) ≡ false
no_joiner c is = grind (arith, nat_tests)

no_mark_near : (c : ℕ) → is_printable c ≡ true → is_near_marks c ≡ false
no_mark_near c is = grind (arith, nat_tests)

no_spacing_mark : (c : ℕ) → is_printable c ≡ true → is_spacing_mark c ≡ false
unfolding is_spacing_mark
no_spacing_mark c is = ap (λ near. near && list_any (λ pair. is_in_range pair.0 pair.1 c) spacing_marks) (no_mark_near c is)

stands_alone : (a c : ℕ) → is_printable a ≡ true → is_printable c ≡ true → belongs (a ∷ []) c ≡ false
unfolding belongs
stands_alone a c first is =
    ap (λ none. none || is_skin_tone c || (a == 0x200D) || (is_indicator a && is_indicator c) || is_spacing_mark c) (takes_one c is)
    ∙ ap (λ tone. tone || (a == 0x200D) || (is_indicator a && is_indicator c) || is_spacing_mark c) (no_skin_tone c is)
    ∙ ap (λ joiner. joiner || (is_indicator a && is_indicator c) || is_spacing_mark c) (no_joiner a first)
    ∙ ap (λ half. (half && is_indicator c) || is_spacing_mark c) (no_indicator a first)
    ∙ no_spacing_mark c is

grouped_singles : (b : ℕ) (bs : List ℕ) → list_all is_printable (b ∷ bs) ≡ true → grouped (b ∷ []) bs ≡ singles (b ∷ bs)
unfolding grouped
grouped_singles b [] printable = refl
grouped_singles b (c ∷ bs) printable =
    let here = and_parts (is_printable b) (list_all is_printable (c ∷ bs)) printable in
    let next = and_parts (is_printable c) (list_all is_printable bs) here.1 in
    ap (λ t. if t then grouped (b ∷ c ∷ []) bs else (b ∷ []) ∷ grouped (c ∷ []) bs) (stands_alone b c here.0 next.0)
    ∙ ap (λ us. (b ∷ []) ∷ us) (grouped_singles c bs here.1)

groups_singles : (bs : List ℕ) → list_all is_printable bs ≡ true → clusters_of bs ≡ singles bs
groups_singles [] printable = refl
groups_singles (b ∷ bs) printable = grouped_singles b bs printable

encoded_singles : (bs : List ℕ) → list_all is_printable bs ≡ true → map encode_utf8_all (singles bs) ≡ singles bs
encoded_singles [] printable = refl
encoded_singles (b ∷ bs) printable =
    let here = and_parts (is_printable b) (list_all is_printable bs) printable in
    ap (λ u. u ∷ map encode_utf8_all (singles bs)) (append-nil (encode_utf8 b) ∙ encode_ascii b (below_128 b here.0))
    ∙ ap (λ us. (b ∷ []) ∷ us) (encoded_singles bs here.1)

pub clusters_printable : (line : List ℕ) → list_all is_printable line ≡ true → clusters line ≡ singles line
unfolding clusters
clusters_printable line printable =
    ap (λ cs. map encode_utf8_all (clusters_of cs)) (chars-IsAscii line (printable_ascii line printable))
    ∙ ap (map encode_utf8_all) (groups_singles line printable)
    ∙ encoded_singles line printable

-- ---- as many bytes on a row as there are columns

fits_printable : (width : ℕ) (row : List ℕ) → list_all is_printable row ≡ true → fits width row ≡ nat_le (length row) width
fits_printable width row printable = ap (λ n. nat_le n width) (printable_width row printable)

more_printable : (row : List ℕ) (b : ℕ) → list_all is_printable row ≡ true → is_printable b ≡ true → list_all is_printable (row ++ b ∷ []) ≡ true
more_printable row b here next =
    list_all-append is_printable row (b ∷ []) ∙ ap (λ t. t && (is_printable b && true)) here ∙ ap (λ t. t && true) next

has_room : (width : ℕ) (row : List ℕ) (b : ℕ) → list_all is_printable row ≡ true → is_printable b ≡ true → length row + 1 ≤ width → fits width (row ++ b ∷ []) ≡ true
has_room width row b here next room =
    let size : length (row ++ b ∷ []) ≤ width = omega (arith, length-append row (b ∷ [])) in
    fits_printable width (row ++ b ∷ []) (more_printable row b here next) ∙ le-leb (length (row ++ b ∷ [])) width size

is_full : (width : ℕ) (row : List ℕ) (b : ℕ) → list_all is_printable row ≡ true → is_printable b ≡ true → width ≤ length row → fits width (row ++ b ∷ []) ≡ false
is_full width row b here next full =
    let size : width < length (row ++ b ∷ []) = omega (arith, length-append row (b ∷ [])) in
    fits_printable width (row ++ b ∷ []) (more_printable row b here next) ∙ lt-leb (length (row ++ b ∷ [])) width size

-- an empty row takes the first byte, whether it fits or not
takes_first : (width b : ℕ) (us : List (List ℕ)) → rows width [] (map close ((b ∷ []) ∷ us)) ≡ rows width (b ∷ []) (map close us)
takes_first width b us = by (fits width (b ∷ [])) refl
  where
    by : (t : Bool) → fits width (b ∷ []) ≡ t → rows width [] (map close ((b ∷ []) ∷ us)) ≡ rows width (b ∷ []) (map close us)
    by true e = step_fits width [] (close (b ∷ [])) (map close us) e
    by false e = step_full width [] (close (b ∷ [])) (map close us) e

pub dropped_printable : (n : ℕ) (bs : List ℕ) → list_all is_printable bs ≡ true → list_all is_printable (drop n bs) ≡ true
dropped_printable zero bs printable = printable
dropped_printable (suc n) [] printable = printable
dropped_printable (suc n) (b ∷ bs) printable = dropped_printable n bs (and_parts (is_printable b) (list_all is_printable bs) printable).1

module _ (width : ℕ) where
  -- a row on which there is room for so many bytes, before more of them
  fill : (n : ℕ) (row bs : List ℕ) → list_all is_printable row ≡ true → list_all is_printable bs ≡ true → 0 < length row → length row + n ≡ max width 1 → n < length bs
      → rows width row (map close (singles bs)) ≡ (row ++ take n bs) ∷ rows width [] (map close (singles (drop n bs)))
  fill n row [] here rest some room more = absurd (omega arith)
  fill zero row (b ∷ bs) here rest some room more =
      let parts = and_parts (is_printable b) (list_all is_printable bs) rest in
      step_full width row (close (b ∷ [])) (map close (singles bs)) (is_full width row b here parts.0 (omega (arith, room)))
      ∙ before_some row (rows width (b ∷ []) (map close (singles bs))) some
      ∙ ap (λ r. r ∷ rows width (b ∷ []) (map close (singles bs))) (sym (append-nil row))
      ∙ ap (λ rs. (row ++ []) ∷ rs) (sym (takes_first width b (singles bs)))
  fill (suc n) row (b ∷ bs) here rest some room more =
      let parts = and_parts (is_printable b) (list_all is_printable bs) rest in
      let size : length (row ++ b ∷ []) ≡ length row + 1 = length-append row (b ∷ []) in
      step_fits width row (close (b ∷ [])) (map close (singles bs)) (has_room width row b here parts.0 (omega (arith, room, some)))
      ∙ fill n (row ++ b ∷ []) bs (more_printable row b here parts.0) parts.1 (omega (arith, size)) (omega (arith, size, room)) (omega (arith, more))
      ∙ ap (λ r. r ∷ rows width [] (map close (singles (drop n bs)))) (append_assoc row (b ∷ []) (take n bs))

  -- a row on which there is room for all
  fill_all : (row bs : List ℕ) → list_all is_printable row ≡ true → list_all is_printable bs ≡ true → 0 < length row → length row + length bs ≤ max width 1
      → rows width row (map close (singles bs)) ≡ (row ++ bs) ∷ []
  fill_all row [] here rest some room = step_end width row ∙ ap (λ r. r ∷ []) (sym (append-nil row))
  fill_all row (b ∷ bs) here rest some room =
      let parts = and_parts (is_printable b) (list_all is_printable bs) rest in
      let size : length (row ++ b ∷ []) ≡ length row + 1 = length-append row (b ∷ []) in
      step_fits width row (close (b ∷ [])) (map close (singles bs)) (has_room width row b here parts.0 (omega (arith, room, some)))
      ∙ fill_all (row ++ b ∷ []) bs (more_printable row b here parts.0) parts.1 (omega (arith, size)) (omega (arith, size, room))
      ∙ ap (λ r. r ∷ []) (append_assoc row (b ∷ []) bs)

  next_row : (n : ℕ) (bs : List ℕ) → list_all is_printable bs ≡ true → suc n ≡ max width 1 → suc n < length bs
      → rows width [] (map close (singles bs)) ≡ take (suc n) bs ∷ rows width [] (map close (singles (drop (suc n) bs)))
  next_row n [] printable count more = absurd (omega arith)
  next_row n (b ∷ bs) printable count more =
      let parts = and_parts (is_printable b) (list_all is_printable bs) printable in
      takes_first width b (singles bs)
      ∙ fill n (b ∷ []) bs (ap (λ t. t && true) parts.0) parts.1 (omega arith) (omega (arith, count)) (omega (arith, more))

  last_row : (bs : List ℕ) → list_all is_printable bs ≡ true → length bs ≤ max width 1 → rows width [] (map close (singles bs)) ≡ bs ∷ []
  last_row [] printable few = step_end width []
  last_row (b ∷ bs) printable few =
      let parts = and_parts (is_printable b) (list_all is_printable bs) printable in
      takes_first width b (singles bs)
      ∙ fill_all (b ∷ []) bs (ap (λ t. t && true) parts.0) parts.1 (omega arith) (omega (arith, few))

  some_rows_of : (bs : List ℕ) → (first : List ℕ) × (more : List (List ℕ)) × (rows width [] (map close (clusters bs)) ≡ first ∷ more)
  some_rows_of bs = some_rows width [] (map close (clusters bs))

  -- what is written after one row more
  row_by : (n : ℕ) (written fed ended goal rest : List ℕ) → suc n ≡ max width 1 → suc n < length rest → list_all is_printable rest ≡ true
      → fed ≡ written ++ take (suc n) rest → ended ≡ fed ++ encode_utf8 10
      → written ++ join_with_byte 10 (rows width [] (map close (clusters rest))) ≡ goal
      → ended ++ join_with_byte 10 (rows width [] (map close (clusters (drop (suc n) rest)))) ≡ goal
  row_by n written fed ended goal rest one more printable is end so_far =
      let left = drop (suc n) rest in
      let next = some_rows_of left in
      let tail : List ℕ = join_with_byte 10 (next.0 ∷ next.1) in
      ap (λ rs. ended ++ join_with_byte 10 rs) next.2
      ∙ ap (λ bs. bs ++ tail) (end ∙ ap (λ bs. fed ++ bs) (encode_ascii 10 (lit< tt)) ∙ ap (λ bs. bs ++ 10 ∷ []) is)
      ∙ append_assoc (written ++ take (suc n) rest) (10 ∷ []) tail ∙ append_assoc written (take (suc n) rest) (10 ∷ tail)
      ∙ ap (λ rs. written ++ join_with_byte 10 (take (suc n) rest ∷ rs)) (sym next.2)
      ∙ ap (λ us. written ++ join_with_byte 10 (take (suc n) rest ∷ rows width [] (map close us))) (clusters_printable left (dropped_printable (suc n) rest printable))
      ∙ ap (λ rs. written ++ join_with_byte 10 rs) (sym (next_row n rest printable one more))
      ∙ ap (λ us. written ++ join_with_byte 10 (rows width [] (map close us))) (sym (clusters_printable rest printable))
      ∙ so_far

  pub row_more : (written row fed ended goal rest left : List ℕ) (count : ℕ) → count ≡ max width 1 → count < length rest → list_all is_printable rest ≡ true
      → row ≡ slice_range rest 0 count → left ≡ drop count rest → fed ≡ written ++ row → ended ≡ fed ++ encode_utf8 10
      → written ++ join_with_byte 10 (rows width [] (map close (clusters rest))) ≡ goal
      → ended ++ join_with_byte 10 (rows width [] (map close (clusters left))) ≡ goal
  row_more written row fed ended goal rest left zero one more printable front back is end so_far = absurd (omega (arith, one))
  row_more written row fed ended goal rest left (suc n) one more printable front back is end so_far =
      let same : suc n - 0 ≡ suc n = omega arith in
      ap (λ bs. ended ++ join_with_byte 10 (rows width [] (map close (clusters bs)))) back
      ∙ row_by n written fed ended goal rest one more printable (is ∙ ap (λ bs. written ++ bs) (front ∙ ap (λ k. take k rest) same)) end so_far

  pub row_last : (written out goal rest : List ℕ) → length rest ≤ max width 1 → list_all is_printable rest ≡ true → out ≡ written ++ rest
      → written ++ join_with_byte 10 (rows width [] (map close (clusters rest))) ≡ goal → out ≡ goal
  row_last written out goal rest few printable is so_far =
      is ∙ ap (λ rs. written ++ join_with_byte 10 rs) (sym (last_row rest printable few))
      ∙ ap (λ us. written ++ join_with_byte 10 (rows width [] (map close us))) (sym (clusters_printable rest printable))
      ∙ so_far

-- ---- as many bytes before a suffix as it leaves columns

-- whether one byte more fits
fits_before : (width : ℕ) (shown taken : List ℕ) (b : ℕ) → begins_with 0xFE0F (chars shown) ≡ false → list_all is_printable taken ≡ true → is_printable b ≡ true
    → fits width ((taken ++ b ∷ []) ++ shown) ≡ nat_le (length taken + 1 + width_of_text shown) width
fits_before width shown taken b apart here next =
    ap (λ n. nat_le n width) (width_before (taken ++ b ∷ []) shown (more_printable taken b here next) apart ∙ ap (λ n. n + width_of_text shown) (length-append taken (b ∷ [])))

take_least : (n m : ℕ) (line : List ℕ) → n ≡ length line → take (min n m) line ≡ take m line
take_least n m line is =
    ⊎_elim
    (λ (short : m < n). ap (λ k. take k line) (omega arith))
    (λ (long : n ≤ m). take_all (min n m) line (omega (arith, is)) ∙ sym (take_all m line (omega (arith, is))))
    (cases_lt m n)

-- a beginning with so many columns left
begin_bytes : (width n : ℕ) (shown taken bs : List ℕ) → begins_with 0xFE0F (chars shown) ≡ false → list_all is_printable taken ≡ true → list_all is_printable bs ≡ true
    → n ≡ width - (length taken + width_of_text shown) → beginning width shown taken (singles bs) ≡ taken ++ take n bs
unfolding beginning
begin_bytes width n shown taken [] apart here rest room = sym (append-nil taken) ∙ ap (λ more. taken ++ more) (take_none n)
  where
    take_none : (n : ℕ) → [] ≡ take {A = ℕ} n []
    take_none zero = refl
    take_none (suc n) = refl
begin_bytes width zero shown taken (b ∷ bs) apart here rest room =
    let parts = and_parts (is_printable b) (list_all is_printable bs) rest in
    ap (λ t. if t then beginning width shown (taken ++ b ∷ []) (singles bs) else taken)
    (fits_before width shown taken b apart here parts.0 ∙ lt-leb (length taken + 1 + width_of_text shown) width (omega (arith, room)))
    ∙ sym (append-nil taken)
begin_bytes width (suc n) shown taken (b ∷ bs) apart here rest room =
    let parts = and_parts (is_printable b) (list_all is_printable bs) rest in
    ap (λ t. if t then beginning width shown (taken ++ b ∷ []) (singles bs) else taken)
    (fits_before width shown taken b apart here parts.0 ∙ le-leb (length taken + 1 + width_of_text shown) width (omega (arith, room)))
    ∙ begin_bytes width n shown (taken ++ b ∷ []) bs apart (more_printable taken b here parts.0) parts.1 (omega (arith, room, length-append taken (b ∷ [])))
    ∙ append_assoc taken (b ∷ []) (take n bs)

pub begin_printable : (width count : ℕ) (shown line front : List ℕ) → begins_with 0xFE0F (chars shown) ≡ false → list_all is_printable line ≡ true
    → count ≡ min (length line) (width - width_of_text shown) → front ≡ slice_range line 0 count → front ≡ beginning width shown [] (clusters line)
begin_printable width count shown line front apart printable is cut =
    let same : count - 0 ≡ count = omega arith in
    cut ∙ ap (λ n. take n line) (same ∙ is) ∙ take_least (length line) (width - width_of_text shown) line refl
    ∙ sym (begin_bytes width (width - width_of_text shown) shown [] line apart refl printable (omega arith))
    ∙ ap (beginning width shown []) (sym (clusters_printable line printable))

-- each cluster of a line of printable ASCII fits a row of a column
pub each_fits : (width : ℕ) (line : List ℕ) → 1 ≤ width → list_all is_printable line ≡ true → All (λ cluster. fits width cluster ≡ true) (clusters line)
each_fits width line some printable = All-same (λ cluster. fits width cluster ≡ true) (clusters line) (singles line) (clusters_printable line printable) (singles_fit line printable)
  where
    singles_fit : (bs : List ℕ) → list_all is_printable bs ≡ true → All (λ cluster. fits width cluster ≡ true) (singles bs)
    singles_fit [] h = All-nil (λ cluster. fits width cluster ≡ true)
    singles_fit (b ∷ bs) h =
        let parts = and_parts (is_printable b) (list_all is_printable bs) h in
        All-cons (λ cluster. fits width cluster ≡ true) (b ∷ []) (singles bs) (has_room width [] b refl parts.0 (omega (arith, some))) (singles_fit bs parts.1)
