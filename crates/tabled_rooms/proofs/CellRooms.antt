-- Each cell that is shown has the room that it asks for.
use Rattle.std.proofs.Common.{◌≡◌, ℕ, zero, suc, ◌+◌, ◌-◌, ◌<◌, ◌≤◌, ◌==◌, ◌&&◌, not, max, Bool, true, false, nat_lt, if◌then◌else◌, Some, List, [], ◌∷◌, ◌++◌, map, fold, length, slice_index, inl, inr, refl, sym, ap, subst, ◌∙◌, arith, add-one}
use Rattle.std.specs.List.{sum_by, flat_map, range_with_len, All}
use Rattle.std.proofs.lemmas.Bool.{cases_eq}
use Rattle.std.proofs.lemmas.Bool.Decides.{nat_tests}
use Rattle.std.proofs.lemmas.List.Elements.{All-head}
use Rattle.std.proofs.lemmas.List.FromFn.{get_or-map-range_with_len, length-map-range_with_len}
use Rattle.tabled_rooms.specs.declared.growing.Ask.{Ask}
use Rattle.tabled_rooms.specs.Growing.{is_over, size_part, room_over, grown_for, grown, over_count}
use Rattle.tabled_rooms.specs.Hosts.{Cell, Counts, from_above, from_left, host}
use Rattle.tabled_rooms.specs.Rooms.{one_if, room_width}
use Rattle.tabled_rooms.specs.Sizes.{below, greatest, is_shown, is_own, columns_taken, column_count, row_count, alone, over_several, own_width, over_columns, spanned_widths, own_height, over_rows, spanned_heights}
use Rattle.tabled_rooms.proofs.LawLemmas.{host_first, host_top, host_inside}
use Rattle.tabled_rooms.proofs.LawLemmas.{alone as alone_shown}
use Rattle.tabled_rooms.proofs.OpenLemmas.{begins_by}
use Rattle.tabled_rooms.proofs.RoomLemmas.{sum_more, width_none, width_more}
use Rattle.tabled_rooms.proofs.SizeLemmas.{flat_map_below, greatest_more, sum_same}
use Rattle.tabled_rooms.proofs.FirstColumns.{not_after, same_shown}
use Rattle.tabled_rooms.proofs.RowWidths.{sum_step, sum_none, sum_single}
use Rattle.tabled_rooms.proofs.GrownRooms.{HasRoom, all_of_one, sum_less, grown_larger, grown_room}

-- no number of a list is above its greatest
pub greatest_at : (f : ℕ → ℕ) (n k : ℕ) → k < n → f k ≤ greatest (map f (below n))
greatest_at f zero k within = absurd (omega (arith, within))
greatest_at f (suc n) k within =
    let all : greatest (map f (below (suc n))) ≡ max (greatest (map f (below n))) (f n) = ap (λ m. greatest (map f (below m))) (sym (add-one n)) ∙ greatest_more f n in
    elim (cases_eq k n) [
      | inl last ↦ (let same = ap f last in omega (arith, all, same))
      | inr earlier ↦ (let before = greatest_at f n k (omega (arith, within, earlier)) in omega (arith, all, before))
    ]

-- what was noted of one cell, among what was noted of all
of_cell : {A : Type 0} (P : A → Type 0) (f : ℕ → ℕ → List A) (m n a b : ℕ) → a < m → b < n → All P (flat_map (λ r. flat_map (f r) (below n)) (below m)) → All P (f a b)
of_cell P f m n a b first second all = all_of_one P (f a) n b second (all_of_one P (λ r. flat_map (f r) (below n)) m a first all)

one_less : (a b : Bool) → one_if (a && b) ≤ one_if b
one_less true b = omega arith
one_less false true = omega arith
one_less false false = omega arith

sum_prefix : (f : ℕ → ℕ) (m k n : ℕ) → m + k ≡ n → sum_by f (below m) ≤ sum_by f (below n)
sum_prefix f m zero n is =
    let same : m ≡ n = omega (arith, is) in
    let e = ap (λ k. sum_by f (below k)) same in
    omega (arith, e)
sum_prefix f m (suc k) n is =
    let before = sum_prefix f m k (m + k) refl in
    let last : n ≡ suc (m + k) = omega (arith, is) in
    let all : sum_by f (below n) ≡ sum_by f (below (m + k)) + f (m + k) = ap (λ j. sum_by f (below j)) last ∙ sum_step f (m + k) in
    omega (arith, before, all)

-- the sizes have what a cell asks for, alone or over several of them
module _ (drawn : ℕ → Bool) (base : List ℕ) (asks : List Ask) (first count size : ℕ) (some : 0 < count) (inside : first + count ≤ length base) where
  abbrev now : List ℕ
  now = grown drawn base asks

  abbrev ask : Ask
  ask = record { first = first; count = count; size = size }

  abbrev part : ℕ → ℕ
  part = size_part now drawn first

  over : is_over (length now) ask ≡ true
  over = let long = (grown_larger drawn base asks).long in grind (arith, nat_tests, long, some, inside)

  alone_asked : (count == 1) ≡ true → size ≤ slice_index base first → size ≤ sum_by part (range_with_len first count)
  alone_asked e asked =
      let is : count ≡ 1 = grind (arith, nat_tests) in
      let single : sum_by part (range_with_len first 1) ≡ 0 + part (first + 0) = sum_more part first 0 in
      let same : sum_by part (range_with_len first count) ≡ sum_by part (range_with_len first 1) = ap (λ n. sum_by part (range_with_len first n)) is in
      let there : part (first + 0) ≡ slice_index now first + one_if (nat_lt first first && drawn first) = (let e : first + 0 ≡ first = omega arith in ap part e) in
      let grew = (grown_larger drawn base asks).more first (omega (arith, inside, some)) in
      omega (arith, single, same, there, asked, grew)

  several_asked : HasRoom drawn now ask → size ≤ sum_by part (range_with_len first count)
  unfolding room_over
  several_asked has = has over

  has_asked : ((count == 1) ≡ true → size ≤ slice_index base first)
      → ((P : Ask → Type 0) → All P asks → (count == 1) ≡ false → P ask)
      → size ≤ sum_by part (range_with_len first count)
  has_asked own found = by (count == 1) refl
    where
      by : (one : Bool) → (count == 1) ≡ one → size ≤ sum_by part (range_with_len first count)
      by true e = alone_asked e (own e)
      by false e =
          let same : (count == count) ≡ true = grind (arith, nat_tests) in
          several_asked (found (λ ask. (ask.count == count) ≡ true → HasRoom drawn now ask) (grown_room drawn base asks count (omega (arith, inside))) e same)

module _ (columns rows : Counts) (some_columns : (r c : ℕ) → 1 ≤ columns r c) (some_rows : (r c : ℕ) → 1 ≤ rows r c) where
  abbrev at : ℕ → ℕ → Cell
  at = host columns rows

  -- what is shown next to its own place, or further right, is shown at the left of that too
  from_left_is : (left : Cell) (r k c : ℕ) → from_left columns rows (Some left) r (suc k) ≡ (r, c) → c ≤ k → left.1 ≡ c
  from_left_is left r k c is before = by ((left.0 == r) && nat_lt (suc k) (left.1 + columns left.0 left.1)) is
    where
      by : (b : Bool) → (if b then left else (r, suc k)) ≡ (r, c) → left.1 ≡ c
      by true e = ap (λ (cell : Cell). cell.1) e
      by false e = absurd (let no : suc k ≡ c = ap (λ (cell : Cell). cell.1) e in omega (arith, no, before))

  from_above_is : (up other : Cell) (r c : ℕ) → up.0 ≤ r → from_above columns rows (Some up) (suc r) other ≡ (suc r, c) → other ≡ (suc r, c)
  from_above_is up other r c earlier is = by (nat_lt (suc r) (up.0 + rows up.0 up.1)) is
    where
      by : (b : Bool) → (if b then up else other) ≡ (suc r, c) → other ≡ (suc r, c)
      by true e = absurd (let no : up.0 ≡ suc r = ap (λ (cell : Cell). cell.0) e in omega (arith, no, earlier))
      by false e = e

  beside : (r c k : ℕ) → at r c ≡ (r, c) → (at r (suc k)).1 ≡ c → c ≤ k → (at r k).1 ≡ c
  beside zero c k own there before =
      let is : at zero (suc k) ≡ (zero, c) = same_shown columns rows some_columns some_rows zero c (suc k) (ap (λ (cell : Cell). cell.1) own) there ∙ own in
      from_left_is (at zero k) zero k c (sym (host_top columns rows k) ∙ is) before
  beside (suc r) c k own there before =
      let is : at (suc r) (suc k) ≡ (suc r, c) = same_shown columns rows some_columns some_rows (suc r) c (suc k) (ap (λ (cell : Cell). cell.1) own) there ∙ own in
      let left : Cell = from_left columns rows (Some (at (suc r) k)) (suc r) (suc k) in
      from_left_is (at (suc r) k) (suc r) k c (from_above_is (at r (suc k)) left r c (begins_by columns rows r (suc k)) (sym (host_inside columns rows r k) ∙ is)) before

  module _ (r c : ℕ) (own : at r c ≡ (r, c)) where
    abbrev count : ℕ → ℕ
    count n = columns_taken (at r) n c

    more : (n : ℕ) → count (suc n) ≡ count n + (if (at r n).1 == c then 1 else 0)
    more n = sum_step (λ k. if (at r k).1 == c then 1 else 0) n

    none_before : (n : ℕ) → n ≤ c → count n ≡ 0
    none_before n within =
        sum_none (λ k. if (at r k).1 == c then 1 else 0) n
        (λ k less. ap (λ b. if b then 1 else 0) (let before = not_after columns rows some_columns some_rows r k in let no : ((at r k).1 == c) ≡ false = grind (arith, nat_tests, before, less, within) in no))

    -- it is shown in columns in a row, from its own on
    in_a_row : (n : ℕ) → (at r n).1 ≡ c → c + count n ≡ n
    in_a_row zero there = let before = not_after columns rows some_columns some_rows r zero in let none = none_before zero (omega arith) in omega (arith, before, there, none)
    in_a_row (suc n) there = elim (cases_eq c (suc n)) [
      | inl last ↦ (let none = none_before (suc n) (omega (arith, last)) in omega (arith, last, none))
      | inr earlier ↦
          let before = not_after columns rows some_columns some_rows r (suc n) in
          let left : (at r n).1 ≡ c = beside r c n own there (omega (arith, before, there, earlier)) in
          let so_far = in_a_row n left in
          let one : ◌≡◌ {A = ℕ} (if (at r n).1 == c then 1 else 0) 1 = ap (λ b. if b then 1 else 0) (let yes : ((at r n).1 == c) ≡ true = grind (arith, nat_tests) in yes) in
          omega (arith, so_far, more n, one)
    ]

    pub count_inside : (n : ℕ) → c ≤ n → c + count n ≤ n
    count_inside zero within = let none = none_before zero (omega arith) in omega (arith, within, none)
    count_inside (suc n) within = elim (cases_eq c (suc n)) [
      | inl last ↦ (let none = none_before (suc n) (omega (arith, last)) in omega (arith, last, none))
      | inr earlier ↦
          let so_far = count_inside n (omega (arith, within, earlier)) in
          let most : (if (at r n).1 == c then 1 else 0) ≤ 1 = at_most ((at r n).1 == c) in
          omega (arith, so_far, more n, most)
    ]
      where
        at_most : (b : Bool) → (if b then 1 else 0) ≤ 1
        at_most true = omega arith
        at_most false = omega arith

    pub count_some : (n : ℕ) → c < n → 0 < count n
    count_some zero within = absurd (omega (arith, within))
    count_some (suc n) within = elim (cases_eq c n) [
      | inl last ↦
          let one : ◌≡◌ {A = ℕ} (if (at r n).1 == c then 1 else 0) 1 =
          ap (λ b. if b then 1 else 0) (let there : (at r n).1 ≡ c = ap (λ k. (at r k).1) (sym last) ∙ ap (λ (cell : Cell). cell.1) own in let yes : ((at r n).1 == c) ≡ true = grind (arith, nat_tests) in yes) in
          omega (arith, more n, one)
      | inr earlier ↦ (let before = count_some n (omega (arith, within, earlier)) in omega (arith, before, more n))
    ]

    -- its room is that of these columns
    pub room_is : (sizes : List ℕ) (vertical : ℕ → Bool) (n : ℕ) → room_width (slice_index sizes) vertical (at r) n c ≡ sum_by (size_part sizes vertical c) (range_with_len c (count n))
    room_is sizes vertical zero = width_none (slice_index sizes) vertical (at r) c
    room_is sizes vertical (suc n) = by ((at r n).1 == c) refl (room_is sizes vertical n)
      where
        wider : room_width (slice_index sizes) vertical (at r) (suc n) c ≡ room_width (slice_index sizes) vertical (at r) n c + (if (at r n).1 == c then size_part sizes vertical c n else 0)
        wider = ap (λ m. room_width (slice_index sizes) vertical (at r) m c) (sym (add-one n)) ∙ width_more (slice_index sizes) vertical (at r) n c

        by : (there : Bool) → ((at r n).1 == c) ≡ there → room_width (slice_index sizes) vertical (at r) n c ≡ sum_by (size_part sizes vertical c) (range_with_len c (count n))
            → room_width (slice_index sizes) vertical (at r) (suc n) c ≡ sum_by (size_part sizes vertical c) (range_with_len c (count (suc n)))
        by true e so_far =
            let place : c + count n ≡ n = in_a_row n (grind (arith, nat_tests)) in
            wider ∙ (λ i. so_far i + (if e i then size_part sizes vertical c (sym place i) else 0)) ∙ sym (sum_more (size_part sizes vertical c) c (count n))
            ∙ ap (λ m. sum_by (size_part sizes vertical c) (range_with_len c m)) (sym (more n ∙ ap (λ b. count n + (if b then 1 else 0)) e))
        by false e so_far =
            wider ∙ (λ i. so_far i + (if e i then size_part sizes vertical c n else 0)) ∙ (let sum : sum_by (size_part sizes vertical c) (range_with_len c (count n)) + 0 ≡ sum_by (size_part sizes vertical c) (range_with_len c (count n)) = omega arith in sum)
            ∙ ap (λ m. sum_by (size_part sizes vertical c) (range_with_len c m)) (sym (more n ∙ ap (λ b. count n + (if b then 1 else 0)) e ∙ (let none : count n + 0 ≡ count n = omega arith in none)))

  module _ (shape : ℕ × ℕ) (asked : Counts) where
    own_cell : (r c : ℕ) → is_own columns rows shape r c ≡ true → at r c ≡ (r, c)
    own_cell r c is =
        let row : (at r c).0 ≡ r = grind (arith, nat_tests) in
        let col : (at r c).1 ≡ c = grind (arith, nat_tests) in
        λ i. (row i, col i)

    -- each cell that is shown has the width that it asks for
    pub wide_enough : (vertical : ℕ → Bool) (r c : ℕ) → r < shape.0 → c < shape.1 → is_own columns rows shape r c ≡ true
        → asked r c ≤ room_width (slice_index (spanned_widths columns rows shape asked vertical)) vertical (at r) shape.1 c
    unfolding spanned_widths
    wide_enough vertical r c within inside is =
        let base : List ℕ = map (own_width columns rows shape asked) (below shape.1) in
        let asks : List Ask = flat_map (over_columns columns rows shape asked) (below shape.0) in
        let long : length base ≡ shape.1 = length-map-range_with_len (own_width columns rows shape asked) 0 shape.1 in
        let taken : ℕ = column_count columns rows shape r c in
        let own = own_cell r c is in
        let most = count_inside r c own shape.1 (omega (arith, inside)) in
        subst (λ n. asked r c ≤ n) (sym (room_is r c own (grown vertical base asks) vertical shape.1))
        (has_asked vertical base asks c taken (asked r c) (count_some r c own shape.1 inside) (omega (arith, most, long))
        (λ one.
        let shown : asked r c ≡ alone (is_own columns rows shape r c) taken (asked r c) = sym (λ i. if is i && one i then asked r c else 0) in
        let great = greatest_at (λ k. alone (is_own columns rows shape k c) (column_count columns rows shape k c) (asked k c)) shape.0 r within in
        let there : slice_index base c ≡ own_width columns rows shape asked c = get_or-map-range_with_len (own_width columns rows shape asked) 0 shape.1 c c 0 inside (omega arith) in
        omega (arith, shown, great, there))
        (λ P all several.
        let noted = of_cell P (λ r c. over_several (is_own columns rows shape r c) c (column_count columns rows shape r c) (asked r c)) shape.0 shape.1 r c within inside all in
        All-head P (record { first = c; count = taken; size = asked r c }) []
        (subst (All P) (λ i. if is i && not (several i) then record { first = c; count = taken; size = asked r c } ∷ [] else []) noted)))

    -- and the height
    pub high_enough : (horizontal : ℕ → Bool) (r c : ℕ) → r < shape.0 → c < shape.1 → is_own columns rows shape r c ≡ true
        → asked r c ≤ sum_by (size_part (spanned_heights columns rows shape asked horizontal) horizontal r) (range_with_len r (row_count columns rows shape r c))
    unfolding spanned_heights
    high_enough horizontal r c within inside is =
        let base : List ℕ = map (own_height columns rows shape asked) (below shape.0) in
        let asks : List Ask = flat_map (over_rows columns rows shape asked) (below shape.0) in
        let long : length base ≡ shape.0 = length-map-range_with_len (own_height columns rows shape asked) 0 shape.0 in
        let taken : ℕ = row_count columns rows shape r c in
        let least = some_rows r c in
        has_asked horizontal base asks r taken (asked r c) (omega (arith, least, within)) (omega (arith, long, within))
        (λ one.
        let shown : asked r c ≡ alone (is_own columns rows shape r c) taken (asked r c) = sym (λ i. if is i && one i then asked r c else 0) in
        let great = greatest_at (λ k. alone (is_own columns rows shape r k) (row_count columns rows shape r k) (asked r k)) shape.1 c inside in
        let there : slice_index base r ≡ own_height columns rows shape asked r = get_or-map-range_with_len (own_height columns rows shape asked) 0 shape.0 r r 0 within (omega arith) in
        omega (arith, shown, great, there))
        (λ P all several.
        let noted = of_cell P (λ r c. over_several (is_own columns rows shape r c) r (row_count columns rows shape r c) (asked r c)) shape.0 shape.1 r c within inside all in
        All-head P (record { first = r; count = taken; size = asked r c }) []
        (subst (All P) (λ i. if is i && not (several i) then record { first = r; count = taken; size = asked r c } ∷ [] else []) noted))

    -- where the first cell asks for some line, there is one
    pub some_line : (horizontal : ℕ → Bool) → 0 < shape.0 → 0 < shape.1 → 1 ≤ asked 0 0
        → 0 < sum_by (λ r. one_if (horizontal r) + slice_index (spanned_heights columns rows shape asked horizontal) r) (below shape.0)
    some_line horizontal within inside some =
        let heights : List ℕ = spanned_heights columns rows shape asked horizontal in
        let own : is_own columns rows shape 0 0 ≡ true = ap (λ (cell : Cell). is_shown cell 0 0) (host_first columns rows) in
        let high = high_enough horizontal 0 0 within inside own in
        let taken : ℕ = row_count columns rows shape 0 0 in
        let parts = sum_less (size_part heights horizontal 0) (λ r. one_if (horizontal r) + slice_index heights r) 0 taken
        (λ k least most. let less = one_less (nat_lt 0 k) (horizontal k) in omega (arith, less)) in
        let all : sum_by (λ r. one_if (horizontal r) + slice_index heights r) (below taken) ≤ sum_by (λ r. one_if (horizontal r) + slice_index heights r) (below shape.0) =
        sum_prefix (λ r. one_if (horizontal r) + slice_index heights r) taken (shape.0 - taken) shape.0 (omega arith) in
        omega (arith, some, high, parts, all)

-- ---- where no cell spans several columns

flat_none : {A B : Type 0} (f : A → List B) (xs : List A) → ((x : A) → f x ≡ []) → flat_map f xs ≡ []
flat_none f [] none = refl
flat_none f (x ∷ xs) none = (λ i. none x i ++ flat_none f xs none i)

flat_none_below : {B : Type 0} (f : ℕ → List B) (n : ℕ) → ((k : ℕ) → k < n → f k ≡ []) → flat_map f (below n) ≡ []
flat_none_below f zero none = refl
flat_none_below f (suc n) none =
    ap (λ m. flat_map f (below m)) (sym (add-one n)) ∙ flat_map_below f n ∙ (λ i. flat_none_below f n (λ k within. none k (omega (arith, within))) i ++ none n (omega arith) i)

grown_none : (drawn : ℕ → Bool) (sizes : List ℕ) → grown drawn sizes [] ≡ sizes
unfolding grown
grown_none drawn sizes = ap (fold (grown_for drawn) sizes) (flat_none (over_count []) (range_with_len 0 (length sizes + 1)) (λ n. refl))

pub greatest_within : (f : ℕ → ℕ) (most n : ℕ) → ((k : ℕ) → k < n → f k ≤ most) → greatest (map f (below n)) ≤ most
greatest_within f most zero each = omega arith
greatest_within f most (suc n) each =
    let all : greatest (map f (below (suc n))) ≡ max (greatest (map f (below n))) (f n) = ap (λ m. greatest (map f (below m))) (sym (add-one n)) ∙ greatest_more f n in
    let before = greatest_within f most n (λ k within. each k (omega (arith, within))) in
    let last = each n (omega arith) in
    omega (arith, all, before, last)

module _ (columns rows : Counts) (no_columns : (r c : ℕ) → columns r c ≤ 1) (no_rows : (r c : ℕ) → rows r c ≤ 1) (shape : ℕ × ℕ) (asked : Counts) where
  one_column : (r c : ℕ) → c < shape.1 → column_count columns rows shape r c ≡ 1
  one_column r c inside =
      sum_same (λ k. if (host columns rows r k).1 == c then 1 else 0) (λ k. if c == k then 1 else 0) shape.1
      (λ k less. ap (λ b. if b then 1 else 0) (ap (λ (cell : Cell). cell.1 == c) (alone_shown columns rows no_columns no_rows r k) ∙ turned k c))
      ∙ sum_single 1 shape.1 c inside
    where
      turned : (k c : ℕ) → (k == c) ≡ (c == k)
      turned k c = grind (arith, nat_tests)

  nothing_asked : (r : ℕ) → over_columns columns rows shape asked r ≡ []
  nothing_asked r = flat_none_below (λ c. over_several (is_own columns rows shape r c) c (column_count columns rows shape r c) (asked r c)) shape.1 (λ c inside. nothing c inside (is_own columns rows shape r c))
    where
      nothing : (c : ℕ) → c < shape.1 → (own : Bool) → over_several own c (column_count columns rows shape r c) (asked r c) ≡ []
      nothing c inside true = ap (λ n. if not (n == 1) then record { first = c; count = n; size = asked r c } ∷ [] else []) (one_column r c inside)
      nothing c inside false = refl

  -- no column is wider than what its cells ask for at most
  pub alone_within : (vertical : ℕ → Bool) (c most : ℕ) → c < shape.1 → ((r : ℕ) → r < shape.0 → asked r c ≤ most) → slice_index (spanned_widths columns rows shape asked vertical) c ≤ most
  unfolding spanned_widths
  alone_within vertical c most inside each =
      let base : List ℕ = map (own_width columns rows shape asked) (below shape.1) in
      let is : grown vertical base (flat_map (over_columns columns rows shape asked) (below shape.0)) ≡ base = ap (grown vertical base) (flat_none (over_columns columns rows shape asked) (below shape.0) nothing_asked) ∙ grown_none vertical base in
      let there : slice_index (grown vertical base (flat_map (over_columns columns rows shape asked) (below shape.0))) c ≡ own_width columns rows shape asked c =
      ap (λ sizes. slice_index sizes c) is ∙ get_or-map-range_with_len (own_width columns rows shape asked) 0 shape.1 c c 0 inside (omega arith) in
      let bound = greatest_within (λ r. alone (is_own columns rows shape r c) (column_count columns rows shape r c) (asked r c)) most shape.0
      (λ r within. let less = at_most (is_own columns rows shape r c && (column_count columns rows shape r c == 1)) (asked r c) in let own = each r within in omega (arith, less, own)) in
      omega (arith, there, bound)
    where
      at_most : (b : Bool) (n : ℕ) → (if b then n else 0) ≤ n
      at_most true n = omega arith
      at_most false n = omega arith
