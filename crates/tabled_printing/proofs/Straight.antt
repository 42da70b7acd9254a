-- The lines of a table's text are as wide as the table, and its vertical lines stand straight.
use Rattle.std.proofs.Common.{◌≡◌, ℕ, ◌+◌, ◌-◌, ◌<◌, ◌≤◌, zero, suc, Bool, true, false, if◌then◌else◌, ◌||◌, nat_lt, List, [], ◌∷◌, ◌++◌, map, length, encode_utf8, encode_utf8_all, refl, sym, ap, subst, ◌∙◌, arith, append-nil, append_assoc, length-append}
use Rattle.std.specs.List.{sum_by, All, AllZip, flat_map, range_with_len}
use Rattle.std.proofs.lemmas.Bool.{and_from, le-ltb}
use Rattle.std.proofs.lemmas.List.{map-append, length-map}
use Rattle.std.proofs.lemmas.List.Elements.{All-nil, All-cons}
use Rattle.std.proofs.lemmas.List.Concat.{flat_map-append}
use Rattle.std.proofs.lemmas.List.FromFn.{length-range_with_len}
use Rattle.tabled_object.specs.Entities.{below}
use Rattle.tabled_places.specs.declared.place.Place.{Place}
use Rattle.tabled_places.specs.declared.place.LineOf.{LineOf}
use Rattle.tabled_width.specs.Texts.{width_of_text}
use Rattle.tabled_printing.specs.Along.{is_empty, along, along_line, crossing_at}
use Rattle.tabled_printing.specs.Picture.{Look, character, text_shown, text_marked, mark_at, marks_along, line_of_pieces, line_if_drawn}
use Rattle.tabled_printing.specs.Sinks.{text_of_both}
use Rattle.tabled_width.specs.Narrow.{is_narrow, StandsAt}
use Rattle.tabled_printing.specs.Columns.{HasNarrowBorders, line_width, columns_before, table_width, StandsStraight}
use Rattle.tabled_width.proofs.Tiles.{Tile, Tile-nil, Tile-append, Tile-narrow, Tile-same, Tile-flat}

-- ---- lists

range_parts : (start m n : ℕ) → range_with_len start (m + n) ≡ range_with_len start m ++ range_with_len (start + m) n
range_parts start zero n =
    let none : zero + n ≡ n = omega arith in
    let same : start ≡ start + zero = omega arith in
    ap (range_with_len start) none ∙ ap (λ s. range_with_len s n) same
range_parts start (suc m) n =
    let one : suc m + n ≡ suc (m + n) = omega arith in
    let next : start + 1 + m ≡ start + suc m = omega arith in
    ap (range_with_len start) one ∙ ap (λ l. start ∷ l) (range_parts (start + 1) m n ∙ ap (λ s. range_with_len (start + 1) m ++ range_with_len s n) next)

AllZip-append : {A B : Type 0} (R : A → B → Type 0) (xs : List A) (ys : List B) (zs : List A) (ws : List B) → AllZip R xs ys → AllZip R zs ws → AllZip R (xs ++ zs) (ys ++ ws)
AllZip-append R [] [] zs ws first second = second
AllZip-append R [] (y ∷ ys) zs ws first second = absurd first
AllZip-append R (x ∷ xs) [] zs ws first second = absurd first
AllZip-append R (x ∷ xs) (y ∷ ys) zs ws first second = (first.0, AllZip-append R xs ys zs ws first.1 second)

AllZip-flat : {A B : Type 0} (R : A → B → Type 0) (f : ℕ → List A) (g : ℕ → List B) (start count : ℕ) → ((n : ℕ) → start ≤ n → n < start + count → AllZip R (f n) (g n))
    → AllZip R (flat_map f (range_with_len start count)) (flat_map g (range_with_len start count))
AllZip-flat R f g start zero each = tt
AllZip-flat R f g start (suc count) each =
    AllZip-append R (f start) (g start) (flat_map f (range_with_len (start + 1) count)) (flat_map g (range_with_len (start + 1) count))
    (each start (omega arith) (omega arith)) (AllZip-flat R f g (start + 1) count (λ n least most. each n (omega arith) (omega arith)))

AllZip-map : {A B : Type 0} (R : A → B → Type 0) (f : ℕ → A) (g : ℕ → B) (start count : ℕ) → ((n : ℕ) → start ≤ n → n < start + count → R (f n) (g n))
    → AllZip R (map f (range_with_len start count)) (map g (range_with_len start count))
AllZip-map R f g start zero each = tt
AllZip-map R f g start (suc count) each =
    (each start (omega arith) (omega arith), AllZip-map R f g (start + 1) count (λ n least most. each n (omega arith) (omega arith)))

AllZip-if : {A B : Type 0} (R : A → B → Type 0) (b : Bool) (x : A) (y : B) → R x y → AllZip R (if b then x ∷ [] else []) (if b then y ∷ [] else [])
AllZip-if R true x y is = (is, tt)
AllZip-if R false x y is = tt

-- what is so of each element that is paired with itself is so of each
All-zipped : {A : Type 0} (P : A → Type 0) (xs : List A) → AllZip (λ x y. P x) xs xs → All P xs
All-zipped P [] all = All-nil P
All-zipped P (x ∷ xs) all = All-cons P x xs all.0 (All-zipped P xs all.1)

flat_some : {A : Type 0} (f : ℕ → List A) (count : ℕ) → 0 < count → length (f 0) ≤ length (flat_map f (below count))
flat_some f zero some = absurd (omega (arith, some))
flat_some f (suc count) some = let long = length-append (f 0) (flat_map f (range_with_len (0 + 1) count)) in omega (arith, long)

-- ---- a line of text: what the vertical lines show, and what stands between them

mark_tile : (m : ℕ) → is_narrow m ≡ true → Tile 1 (encode_utf8 m)
mark_tile m h = subst (Tile 1) (append-nil (encode_utf8 m)) (Tile-narrow (m ∷ []) (and_from _ _ h refl))

side_tile : (b : Bool) (m : ℕ) → is_narrow m ≡ true → Tile (if b then 1 else 0) (if b then encode_utf8_all (m ∷ []) else [])
side_tile true m h = Tile-narrow (m ∷ []) (and_from _ _ h refl)
side_tile false m h = Tile-nil

-- a line is cut in three, of which none joins another: the columns before a place, the character there, and the rest
pub record Cut (column mark : ℕ) (line : List ℕ) : Type 0 where
  pub front : List ℕ
  pub back : List ℕ
  pub rest : ℕ
  pub parts : line ≡ front ++ encode_utf8 mark ++ back
  pub first : Tile column front
  pub middle : Tile 1 (encode_utf8 mark)
  pub last : Tile rest back

pub stands_from_cut : (column mark : ℕ) (line : List ℕ) → Cut column mark line → StandsAt column mark line
stands_from_cut column mark line cut =
    let whole = Tile-append (column + 1) cut.rest (cut.front ++ encode_utf8 mark) cut.back (Tile-append column 1 cut.front (encode_utf8 mark) cut.first cut.middle) cut.last in
    record {
      front = cut.front;
      back = cut.back;
      parts = cut.parts;
      before = cut.first.wide;
      whole = ap width_of_text cut.parts ∙ whole.wide ∙ ap (λ n. column + 1 + n) (sym cut.last.wide);
    }

pub AllZip-weaker : {A B : Type 0} (R S : A → B → Type 0) (xs : List A) (ys : List B) → ((x : A) (y : B) → R x y → S x y) → AllZip R xs ys → AllZip S xs ys
AllZip-weaker R S [] [] weaker all = tt
AllZip-weaker R S [] (y ∷ ys) weaker all = all
AllZip-weaker R S (x ∷ xs) [] weaker all = all
AllZip-weaker R S (x ∷ xs) (y ∷ ys) weaker all = (weaker x y all.0, AllZip-weaker R S xs ys weaker all.1)

module _ (view : Look) (mark : ℕ → ℕ) (piece : ℕ → List ℕ) (narrow : (c : ℕ) → is_narrow (mark c) ≡ true) where
  -- what a vertical line puts into the line, if it is drawn
  abbrev pub side : ℕ → List ℕ
  side c = if view.vertical c then encode_utf8_all (mark c ∷ []) else []

  abbrev pub with_side : ℕ → List ℕ
  with_side c = side c ++ piece c

  abbrev pub whole_line : List ℕ
  whole_line = flat_map with_side (below view.shape.1) ++ side view.shape.1

  module _ (each : (c : ℕ) → c < view.shape.1 → Tile (view.widths c) (piece c)) where
    with_tile : (c : ℕ) → c < view.shape.1 → Tile (line_width view c + view.widths c) (with_side c)
    with_tile c within = Tile-append (line_width view c) (view.widths c) (side c) (piece c) (side_tile (view.vertical c) (mark c) (narrow c)) (each c within)

    before_tile : (c : ℕ) → c ≤ view.shape.1 → Tile (columns_before view c) (flat_map with_side (below c))
    before_tile c within = Tile-flat with_side (λ n. line_width view n + view.widths n) 0 c (λ n least most. with_tile n (omega arith))

    pub line_tile : Tile (table_width view) whole_line
    line_tile =
        Tile-append (columns_before view view.shape.1) (line_width view view.shape.1) (flat_map with_side (below view.shape.1)) (side view.shape.1)
        (before_tile view.shape.1 (omega arith)) (side_tile (view.vertical view.shape.1) (mark view.shape.1) (narrow view.shape.1))

    -- what follows what vertical line c puts in
    abbrev Follows : ℕ → List ℕ → Type 0
    Follows c text = (back : List ℕ) × (width : ℕ) × Tile width back × (text ≡ encode_utf8 (mark c) ++ back)

    drawn_side : (c : ℕ) (b : Bool) → b ≡ true → (if b then encode_utf8_all (mark c ∷ []) else []) ≡ encode_utf8 (mark c)
    drawn_side c true is = append-nil (encode_utf8 (mark c))
    drawn_side c false is = cc

    follows : (count c : ℕ) → c + count ≡ view.shape.1 → view.vertical c ≡ true → Follows c (flat_map with_side (range_with_len c count) ++ side view.shape.1)
    follows zero c last drawn =
        let same : view.shape.1 ≡ c = omega arith in
        ([], 0, Tile-nil, ap side same ∙ drawn_side c (view.vertical c) drawn ∙ sym (append-nil (encode_utf8 (mark c))))
    follows (suc count) c last drawn =
        let rest : List ℕ = flat_map with_side (range_with_len (c + 1) count) in
        let end : List ℕ = side view.shape.1 in
        let others : Tile (sum_by (λ n. line_width view n + view.widths n) (range_with_len (c + 1) count)) rest =
        Tile-flat with_side (λ n. line_width view n + view.widths n) (c + 1) count (λ n least most. with_tile n (omega arith)) in (
          piece c ++ rest ++ end,
          _,
          Tile-append _ _ (piece c ++ rest) end (Tile-append _ _ (piece c) rest (each c (omega arith)) others) (side_tile (view.vertical view.shape.1) (mark view.shape.1) (narrow view.shape.1)),
          ap (λ bs. bs ++ end) (append_assoc (side c) (piece c) rest) ∙ append_assoc (side c) (piece c ++ rest) end
              ∙ ap (λ bs. bs ++ (piece c ++ rest ++ end)) (drawn_side c (view.vertical c) drawn),
        )

    pub line_cut : (c : ℕ) → c ≤ view.shape.1 → view.vertical c ≡ true → Cut (columns_before view c) (mark c) whole_line
    line_cut c within drawn =
        let count : ℕ = view.shape.1 - c in
        let all : view.shape.1 ≡ c + count = omega arith in
        let front : List ℕ = flat_map with_side (below c) in
        let tail : List ℕ = flat_map with_side (range_with_len c count) ++ side view.shape.1 in
        let none : 0 + c ≡ c = omega arith in
        let split : whole_line ≡ front ++ tail =
        ap (λ l. flat_map with_side l ++ side view.shape.1) (ap (range_with_len 0) all ∙ range_parts 0 c count ∙ ap (λ s. below c ++ range_with_len s count) none)
        ∙ ap (λ bs. bs ++ side view.shape.1) (flat_map-append with_side (below c) (range_with_len c count))
        ∙ append_assoc front (flat_map with_side (range_with_len c count)) (side view.shape.1) in
        let after : Follows c tail = follows count c (sym all) drawn in
        let back : List ℕ = after.0 in
        let parts : whole_line ≡ front ++ encode_utf8 (mark c) ++ back = split ∙ ap (λ bs. front ++ bs) after.3 ∙ sym (append_assoc front (encode_utf8 (mark c)) back) in
        record {
          front = front;
          back = back;
          rest = after.1;
          parts = parts;
          first = before_tile c within;
          middle = mark_tile (mark c) (narrow c);
          last = after.2;
        }

-- ---- the lines beside rows

-- the lines of a text around what stands between the vertical lines
abbrev pub lines_around : Look → (ℕ → ℕ → ℕ → List ℕ) → List (List ℕ)
lines_around view piece =
    flat_map (λ r. line_if_drawn view r ++ map (λ k. line_of_pieces view r k (λ c. piece r c k)) (below (view.heights r))) (below view.shape.0) ++ line_if_drawn view view.shape.0

at_if : {A B : Type 0} (f : A → B) (b : Bool) (x y : A) → f (if b then x else y) ≡ (if b then f x else f y)
at_if f true x y = refl
at_if f false x y = refl

module _ (view : Look) (narrow : HasNarrowBorders view) where
  -- what vertical line c shows beside line k of row r
  abbrev beside : ℕ → ℕ → ℕ → ℕ
  beside r k c = character (view.shown (Place.Vertical r c k))

  row_same : (r k : ℕ) (piece : ℕ → List ℕ) → line_of_pieces view r k piece ≡ whole_line view (beside r k) piece (λ c. narrow (Place.Vertical r c k))
  row_same r k piece =
      λ i. flat_map (λ c. at_if text_shown (view.vertical c) (view.shown (Place.Vertical r c k) ∷ []) [] i ++ piece c) (below view.shape.1)
      ++ at_if text_shown (view.vertical view.shape.1) (view.shown (Place.Vertical r view.shape.1 k) ∷ []) [] i

  -- ---- horizontal lines

  abbrev text_at : List Place → List ℕ
  text_at places = text_marked (map (mark_at view) places)

  text_both : (xs ys : List Place) → text_at (xs ++ ys) ≡ text_at xs ++ text_at ys
  text_both xs ys = ap text_marked (map-append (mark_at view) xs ys) ∙ text_of_both (map (mark_at view) xs) (map (mark_at view) ys)

  text_flat : (f : ℕ → List Place) (ns : List ℕ) → text_at (flat_map f ns) ≡ flat_map (λ n. text_at (f n)) ns
  text_flat f [] = refl
  text_flat f (n ∷ ns) = text_both (f n) (flat_map f ns) ∙ ap (λ rest. text_at (f n) ++ rest) (text_flat f ns)

  places_tile : (places : List Place) → Tile (length places) (text_at places)
  places_tile [] = Tile-nil
  places_tile (place ∷ places) =
      Tile-same (1 + length places) (suc (length places)) _ (omega arith)
      (Tile-append 1 (length places) _ (text_at places) (mark_tile (character (view.shown place)) (narrow place)) (places_tile places))

  -- what stands over column c on horizontal line r, and what vertical line c shows there
  abbrev over : ℕ → ℕ → List ℕ
  over r c = text_at (map (λ k. Place.Horizontal r c k) (below (view.widths c)))

  abbrev crossed : ℕ → ℕ → ℕ
  crossed r c = character (view.shown (Place.Cross r c))

  over_tile : (r c : ℕ) → Tile (view.widths c) (over r c)
  over_tile r c =
      Tile-same _ _ _ (length-map (below (view.widths c)) (λ k. Place.Horizontal r c k) ∙ length-range_with_len 0 (view.widths c))
      (places_tile (map (λ k. Place.Horizontal r c k) (below (view.widths c))))

  abbrev part : ℕ → ℕ → List Place
  part r c = crossing_at view.vertical (λ n. Place.Cross r n) c ++ map (λ k. Place.Horizontal r c k) (below (view.widths c))

  part_same : (r c : ℕ) → text_at (part r c) ≡ with_side view (crossed r) (over r) (λ n. narrow (Place.Cross r n)) c
  part_same r c =
      rw (text_both (crossing_at view.vertical (λ n. Place.Cross r n) c) (map (λ k. Place.Horizontal r c k) (below (view.widths c)))) (ap (λ bs. bs ++ over r c) (at_if text_at (view.vertical c) (Place.Cross r c ∷ []) []))

  abbrev places_of : ℕ → List Place
  places_of r = flat_map (part r) (below view.shape.1) ++ crossing_at view.vertical (λ n. Place.Cross r n) view.shape.1

  across_same : (r : ℕ) → text_at (places_of r) ≡ whole_line view (crossed r) (over r) (λ n. narrow (Place.Cross r n))
  across_same r =
      rw (text_both (flat_map (part r) (below view.shape.1)) (crossing_at view.vertical (λ n. Place.Cross r n) view.shape.1), text_flat (part r) (below view.shape.1))
      (λ i. flat_map (λ c. part_same r c i) (below view.shape.1) ++ at_if text_at (view.vertical view.shape.1) (Place.Cross r view.shape.1 ∷ []) [] i)

  module _ (some : is_empty view.shape ≡ false) where
    not_past : (n count : ℕ) → n ≤ count → (is_empty view.shape || nat_lt count n) ≡ false
    not_past n count within = ap (λ b. b || nat_lt count n) some ∙ le-ltb count n within

    along_is : (r : ℕ) → r ≤ view.shape.0 → along view.horizontal view.vertical view.shape view.widths view.heights (LineOf.Horizontal r) ≡ places_of r
    along_is r within = ap (λ b. if b then [] else places_of r) (not_past r view.shape.0 within)

    marked_is : (r : ℕ) → r ≤ view.shape.0 → text_marked (marks_along view (LineOf.Horizontal r)) ≡ whole_line view (crossed r) (over r) (λ n. narrow (Place.Cross r n))
    marked_is r within = ap text_at (along_is r within) ∙ across_same r

    across_tile : (r : ℕ) → r ≤ view.shape.0 → Tile (table_width view) (text_marked (marks_along view (LineOf.Horizontal r)))
    across_tile r within = subst (Tile (table_width view)) (sym (marked_is r within)) (line_tile view (crossed r) (over r) (λ n. narrow (Place.Cross r n)) (λ c inside. over_tile r c))

    -- a horizontal line has as many places as the table has columns of the terminal
    pub across_long : (r : ℕ) → r ≤ view.shape.0 → length (marks_along view (LineOf.Horizontal r)) ≡ table_width view
    across_long r within =
        length-map (along view.horizontal view.vertical view.shape view.widths view.heights (LineOf.Horizontal r)) (mark_at view) ∙ ap length (along_is r within)
        ∙ sym (places_tile (places_of r)).wide ∙ ap width_of_text (across_same r)
        ∙ (line_tile view (crossed r) (over r) (λ n. narrow (Place.Cross r n)) (λ c inside. over_tile r c)).wide

    across_cut : (r c : ℕ) → r ≤ view.shape.0 → c ≤ view.shape.1 → view.vertical c ≡ true
        → Cut (columns_before view c) (character (view.shown (Place.Cross r c))) (text_marked (marks_along view (LineOf.Horizontal r)))
    across_cut r c within inside drawn =
        subst (Cut (columns_before view c) (character (view.shown (Place.Cross r c)))) (sym (marked_is r within))
        (line_cut view (crossed r) (over r) (λ n. narrow (Place.Cross r n)) (λ n least. over_tile r n) c inside drawn)

    -- ---- the whole text, around what stands between the vertical lines: by row, column and line of the row

    module _ (piece : ℕ → ℕ → ℕ → List ℕ) where
      abbrev line_at : ℕ → ℕ → List ℕ
      line_at r k = line_of_pieces view r k (λ c. piece r c k)

      module _ (each : (r c k : ℕ) → r < view.shape.0 → c < view.shape.1 → k < view.heights r → Tile (view.widths c) (piece r c k)) where
        row_tile : (r k : ℕ) → r < view.shape.0 → k < view.heights r → Tile (table_width view) (line_at r k)
        row_tile r k within high =
            subst (Tile (table_width view)) (sym (row_same r k (λ c. piece r c k)))
            (line_tile view (beside r k) (λ c. piece r c k) (λ c. narrow (Place.Vertical r c k)) (λ c inside. each r c k within inside high))

        row_cut : (r k c : ℕ) → r < view.shape.0 → k < view.heights r → c ≤ view.shape.1 → view.vertical c ≡ true
            → Cut (columns_before view c) (character (view.shown (Place.Vertical r c k))) (line_at r k)
        row_cut r k c within high inside drawn =
            subst (Cut (columns_before view c) (character (view.shown (Place.Vertical r c k)))) (sym (row_same r k (λ n. piece r n k)))
            (line_cut view (beside r k) (λ n. piece r n k) (λ n. narrow (Place.Vertical r n k)) (λ n least. each r n k within least high) c inside drawn)

        -- what is so of each line beside something is so of all lines beside all of it
        lines_zip : {A : Type 0} (R : A → List ℕ → Type 0) (across : ℕ → A) (down : ℕ → ℕ → A) → ((r : ℕ) → r ≤ view.shape.0 → R (across r) (text_marked (marks_along view (LineOf.Horizontal r))))
            → ((r k : ℕ) → r < view.shape.0 → k < view.heights r → R (down r k) (line_at r k))
            → AllZip R
            (flat_map (λ r. (if view.horizontal r then across r ∷ [] else []) ++ map (down r) (below (view.heights r))) (below view.shape.0) ++ (if view.horizontal view.shape.0 then across view.shape.0 ∷ [] else []))
            (lines_around view piece)
        lines_zip R across down lines rows =
            AllZip-append R _ _ _ _
            (AllZip-flat R _ _ 0 view.shape.0 (λ r least most.
            AllZip-append R _ _ _ _ (AllZip-if R (view.horizontal r) _ _ (lines r (omega arith))) (AllZip-map R (down r) (line_at r) 0 (view.heights r) (λ k low high. rows r k (omega arith) (omega arith)))))
            (AllZip-if R (view.horizontal view.shape.0) _ _ (lines view.shape.0 (omega arith)))

        -- each line is as wide as the table
        pub lines_tiles : All (Tile (table_width view)) (lines_around view piece)
        lines_tiles =
            All-zipped (Tile (table_width view)) (lines_around view piece)
            (lines_zip (λ line other. Tile (table_width view) line) (λ r. text_marked (marks_along view (LineOf.Horizontal r))) line_at across_tile row_tile)

        -- of a table with places whose first row is not without lines there are some
        pub lines_some : 0 < view.shape.0 → 0 < view.heights 0 → 0 < length (lines_around view piece)
        lines_some rows high =
            let block : ℕ → List (List ℕ) = λ r. line_if_drawn view r ++ map (line_at r) (below (view.heights r)) in
            let long = length-append (flat_map block (below view.shape.0)) (line_if_drawn view view.shape.0) in
            let first = flat_some block view.shape.0 rows in
            let own = length-append (line_if_drawn view 0) (map (line_at 0) (below (view.heights 0))) in
            let count = length-map (below (view.heights 0)) (line_at 0) in
            omega (arith, long, first, own, count, length-range_with_len 0 (view.heights 0))

        -- and vertical line c stands straight
        module _ (c : ℕ) (inside : c ≤ view.shape.1) (drawn : view.vertical c ≡ true) where
          abbrev Here : Place → List ℕ → Type 0
          Here place line = Cut (columns_before view c) (character (view.shown place)) line

          along_down : along view.horizontal view.vertical view.shape view.widths view.heights (LineOf.Vertical c)
              ≡ along_line view.horizontal view.heights view.shape.0 (λ r. Place.Cross r c) (λ r k. Place.Vertical r c k)
          along_down = ap (λ b. if b then [] else along_line view.horizontal view.heights view.shape.0 (λ r. Place.Cross r c) (λ r k. Place.Vertical r c k)) (not_past c view.shape.1 inside)

          pub lines_cut : AllZip Here (along view.horizontal view.vertical view.shape view.widths view.heights (LineOf.Vertical c)) (lines_around view piece)
          lines_cut =
              subst (λ places. AllZip Here places (lines_around view piece)) (sym along_down)
              (lines_zip Here (λ r. Place.Cross r c) (λ r k. Place.Vertical r c k) (λ r within. across_cut r c within inside drawn) (λ r k within high. row_cut r k c within high inside drawn))

          pub lines_straight : StandsStraight view c (lines_around view piece)
          lines_straight =
              AllZip-weaker Here (λ place line. StandsAt (columns_before view c) (character (view.shown place)) line)
              (along view.horizontal view.vertical view.shape view.widths view.heights (LineOf.Vertical c)) (lines_around view piece)
              (λ place line cut. stands_from_cut (columns_before view c) (character (view.shown place)) line cut) lines_cut
