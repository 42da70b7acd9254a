-- Which color each cell of a chess board has.
use Rattle.std.proofs.Common.{◌≡◌, ℕ, zero, suc, ◌+◌, ◌%◌, ◌<◌, ◌≤◌, ◌==◌, ◌&&◌, Bool, true, false, cond, if◌then◌else◌, None, Some, List, [], ◌∷◌, ◌++◌, map, filter, slice_get, unwrap_or, refl, ap, ◌∙◌, arith, option_and_then}
use Rattle.std.specs.List.{flat_map, range_with_len, last_or}
use Rattle.std.proofs.lemmas.Bool.Decides.{nat_tests}
use Rattle.std.proofs.lemmas.List.{map-append}
use Rattle.std.proofs.lemmas.List.Elements.{filter-append}
use Rattle.std.proofs.lemmas.Grind.{flat_map-append}
use mathlib.Core.Bool.{and-false}
use Rattle.tabled_border.specs.Texts.{Texts}
use Rattle.tabled_object.specs.declared.entity.Entity.{Entity}
use Rattle.tabled_object.specs.declared.entity.Entity.TheVariants.{Cell}
use Rattle.tabled_object.specs.declared.position.Position.{Position}
use Rattle.tabled_object.specs.Entities.{below, covers, position}
use Rattle.tabled_settings.specs.Setting.{EntityEvent, write_of, setting}
use Rattle.tabled_changes.specs.EntitiesColored.{text_writes}
use Rattle.tabled_color.specs.Shade.{Shade, texts_of}
use Rattle.tabled_colorization.specs.declared.pattern.Pattern.TheVariants.{Chess}
use Rattle.tabled_colorization.specs.Turns.{in_its_turn, in_turn, numbered, with_color}

-- ---- of one write for each cell, the one that covers a cell

module _ (color : ℕ → ℕ → Texts) (cell : Position) where
  writes : ℕ → List ℕ → List (EntityEvent Texts)
  writes row cols = map (λ col. write_of (Cell row col) (color row col)) cols

  covered : List (EntityEvent Texts) → List (EntityEvent Texts)
  covered events = filter (λ event. covers event.0 cell) events

  other_row : (row : ℕ) (cols : List ℕ) → (cell.row == row) ≡ false → covered (writes row cols) ≡ []
  unfolding writes covered
  other_row row [] other = refl
  other_row row (col ∷ cols) other =
      ap (λ b. cond (b && (cell.col == col)) (write_of (Cell row col) (color row col) ∷ covered (writes row cols)) (covered (writes row cols))) other ∙ other_row row cols other

  later_columns : (row a n : ℕ) → cell.col < a → covered (writes row (range_with_len a n)) ≡ []
  unfolding writes covered
  later_columns row a zero before = refl
  later_columns row a (suc n) before =
      let rest = covered (writes row (range_with_len (a + 1) n)) in
      let other : (cell.col == a) ≡ false = grind (arith, nat_tests) in
      ap (λ b. cond ((cell.row == row) && b) (write_of (Cell row a) (color row a) ∷ rest) rest) other
      ∙ ap (λ b. cond b (write_of (Cell row a) (color row a) ∷ rest) rest) (and-false (cell.row == row))
      ∙ later_columns row (a + 1) n (omega arith)

  in_row : (row a n : ℕ) → (cell.row == row) ≡ true → a ≤ cell.col → cell.col < a + n → covered (writes row (range_with_len a n)) ≡ write_of (Cell row cell.col) (color row cell.col) ∷ []
  unfolding writes covered
  in_row row a zero same from to = absurd (omega arith)
  in_row row a (suc n) same from to = at (λ from to. in_row row (a + 1) n same from to) (cell.col == a) refl
    where
      first : (b : Bool) → (cell.col == a) ≡ b → covered (writes row (range_with_len a (suc n))) ≡ cond b (write_of (Cell row a) (color row a) ∷ covered (writes row (range_with_len (a + 1) n))) (covered (writes row (range_with_len (a + 1) n)))
      first b is = (λ i. cond (same i && is i) (write_of (Cell row a) (color row a) ∷ covered (writes row (range_with_len (a + 1) n))) (covered (writes row (range_with_len (a + 1) n))))

      at : (a + 1 ≤ cell.col → cell.col < a + 1 + n → covered (writes row (range_with_len (a + 1) n)) ≡ write_of (Cell row cell.col) (color row cell.col) ∷ []) → (b : Bool) → (cell.col == a) ≡ b → covered (writes row (range_with_len a (suc n))) ≡ write_of (Cell row cell.col) (color row cell.col) ∷ []
      at further true is =
          let here : a ≡ cell.col = grind (arith, nat_tests) in
          first true is ∙ ap (λ events. write_of (Cell row a) (color row a) ∷ events) (later_columns row (a + 1) n (omega (arith, here)))
          ∙ ap (λ col. write_of (Cell row col) (color row col) ∷ []) here
      at further false is = first false is ∙ further (grind (arith, nat_tests)) (omega arith)

  later_rows : (a n : ℕ) (cols : List ℕ) → cell.row < a → covered (flat_map (λ row. writes row cols) (range_with_len a n)) ≡ []
  unfolding covered
  later_rows a zero cols before = refl
  later_rows a (suc n) cols before =
      filter-append (λ event. covers event.0 cell) (writes a cols) (flat_map (λ row. writes row cols) (range_with_len (a + 1) n))
      ∙ (λ i. other_row a cols (let other : (cell.row == a) ≡ false = grind (arith, nat_tests) in other) i ++ later_rows (a + 1) n cols (omega arith) i)

  in_rows : (a n cols : ℕ) → a ≤ cell.row → cell.row < a + n → cell.col < cols → covered (flat_map (λ row. writes row (below cols)) (range_with_len a n)) ≡ write_of (Cell cell.row cell.col) (color cell.row cell.col) ∷ []
  unfolding covered
  in_rows a zero cols from to inside = absurd (omega arith)
  in_rows a (suc n) cols from to inside =
      filter-append (λ event. covers event.0 cell) (writes a (below cols)) (flat_map (λ row. writes row (below cols)) (range_with_len (a + 1) n)) ∙ at (λ from to. in_rows (a + 1) n cols from to inside) (cell.row == a) refl
    where
      at : (a + 1 ≤ cell.row → cell.row < a + 1 + n → covered (flat_map (λ row. writes row (below cols)) (range_with_len (a + 1) n)) ≡ write_of (Cell cell.row cell.col) (color cell.row cell.col) ∷ []) → (b : Bool) → (cell.row == a) ≡ b → covered (writes a (below cols)) ++ covered (flat_map (λ row. writes row (below cols)) (range_with_len (a + 1) n)) ≡ write_of (Cell cell.row cell.col) (color cell.row cell.col) ∷ []
      at further true is =
          let here : a ≡ cell.row = grind (arith, nat_tests) in
          (λ i. in_row a 0 cols is (omega arith) (omega arith) i ++ later_rows (a + 1) n (below cols) (omega (arith, here)) i)
          ∙ ap (λ row. write_of (Cell row cell.col) (color row cell.col) ∷ []) here
      at further false is = (λ i. other_row a (below cols) is i ++ further (grind (arith, nat_tests)) (omega arith) i)

-- ---- the writes of a chess board

module _ (white black : Shade) where
  by_parity : ℕ → Shade
  by_parity k = if k % 2 == 0 then white else black

  of_two : (n : ℕ) → n < 2 → slice_get (texts_of white ∷ texts_of black ∷ []) n ≡ Some (texts_of (if n == 0 then white else black))
  of_two zero h = refl
  of_two (suc zero) h = ap (λ b. Some (texts_of (cond b white black))) (let one : false ≡ (suc zero == 0) = grind (arith, nat_tests) in one)
  of_two (suc (suc n)) h = absurd (omega arith)

  row_written : (row : ℕ) (cols : List ℕ) → text_writes (in_turn (texts_of white ∷ texts_of black ∷ []) (map (λ col. (Cell row col, row + col)) cols)) ≡ map (λ col. write_of (Cell row col) (texts_of (if (row + col) % 2 == 0 then white else black))) cols
  row_written row [] = refl
  row_written row (col ∷ cols) =
      ap (λ shade. text_writes (with_color (Cell row col) shade ++ in_turn (texts_of white ∷ texts_of black ∷ []) (map (λ col. (Cell row col, row + col)) cols))) (of_two ((row + col) % 2) (omega arith))
      ∙ ap (λ rest. write_of (Cell row col) (texts_of (if (row + col) % 2 == 0 then white else black)) ∷ rest) (row_written row cols)

  board_written : (rows cols : List ℕ) → text_writes (in_turn (texts_of white ∷ texts_of black ∷ []) (flat_map (λ row. map (λ col. (Cell row col, row + col)) cols) rows)) ≡ flat_map (λ row. map (λ col. write_of (Cell row col) (texts_of (if (row + col) % 2 == 0 then white else black))) cols) rows
  board_written [] cols = refl
  board_written (row ∷ rows) cols =
      let line : List (Entity × ℕ) = map (λ col. (Cell row col, row + col)) cols in
      let lines : List (Entity × ℕ) = flat_map (λ row. map (λ col. (Cell row col, row + col)) cols) rows in
      ap text_writes (flat_map-append (in_its_turn (texts_of white ∷ texts_of black ∷ [])) line lines)
      ∙ map-append (λ colored. write_of colored.0 colored.1) (in_turn (texts_of white ∷ texts_of black ∷ []) line) (in_turn (texts_of white ∷ texts_of black ∷ []) lines)
      ∙ (λ i. row_written row cols i ++ board_written rows cols i)

  pub on_the_board : (rows cols row col : ℕ) (default : Texts) → row < rows → col < cols → setting (text_writes (in_turn (texts_of white ∷ texts_of black ∷ []) (numbered Chess rows cols))) default (position row col) ≡ texts_of (if (row + col) % 2 == 0 then white else black)
  unfolding numbered covered writes
  on_the_board rows cols row col default h k =
      ap (λ events. unwrap_or (option_and_then (λ event. event.1) (last_or None (filter (λ event. covers event.0 (position row col)) events))) default) (board_written (below rows) (below cols))
      ∙ ap (λ events. unwrap_or (option_and_then (λ event. event.1) (last_or None events)) default) (in_rows (λ r c. texts_of (if (r + c) % 2 == 0 then white else black)) (position row col) 0 rows cols (omega arith) (omega arith) k)
