-- The places of a line, piece by piece.
use Rattle.std.proofs.Common.{◌≡◌, ℕ, ◌+◌, ◌-◌, ◌^◌, min, true, is_some, Option, List, [], ◌++◌, length, take, drop, ap, sym, subst, ◌∙◌, arith, length-append, Result, OnOk, zip}
use Rattle.std.proofs.lemmas.List.{length-take, take_min}
use Rattle.std.proofs.lemmas.List.FromFn.{length-map-range_with_len}
use Rattle.tabled_places.specs.declared.place.Place.{Place}
use Rattle.tabled_places.specs.declared.place.LineOf.{LineOf}
use Rattle.tabled_grid.proofs.Seen.{on_ok}
use Rattle.tabled_printing.specs.Picture.{Look}
use Rattle.tabled_options.specs.declared.pen.Pen.{Pen}
use Rattle.tabled_options.specs.LineText.{takes_character, countable, places_along}
use Rattle.tabled_printing.specs.LinePieces.{has_line, pieces_of, piece_size, crossing_places, edge_of, edge_places, places_before, all_places}
use Rattle.tabled_printing.proofs.LineLemmas.{along_pieces, before_more}
use Rattle.tabled_options.specs.Passing.{Passed}
use Rattle.tabled_options.proofs.PassingLemmas.{Passed-none, Passed-append}
use Rattle.tabled_options.proofs.Zipping.{laid_on_first}

-- a crossing takes a character where it shows one
pub crossing_takes : (shown : Place → Option ℕ) (place : Place) (r c : ℕ) → place ≡ Place.Cross r c → is_some (shown place) ≡ takes_character shown place
crossing_takes shown place r c e = ap (λ p. is_some (shown p)) e ∙ sym (ap (takes_character shown) e)

module _ (view : Look) (line : LineOf) where
  -- no piece, one more, and all
  pub nothing_passed : (pen : Pen) → Passed (places_before view line 0) pen pen
  unfolding places_before
  nothing_passed pen = Passed-none pen

  pub piece_passed : (n : ℕ) (old first between new : Pen) → Passed (places_before view line n) old first → Passed (crossing_places view line n) first between → Passed (edge_places view line n) between new → Passed (places_before view line (n + 1)) old new
  piece_passed n old first between new before crossing edge =
      subst (λ places. Passed places old new) (sym (before_more view line n))
      (Passed-append (places_before view line n) (crossing_places view line n ++ edge_places view line n) old first new before
      (Passed-append (crossing_places view line n) (edge_places view line n) first between new crossing edge))

  pub line_passed : {A E : Type 0} (result : Result A E) (n count : ℕ) (old between new : Pen) → n ≡ count → count ≡ pieces_of view.shape line → Passed (places_before view line n) old between → OnOk result (Passed (crossing_places view line count) between new) → OnOk result (Passed (all_places view line) old new)
  unfolding all_places
  line_passed result n count old between new last is before crossing =
      on_ok result (λ closing. subst (λ k. Passed (places_before view line k ++ crossing_places view line k) old new) is
      (Passed-append (places_before view line count) (crossing_places view line count) old between new
      (subst (λ k. Passed (places_before view line k) old between) last before) closing)) crossing

  -- how many there are so far, as far as a number reaches
  pub none_counted : 0 ≡ min (2 ^ 64 - 1) (length (places_before view line 0))
  unfolding places_before
  none_counted = omega arith

  pub piece_counted : (n total crossing size places new : ℕ) → total ≡ min (2 ^ 64 - 1) (length (places_before view line n)) → crossing ≡ length (crossing_places view line n) → size ≡ piece_size view.widths view.heights line n
      → places ≡ min (crossing + size) (2 ^ 64 - 1) → new ≡ min (total + places) (2 ^ 64 - 1) → new ≡ min (2 ^ 64 - 1) (length (places_before view line (n + 1)))
  piece_counted n total crossing size places new so_far crosses sized both added =
      let edge : length (edge_places view line n) ≡ piece_size view.widths view.heights line n = length-map-range_with_len (edge_of line n) 0 (piece_size view.widths view.heights line n) in
      let more : length (places_before view line (n + 1)) ≡ length (places_before view line n) + length (crossing_places view line n ++ edge_places view line n) =
      ap length (before_more view line n) ∙ length-append (places_before view line n) (crossing_places view line n ++ edge_places view line n) in
      let piece : length (crossing_places view line n ++ edge_places view line n) ≡ length (crossing_places view line n) + length (edge_places view line n) = length-append (crossing_places view line n) (edge_places view line n) in
      omega arith

  pub line_counted : (n count total crossing new : ℕ) → n ≡ count → count ≡ pieces_of view.shape line → total ≡ min (2 ^ 64 - 1) (length (places_before view line n)) → crossing ≡ length (crossing_places view line count)
      → new ≡ min (total + crossing) (2 ^ 64 - 1) → new ≡ min (2 ^ 64 - 1) (length (all_places view line))
  unfolding all_places
  line_counted n count total crossing new last is so_far crosses added =
      let closed : length (all_places view line) ≡ length (places_before view line (pieces_of view.shape line)) + length (crossing_places view line (pieces_of view.shape line)) = length-append (places_before view line (pieces_of view.shape line)) (crossing_places view line (pieces_of view.shape line)) in
      let before : length (places_before view line n) ≡ length (places_before view line (pieces_of view.shape line)) = ap (λ k. length (places_before view line k)) (last ∙ is) in
      let closing : length (crossing_places view line count) ≡ length (crossing_places view line (pieces_of view.shape line)) = ap (λ k. length (crossing_places view line k)) is in
      omega arith

-- what is laid with as many letters as there is room for is laid on the places that are counted
counted_first : (most : ℕ) (all : List Place) → length (take (min (length all) most) all) ≡ min most (length all)
counted_first most all = let long : length (take (min (length all) most) all) ≡ min (min (length all) most) (length all) = length-take (min (length all) most) all in omega arith

laid_counted : (most start total room : ℕ) (all : List Place) (letters : List ℕ) → total ≡ min most (length all) → room ≡ min (length letters) (total - start) → zip (drop start all) (take room letters) ≡ zip (drop start (take (min (length all) most) all)) letters
laid_counted most start total room all letters counted fits =
    let free : room ≡ min (min (min (length all) most) (length all) - start) (length letters) = omega arith in
    ap (λ n. zip (drop start all) (take n letters)) free
    ∙ ap (λ few. zip (drop start all) few) (take_min (min (min (length all) most) (length all) - start) letters)
    ∙ sym (laid_on_first start (min (length all) most) all letters)

-- how many places can be counted
pub places_counted : (view : Look) (line : LineOf) (total : ℕ) → has_line view.shape line ≡ true → total ≡ min (2 ^ 64 - 1) (length (all_places view line)) → total ≡ length (places_along view line)
unfolding places_along
places_counted view line total there counted =
    counted ∙ sym (counted_first (2 ^ 64 - 1) (all_places view line)) ∙ ap (λ places. length (countable places)) (sym (along_pieces view line there))

-- what is laid along the pieces with as many letters as there is room for is laid along the places
pub laid_along : (view : Look) (line : LineOf) (start total room : ℕ) (letters : List ℕ) (taken none : List (Place × ℕ)) → has_line view.shape line ≡ true → total ≡ length (places_along view line) → room ≡ min (length letters) (total - start)
    → none ≡ [] → taken ≡ none ++ zip (drop start (all_places view line)) (take room letters) → taken ≡ zip (drop start (places_along view line)) letters
unfolding places_along
laid_along view line start total room letters taken none there counted fits empty laid =
    let all : List Place = all_places view line in
    let same = along_pieces view line there in
    laid ∙ ap (λ es. es ++ zip (drop start all) (take room letters)) empty
    ∙ laid_counted (2 ^ 64 - 1) start total room all letters (counted ∙ ap (λ places. length (countable places)) same ∙ counted_first (2 ^ 64 - 1) all) fits
    ∙ ap (λ places. zip (drop start (countable places)) letters) (sym same)
