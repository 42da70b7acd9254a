-- Sides, marks, rows and lines of a painted table, part by part.
use Rattle.std.proofs.Common.{◌≡◌, ◌≢◌, ℕ, ◌+◌, ◌<◌, ◌≤◌, Bool, true, false, if◌then◌else◌, Option, Some, None, List, [], ◌∷◌, ◌++◌, map, length, get_or, refl, sym, ap, subst, ◌∙◌, arith, encode_utf8, Vec, option_copied}
use Rattle.std.specs.List.{flat_map}
use Rattle.std.proofs.lemmas.Bool.Decides.{nat_tests}
use Rattle.std.proofs.lemmas.List.{append-nil, append_assoc, map-append, get_or-map}
use Rattle.std.proofs.lemmas.List.FromFn.{map-range_with_len_more, length-range_with_len}
use Rattle.tabled_object.specs.Entities.{below}
use Rattle.tabled_configuration.proofs.Below.{flat_map_below}
use Rattle.tabled_printing.specs.Along.{is_empty}
use Rattle.tabled_printing.specs.declared.mark.Mark.{Mark}
use Rattle.tabled_printing.specs.declared.mark.Run.{Run}
use Rattle.tabled_printing.specs.Marks.{mark_of, run_marks}
use Rattle.tabled_printing.specs.Picture.{Look, Shown, character, mark_at}
use Rattle.tabled_printing.specs.Beside.{mark_beside}
use Rattle.tabled_places.specs.declared.place.Place.{Place}
use Rattle.tabled_cells.specs.Placed.{times}
use Rattle.tabled_painting.specs.declared.painter.Painter.{Painter}
use Rattle.tabled_painting.specs.Painted.{Painted, paint}
use Rattle.tabled_painting.specs.InColor.{Paints}
use Rattle.tabled_painting.specs.PaintedTable.{painted_mark, painted_marks, side_painted, painted_side}
use Rattle.tabled_cells.specs.TextsBy.{texts_by}
use Rattle.tabled_painting.proofs.PainterLemmas.{paints_both}

-- what holds of two choices by one test
pub by_test : {A B : Type 0} (R : A → B → Type 0) (b : Bool) (x z : A) (y w : B) → (b ≡ true → R x y) → (b ≡ false → R z w) → R (if b then x else z) (if b then y else w)
by_test R true x z y w first second = first refl
by_test R false x z y w first second = second refl

-- a run is its character, the given number of times
same_marks : {X : Type 0} (mark : Shown) (xs : List X) → painted_marks (map (λ _. mark) xs) ≡ paint mark.1 (times (length xs) (character mark.0))
same_marks mark [] = refl
same_marks mark (x ∷ xs) =
    ap (λ rest. painted_mark mark ++ rest) (same_marks mark xs)
    ∙ ap (λ bs. paint mark.1 bs ++ paint mark.1 (times (length xs) (character mark.0))) (append-nil (encode_utf8 (character mark.0)))
    ∙ sym (map-append (λ byte. (byte, mark.1)) (encode_utf8 (character mark.0)) (times (length xs) (character mark.0)))

pub run_painted : (run : Run) (code : ℕ) → code ≡ character (mark_of run.mark).0 → paint (mark_of run.mark).1 (times run.count code) ≡ painted_marks (run_marks run)
run_painted run code is =
    ap (λ n. paint (mark_of run.mark).1 (times run.count n)) is
    ∙ ap (λ n. paint (mark_of run.mark).1 (times n (character (mark_of run.mark).0))) (sym (length-range_with_len 0 run.count))
    ∙ sym (same_marks (mark_of run.mark) (below run.count))

-- the character of a mark and then those of a run, each in its color, or where nothing has one
pub marks_painted : (mark : Mark) (run : Run) (code edge : ℕ) → code ≡ character mark.shown → edge ≡ character run.mark.shown
    → paint (mark_of mark).1 (times 1 code) ++ paint (mark_of run.mark).1 (times run.count edge) ≡ painted_marks (mark_of mark ∷ run_marks run)
marks_painted mark run code edge is ends = λ i. paint (mark_of mark).1 (times 1 (is i)) ++ run_painted run edge ends i

pub plain_marks_painted : (mark : Mark) (run : Run) (code edge : ℕ) → code ≡ character mark.shown → edge ≡ character run.mark.shown → option_copied mark.color ≡ None → option_copied run.mark.color ≡ None
    → paint None (encode_utf8 code ++ times run.count edge) ≡ painted_marks (mark_of mark ∷ run_marks run)
plain_marks_painted mark run code edge is ends plain level =
    ap (λ bs. paint None (bs ++ times run.count edge)) (sym (append-nil (encode_utf8 code)))
    ∙ map-append (λ byte. (byte, None)) (times 1 code) (times run.count edge)
    ∙ (λ i. paint (sym plain i) (times 1 code) ++ paint (sym level i) (times run.count edge))
    ∙ marks_painted mark run code edge is ends

-- one thing more of a list, by what it shows
pub one_more : {A B : Type 0} (f : A → B) (g : ℕ → B) (old new : List A) (x : A) (at : ℕ) → new ≡ old ++ x ∷ [] → map f old ≡ map g (below at) → f x ≡ g at
    → map f new ≡ map g (below (at + 1))
one_more f g old new x at pushed made is =
    ap (map f) pushed ∙ map-append f old (x ∷ []) ∙ ap (λ front. front ++ f x ∷ []) made ∙ ap (λ y. map g (below at) ++ y ∷ []) is
    ∙ sym (map-range_with_len_more g 0 at at (omega arith))

-- a side as it is painted
pub side_is : (view : Look) (r k c : ℕ) (found : Option Shown) → found ≡ mark_beside view r k c → side_painted found ≡ painted_side view r k c
side_is view r k c found is = ap side_painted is ∙ by_case (view.vertical c)
  where
    by_case : (b : Bool) → side_painted (if b then Some (mark_at view (Place.Vertical r c k)) else None) ≡ (if b then painted_mark (mark_at view (Place.Vertical r c k)) else [])
    by_case true = refl
    by_case false = refl

-- a cell and the side after it, behind the parts so far and the side before it
pub sides_more : (side cell : ℕ → Painted) (n : ℕ) (line after : Painted) → line ≡ cell n → after ≡ side (n + 1)
    → (flat_map (λ c. side c ++ cell c) (below n) ++ side n) ++ (line ++ after) ≡ flat_map (λ c. side c ++ cell c) (below (n + 1)) ++ side (n + 1)
sides_more side cell n line after is ends =
    let part : ℕ → Painted = λ c. side c ++ cell c in
    let front : Painted = flat_map part (below n) in
    (λ i. (front ++ side n) ++ (is i ++ ends i))
    ∙ sym (append_assoc (front ++ side n) (cell n) (side (n + 1)))
    ∙ ap (λ l. l ++ side (n + 1)) (append_assoc front (side n) (cell n) ∙ sym (flat_map_below part n))

module _ {O : Type 0} (gains : List ℕ → O → O → Type 0) (both : (xs ys : List ℕ) (old between new : O) → gains xs old between → gains ys between new → gains (xs ++ ys) old new) where
  pub cell_then_side : (side cell : ℕ → Painted) (n : ℕ) (line after : Painted) (old middle new : Painter O) → line ≡ cell n → after ≡ side (n + 1)
      → Paints gains (flat_map (λ c. side c ++ cell c) (below n) ++ side n) old middle → Paints gains (line ++ after) middle new
      → Paints gains (flat_map (λ c. side c ++ cell c) (below (n + 1)) ++ side (n + 1)) old new
  cell_then_side side cell n line after old middle new is ends p q =
      subst (λ l. Paints gains l old new) (sides_more side cell n line after is ends) (paints_both gains both (flat_map (λ c. side c ++ cell c) (below n) ++ side n) (line ++ after) old middle new p q)

-- what a thing of a list shows, among what all of them show
pub shown_at : {A B : Type 0} (f : A → B) (xs : List A) (at : ℕ) (x : A) (d : B) → at < length xs → x ≡ get_or xs at x → f x ≡ get_or (map f xs) at d
shown_at f xs at x d within read = ap f read ∙ sym (get_or-map f xs at x d within)

-- the texts of the row at a place
pub row_texts : {A Z : Type 0} (bytes : A → List ℕ) (rows : List (Vec A Z)) (r : ℕ) (row : Vec A Z) (items : List A) → r < length rows → row ≡ get_or rows r row → items ≡ row.items
    → map bytes items ≡ get_or (texts_by bytes rows) r []
row_texts bytes rows r row items within read same = ap (map bytes) same ∙ shown_at (λ v. map bytes v.items) rows r row [] within read

-- a row with a further line, and one that is not one line high
pub higher : (high rows at : ℕ) → high ≡ rows → 1 ≤ at → at < high → rows ≢ 1
higher high rows at same further within one = omega (arith, same, one)

-- a table that has places has columns
pub some_cols : (rows cols : ℕ) → is_empty (rows, cols) ≡ false → 0 < cols
some_cols rows cols any = grind (arith, nat_tests)
