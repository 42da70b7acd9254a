-- Lines of a page, one after another.
use Rattle.std.proofs.Common.{◌≡◌, ℕ, ◌+◌, ◌≤◌, Bool, true, false, min, if◌then◌else◌, None, List, [], ◌∷◌, ◌++◌, map, length, replicate, refl, sym, ap, subst, ◌∙◌, arith, option_copied}
use Rattle.std.specs.List.{flat_map, join_with_byte}
use Rattle.std.proofs.lemmas.List.{append-nil, append_assoc, replicate_more}
use Rattle.std.proofs.lemmas.List.FromFn.{map-range_with_len_more}
use Rattle.tabled_object.specs.Entities.{below}
use Rattle.tabled_configuration.proofs.Below.{flat_map_below}
use Rattle.tabled_painting.specs.declared.painter.Painter.{Painter}
use Rattle.tabled_painting.specs.declared.page.Page.{Page}
use Rattle.tabled_painting.specs.Painted.{Painted}
use Rattle.tabled_painting.specs.InColor.{Paints, feed_if}
use Rattle.tabled_painting.specs.Margin.{Side, side_of, side_at, between_sides}
use Rattle.tabled_painting.specs.Pages.{BeginsLine, EndsLine, SamePage, PaintsLines, PaintsWhole, begun_with, counted_sides, joined, line_text, most, number_after, text_of_lines}
use Rattle.tabled_painting.proofs.PainterLemmas.{begins_more}

-- ---- lines as they are counted

-- lines after others have the numbers after theirs
counted_both : (left right : Side) (high n : ℕ) (xs ys : List Painted)
    → counted_sides left right high n (xs ++ ys) ≡ counted_sides left right high n xs ++ counted_sides left right high (number_after n xs) ys
counted_both left right high n [] ys = refl
counted_both left right high n (x ∷ xs) ys =
    ap (λ rest. (side_at left high n left.size ++ x ++ side_at right high n right.size) ∷ rest) (counted_both left right high (min (n + 1) most) xs ys)

number_both : (n : ℕ) (xs ys : List Painted) → number_after n (xs ++ ys) ≡ number_after (number_after n xs) ys
number_both n [] ys = refl
number_both n (x ∷ xs) ys = number_both (min (n + 1) most) xs ys

-- while a number says how many there are, they have their numbers
pub counted_are : (left right : Side) (high n : ℕ) (lines : List Painted) → n + length lines ≤ most → counted_sides left right high n lines ≡ between_sides left right high n lines
counted_are left right high n [] within = refl
counted_are left right high n (line ∷ lines) within =
    let next : min (n + 1) most ≡ n + 1 = omega (arith, within) in
    ap (λ rest. (side_at left high n left.size ++ line ++ side_at right high n right.size) ∷ rest)
    (ap (λ m. counted_sides left right high m lines) next ∙ counted_are left right high (n + 1) lines (omega (arith, within)))

-- ---- lines as they are written

joined_both : (wanted begun : Bool) (xs ys : List Painted) → joined wanted begun (xs ++ ys) ≡ joined wanted begun xs ++ joined wanted (begun_with begun xs) ys
joined_both wanted begun [] ys = refl
joined_both wanted begun (x ∷ xs) ys =
    ap (λ rest. feed_if begun ++ line_text wanted x ++ rest) (joined_both wanted true xs ys ∙ ap (λ b. joined wanted true xs ++ joined wanted b ys) (still xs))
    ∙ append_assoc_three (feed_if begun) (line_text wanted x) (joined wanted true xs) (joined wanted true ys)
  where
    still : (xs : List Painted) → begun_with true xs ≡ true
    still [] = refl
    still (x ∷ xs) = refl

    append_assoc_three : (a b c d : List ℕ) → a ++ b ++ (c ++ d) ≡ (a ++ b ++ c) ++ d
    append_assoc_three a b c d = sym (append_assoc (a ++ b) c d)

begun_both : (begun : Bool) (xs ys : List Painted) → begun_with begun (xs ++ ys) ≡ begun_with (begun_with begun xs) ys
begun_both begun [] ys = refl
begun_both begun (x ∷ xs) [] = refl
begun_both begun (x ∷ xs) (y ∷ ys) = refl

-- the first lines of a text
pub joined_first : (wanted : Bool) (lines : List Painted) → joined wanted false lines ≡ text_of_lines wanted lines
unfolding text_of_lines
joined_first wanted [] = refl
joined_first wanted (line ∷ lines) = further line lines
  where
    further : (line : Painted) (lines : List Painted) → line_text wanted line ++ joined wanted true lines ≡ join_with_byte 10 (map (line_text wanted) (line ∷ lines))
    further line [] = append-nil (line_text wanted line)
    further line (next ∷ lines) = ap (λ rest. line_text wanted line ++ 10 ∷ rest) (further next lines)

-- ---- pages

pub same_both : {O : Type 0} (old middle new : Page O) → SamePage old middle → SamePage middle new → SamePage old new
same_both old middle new p q = record { left = q.left ∙ p.left; right = q.right ∙ p.right; high = q.high ∙ p.high }

-- a horizontal line, if it is drawn
pub line_drawn : {O : Type 0} (gains : List ℕ → O → O → Type 0) (drawn : Bool) (line : Painted) (old new : Page O) → drawn ≡ true → PaintsLines gains (line ∷ []) old new
    → PaintsLines gains (if drawn then line ∷ [] else []) old new
line_drawn gains drawn line old new is = subst (λ lines. PaintsLines gains lines old new) (ap (λ b. if b then line ∷ [] else []) (sym is))

module _ {O : Type 0} (gains : List ℕ → O → O → Type 0) (none : (out : O) → gains [] out out) where
  pub none_whole : (painter : Painter O) → option_copied painter.color ≡ None → PaintsWhole gains [] painter painter
  none_whole painter ended = record { text = none painter.out; begun = refl; ended = ended; same_colors = refl }

  pub no_lines : (page : Page O) → option_copied page.painter.color ≡ None → PaintsLines gains [] page page
  no_lines page ended = record {
    whole = none_whole page.painter ended;
    number = refl;
    same = record { left = refl; right = refl; high = refl };
  }

  pub line_not_drawn : (drawn : Bool) (line : Painted) (page : Page O) → drawn ≡ false → option_copied page.painter.color ≡ None → PaintsLines gains (if drawn then line ∷ [] else []) page page
  line_not_drawn drawn line page is ended = subst (λ lines. PaintsLines gains lines page page) (ap (λ b. if b then line ∷ [] else []) (sym is)) (no_lines page ended)

module _ {O : Type 0} (gains : List ℕ → O → O → Type 0) (both : (xs ys : List ℕ) (old between new : O) → gains xs old between → gains ys between new → gains (xs ++ ys) old new) where
  pub whole_both : (xs ys : List Painted) (old middle new : Painter O) → PaintsWhole gains xs old middle → PaintsWhole gains ys middle new → PaintsWhole gains (xs ++ ys) old new
  whole_both xs ys old middle new p q = record {
    text =
        subst (λ bs. gains bs old.out new.out) (sym (joined_both old.with_colors old.has_begun xs ys))
        (both (joined old.with_colors old.has_begun xs) (joined old.with_colors (begun_with old.has_begun xs) ys) old.out middle.out new.out p.text
        (subst (λ bs. gains bs middle.out new.out) (λ i. joined (p.same_colors i) (p.begun i) ys) q.text));
    begun = q.begun ∙ ap (λ b. begun_with b ys) p.begun ∙ sym (begun_both old.has_begun xs ys);
    ended = q.ended;
    same_colors = q.same_colors ∙ p.same_colors;
  }

  pub strip_more : (line : Painted) (n : ℕ) (old middle new : Painter O) → PaintsWhole gains (replicate n line) old middle → PaintsWhole gains (line ∷ []) middle new → PaintsWhole gains (replicate (n + 1) line) old new
  strip_more line n old middle new p q = subst (λ lines. PaintsWhole gains lines old new) (replicate_more n line) (whole_both (replicate n line) (line ∷ []) old middle new p q)

  pub lines_both : (xs ys : List Painted) (old middle new : Page O) → PaintsLines gains xs old middle → PaintsLines gains ys middle new → PaintsLines gains (xs ++ ys) old new
  lines_both xs ys old middle new p q =
      let left = side_of old.left in
      let right = side_of old.right in
      record {
        whole =
            subst (λ lines. PaintsWhole gains lines old.painter new.painter) (sym (counted_both left right old.high old.number xs ys))
            (whole_both (counted_sides left right old.high old.number xs) (counted_sides left right old.high (number_after old.number xs) ys) old.painter middle.painter new.painter p.whole
            (subst (λ lines. PaintsWhole gains lines middle.painter new.painter) (λ i. counted_sides (side_of (p.same.left i)) (side_of (p.same.right i)) (p.same.high i) (p.number i) ys) q.whole));
        number = q.number ∙ ap (λ n. number_after n ys) p.number ∙ sym (number_both old.number xs ys);
        same = same_both old middle new p.same q.same;
      }

  -- a line: its left side, what stands in it, and its right side
  pub line_painted : (old begun painted new : Page O) (line : Painted)
      → BeginsLine gains (side_at (side_of old.left) old.high old.number old.left.size) old.painter begun.painter → begun.number ≡ old.number → SamePage old begun
      → Paints gains line begun.painter painted.painter → painted.number ≡ begun.number → SamePage begun painted → EndsLine gains painted new → PaintsLines gains (line ∷ []) old new
  line_painted old begun painted new line p same_number begun_same q number_kept painted_same ends =
      let left : Painted = side_at (side_of old.left) old.high old.number old.left.size in
      let upto = same_both old begun painted begun_same painted_same in
      let there : painted.number ≡ old.number = number_kept ∙ same_number in
      record {
        whole =
            subst (λ lines. PaintsWhole gains lines old.painter new.painter)
            (λ i. (left ++ line ++ side_at (side_of (upto.right i)) (upto.high i) (there i) (upto.right i).size) ∷ [])
            (ends.whole (left ++ line) old.painter (begins_more gains both left line old.painter begun.painter painted.painter p q));
        number = ends.number ∙ ap (λ n. min (n + 1) most) there;
        same = same_both old painted new upto ends.same;
      }

  -- a line of a row more
  pub line_more : (line : ℕ → Painted) (n : ℕ) (other : Painted) (old middle new : Page O) → other ≡ line n → PaintsLines gains (map line (below n)) old middle → PaintsLines gains (other ∷ []) middle new
      → PaintsLines gains (map line (below (n + 1))) old new
  line_more line n other old middle new is p q =
      subst (λ lines. PaintsLines gains lines old new) (ap (λ l. map line (below n) ++ l ∷ []) is ∙ sym (map-range_with_len_more line 0 n n (omega arith))) (lines_both (map line (below n)) (other ∷ []) old middle new p q)

  -- a row more: the line above it and its lines
  pub row_more : (above row : ℕ → List Painted) (n : ℕ) (lines : List Painted) (old first second new : Page O) → lines ≡ row n
      → PaintsLines gains (flat_map (λ r. above r ++ row r) (below n)) old first → PaintsLines gains (above n) first second → PaintsLines gains lines second new
      → PaintsLines gains (flat_map (λ r. above r ++ row r) (below (n + 1))) old new
  row_more above row n lines old first second new is p q r =
      subst (λ ls. PaintsLines gains ls old new) (sym (flat_map_below (λ k. above k ++ row k) n))
      (lines_both (flat_map (λ k. above k ++ row k) (below n)) (above n ++ row n) old first new p (subst (λ ls. PaintsLines gains (above n ++ ls) first new) is (lines_both (above n) lines first second new q r)))
