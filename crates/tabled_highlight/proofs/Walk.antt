-- What is written around each cell of a list is the outline of their set.
use Rattle.std.proofs.Common.{◌≡◌, ℕ, suc, ◌+◌, ◌^◌, ◌<◌, Bool, true, List, [], ◌∷◌, ap, subst, ◌∙◌, arith}
use Rattle.std.proofs.lemmas.Bool.{or_left, or_right}
use Rattle.tabled_object.specs.declared.position.Position.{Position}
use Rattle.tabled_object.specs.Entities.{position}
use Rattle.tabled_object.proofs.Sets.{is_here, here_itself, same_here}
use Rattle.tabled_places.specs.declared.site.Site.{Site}
use Rattle.tabled_places.specs.declared.site.Site.TheVariants.{Cell as at_spot}
use Rattle.tabled_places.specs.Event.{covered}
use Rattle.tabled_places.proofs.Replay.{covered-append}
use Rattle.tabled_places.proofs.Leaving.{AllOf, all_of-append, Leaves, on_spots, leaves_on_spots}
use Rattle.tabled_highlight.specs.Outline.{Outlining, CellSet, outline_value}
use Rattle.tabled_highlight.specs.Around.{has, all_written, around, line_after, written_around_each}
use Rattle.tabled_highlight.proofs.Tests.{one_holds}
use Rattle.tabled_highlight.proofs.CellOutline.{found, around_agrees}

-- a cell with lines after its own
pub record Fits (pos : Position) : Type 0 where
  pub row_fits : pos.row + 1 < 2 ^ 64
  pub col_fits : pos.col + 1 < 2 ^ 64

next_is : (n : ℕ) → n + 1 < 2 ^ 64 → suc n ≡ line_after n
next_is n h = omega arith

module _ {T : Type 0} (given : Outlining T) (cells : CellSet) where
  lines_are : (pos : Position) → Fits pos → around given cells pos.row (suc pos.row) pos.col (suc pos.col) ≡ around given cells pos.row (line_after pos.row) pos.col (line_after pos.col)
  lines_are pos fits = λ i. around given cells pos.row (next_is pos.row fits.row_fits i) pos.col (next_is pos.col fits.col_fits i)

  -- all of it is of the outline
  each_agrees : (list : List Position) → ((pos : Position) → has list pos ≡ true → (cells pos ≡ true) × Fits pos) → AllOf (on_spots (outline_value cells given)) (written_around_each given cells list)
  each_agrees [] h = tt
  each_agrees (pos ∷ list) h =
      let here = h pos (or_left (is_here pos pos) (has list pos) (here_itself pos)) in
      all_of-append (on_spots (outline_value cells given)) (all_written (around given cells pos.row (line_after pos.row) pos.col (line_after pos.col))) (written_around_each given cells list)
      (subst (λ entries. AllOf (on_spots (outline_value cells given)) (all_written entries)) (lines_are pos here.1) (around_agrees given cells pos.row pos.col here.0))
      (each_agrees list (λ other among. h other (or_right (is_here other pos) (has list other) among)))

  -- what is written around a cell of the list is written
  each_covers : (list : List Position) (pos : Position) (q : Site) → has list pos ≡ true → covered (all_written (around given cells pos.row (line_after pos.row) pos.col (line_after pos.col))) q ≡ true
      → covered (written_around_each given cells list) q ≡ true
  each_covers [] pos q among h = absurd cc
  each_covers (first ∷ list) pos q among h =
      let at : Position → Bool = λ p. covered (all_written (around given cells p.row (line_after p.row) p.col (line_after p.col))) q in
      covered-append q (all_written (around given cells first.row (line_after first.row) first.col (line_after first.col))) (written_around_each given cells list)
      ∙ one_holds (is_here pos first) (has list pos) among
      (λ e. or_left (at first) (covered (written_around_each given cells list) q) (ap at (same_here pos first e) ∙ h))
      (λ e. or_right (at first) (covered (written_around_each given cells list) q) (each_covers list pos q e h))

-- the outline of the set of a list is what is written around its cells
pub walk_leaves : {T : Type 0} (given : Outlining T) (list : List Position) → ((pos : Position) → has list pos ≡ true → Fits pos) → Leaves (on_spots (outline_value (has list) given)) (written_around_each given (has list) list)
walk_leaves given list fit =
    leaves_on_spots (outline_value (has list) given) (written_around_each given (has list) list) (each_agrees given (has list) list (λ pos among. (among, fit pos among)))
    (λ spot h.
    let cell = found given (has list) spot h in
    let pos = position cell.row cell.col in
    each_covers given (has list) list pos (at_spot spot) cell.chosen
    (subst (λ entries. covered (all_written entries) (at_spot spot) ≡ true) (lines_are given (has list) pos (fit pos cell.chosen)) cell.written))
