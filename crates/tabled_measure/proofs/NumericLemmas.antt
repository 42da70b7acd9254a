-- Columns of numbers below headings.
use Rattle.std.proofs.Common.{◌≡◌, ℕ, ◌-◌, List, [], ◌∷◌, map, drop, take, length, min, refl, sym, ap, ◌∙◌}
use Rattle.std.specs.List.{drop-map}
use Rattle.std.specs.declared.vec.Vec.{Vec}
use Rattle.std.proofs.lemmas.List.{drop_min, take_rest}
use Rattle.tabled_configuration.specs.Configuration.{cell_colors_of}
use Rattle.tabled_configuration.specs.EntitiesAligned.{entities_aligned}
use Rattle.tabled_cells.specs.TextsBy.{texts_by}
use Rattle.tabled_measure.specs.Numeric.{at_right}

-- no cell is colored by it
pub none_colored : (columns : List ℕ) → cell_colors_of (at_right columns) ≡ []
unfolding entities_aligned
none_colored [] = refl
none_colored (col ∷ columns) = none_colored columns

-- the rows below the headings
pub below_headings : {T Z : Type 0} (bytes : T → List ℕ) (headings n : ℕ) (rows : List (Vec T Z)) → n ≡ min headings (length rows)
    → texts_by bytes (take (length rows - n) (drop n rows)) ≡ drop headings (texts_by bytes rows)
below_headings bytes headings n rows is =
    ap (texts_by bytes) (take_rest rows n ∙ ap (λ k. drop k rows) is ∙ drop_min headings rows) ∙ sym (drop-map (λ row. map bytes row.items) headings rows)
