-- The cell is the last one, or not.
use Rattle.std.proofs.Common.{◌≡◌, ◌-◌, ◌<◌, ℕ, zero, suc, Bool, List, ◌∷◌, sym, ap, ◌∙◌, arith}
use Rattle.std.proofs.lemmas.Grind.{common_steps}
use Rattle.tabled_input.specs.Spaced.{after_cell, cells_of_line, first_cell}
use Rattle.tabled_input.proofs.spacing.cut_cell.Goals as goal

other : (is_wide : Bool) (columns : ℕ) (line : List ℕ) → 1 < columns → cells_of_line is_wide columns line ≡ first_cell is_wide line ∷ cells_of_line is_wide (columns - 1) (after_cell is_wide line)
unfolding cells_of_line
other is_wide zero line h = absurd (omega arith)
other is_wide (suc zero) line h = absurd (omega arith)
other is_wide (suc (suc more)) line h =
    ap (λ n. first_cell is_wide line ∷ cells_of_line is_wide n (after_cell is_wide line)) (let e : suc more ≡ suc (suc more) - 1 = omega arith in e)

pub returns-then-columns-eq1 : goal.returns-then-columns-eq1
unfolding cells_of_line
returns-then-columns-eq1 c = grind (arith, common_steps)

pub returns-else-columns-eq1 : goal.returns-else-columns-eq1
returns-else-columns-eq1 c =
    other c.args.is_wide c.args.columns c.args.line.now (omega arith)
    ∙ (λ i. sym c.split_cell.ensures.cell i ∷ cells_of_line c.args.is_wide (c.args.columns - 1) (sym c.split_cell.ensures.rest i))
