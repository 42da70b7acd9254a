use Rattle.std.proofs.Common.{rules, tests, arith, ℕ, Bool, ◌-◌, ◌≤◌, refl, ◌∙◌}
use Rattle.std.proofs.lemmas.Iterator.{YieldsList-from_range}
use Rattle.std.proofs.lemmas.Iterator.Search.{any_from_yields_List}
use Rattle.tabled_layout.specs.Covering.{covered_from_row}
use Rattle.tabled_layout.proofs.CoveringLemmas.{any_from_rows}
use Rattle.tabled_layout.proofs.spans.Spans.cover_with.Goals as goal

pub returns-then-len : goal.returns-then-len
returns-then-len c =
    let first : ℕ = c.first_reaching.result in
    let rows : ℕ = c.args.cell.row - first in
    let at_most : first ≤ c.args.cell.row = c.first_reaching.ensures.at_most in
    let at_row : ℕ → Bool = λ row. covered_from_row c.args.self.now c.args.rows.now row c.args.cell in
    any_from_yields_List at_row _ _ _ c.any.ensures.ran (YieldsList-from_range first c.args.cell.row rows refl refl) (λ x b q k. search (rules, tests))
    ∙ any_from_rows c.args.self.now c.args.rows.now first rows c.args.cell c.first_reaching.ensures.reached (omega arith)
