-- What the step leaves.
use Rattle.std.proofs.Common.{refl}
use Rattle.tabled_input.proofs.Steps.{row_taken, cell_taken, letter_taken, nothing_taken, end_by_row, end_by_cell, end_by_letter, end_by_nothing}
use Rattle.tabled_input.proofs.reader.Reader.take.Goals as goal

pub returns-in_ok-end_row-in-Row-clause-rows : goal.returns-in_ok-end_row-in-Row-clause-rows
returns-in_ok-end_row-in-Row-clause-rows c = λ more.
    let step = c.in_ok-end_row-in-Row.ensures in
    row_taken c.args.self.now.separator c.args.self.now.at c.args.character more _ _ _ _ _ _ _ step.separator c.in-Row.ensures step.rows step.row step.cell

pub returns-in_ok-end_row-in-Row-clause-end : goal.returns-in_ok-end_row-in-Row-clause-end
returns-in_ok-end_row-in-Row-clause-end c = λ more.
    end_by_row c.args.self.now.separator c.args.self.now.at c.args.character more _ c.in_ok-end_row-in-Row.ensures.separator c.in-Row.ensures

pub returns-in_ok-end_cell-in-Cell-clause-rows : goal.returns-in_ok-end_cell-in-Cell-clause-rows
returns-in_ok-end_cell-in-Cell-clause-rows c = λ more.
    let step = c.in_ok-end_cell-in-Cell.ensures in
    cell_taken c.args.self.now.separator c.args.self.now.at c.args.character more _ _ _ _ _ _ _ refl c.in-Cell.ensures step.rows step.row step.cell

pub returns-in_ok-end_cell-in-Cell-clause-end : goal.returns-in_ok-end_cell-in-Cell-clause-end
returns-in_ok-end_cell-in-Cell-clause-end c = λ more.
    end_by_cell c.args.self.now.separator c.args.self.now.at c.args.character more _ refl c.in-Cell.ensures

pub returns-in_ok-push-in-Letter-clause-rows : goal.returns-in_ok-push-in-Letter-clause-rows
returns-in_ok-push-in-Letter-clause-rows c = λ more.
    let put = c.in_ok-push-in-Letter.ensures in
    letter_taken c.args.self.now.separator c.args.self.now.at c.args.character more c.in-Letter.next _ _ _ _ _ _ c.in-Letter.ensures put.rows put.row put.cell

pub returns-in_ok-push-in-Letter-clause-end : goal.returns-in_ok-push-in-Letter-clause-end
returns-in_ok-push-in-Letter-clause-end c = λ more.
    end_by_letter c.args.self.now.separator c.args.self.now.at c.args.character more c.in-Letter.next c.in-Letter.ensures

pub returns-in-Nothing-clause-rows : goal.returns-in-Nothing-clause-rows
returns-in-Nothing-clause-rows c = λ more.
    nothing_taken c.args.self.now.separator c.args.self.now.at c.args.character more c.in-Nothing.next _ _ _ c.in-Nothing.ensures

pub returns-in-Nothing-clause-end : goal.returns-in-Nothing-clause-end
returns-in-Nothing-clause-end c = λ more.
    end_by_nothing c.args.self.now.separator c.args.self.now.at c.args.character more c.in-Nothing.next c.in-Nothing.ensures
