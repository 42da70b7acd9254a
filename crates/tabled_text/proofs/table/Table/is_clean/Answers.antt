-- What is clean stays.
use Rattle.std.proofs.Common.{subst, sym, ap, ◌∙◌}
use Rattle.std.specs.List.{list_all}
use Rattle.tabled_clean.specs.Steering.{is_clean}
use Rattle.tabled_measure.specs.Changed.{CellsAreClean}
use Rattle.tabled_measure.proofs.Cleaned.{all_clean, clean_cells, cells_cleaned}
use Rattle.tabled_text.proofs.table.Table.is_clean.Goals as goal

pub returns-clause-stays : goal.returns-clause-stays
returns-clause-stays g c = λ clean.
    sym (clean_cells c.args.self.now.texts c.view.ensures.utf8 (ap (list_all (list_all is_clean)) (sym c.view.ensures.texts) ∙ all_clean g.T.AsStr.text c.view.result.rows.now ∙ sym c.are_clean.ensures ∙ clean))

pub returns-clause-clean : goal.returns-clause-clean
returns-clause-clean g c = λ clean. subst CellsAreClean (returns-clause-stays g c clean) (cells_cleaned c.args.self.now.texts c.view.ensures.utf8)

pub returns-clause-cleans : goal.returns-clause-cleans
returns-clause-cleans g c = cells_cleaned c.args.self.now.texts c.view.ensures.utf8
