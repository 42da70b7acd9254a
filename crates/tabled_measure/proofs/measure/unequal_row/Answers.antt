-- The first row that differs is found by a walk over the rows.
use Rattle.std.proofs.Common.{rules, tests, ap, ◌∙◌, arith, ltb, length, Some, None, if◌then◌else◌}
use Rattle.std.specs.List.{position_or_len}
use Rattle.std.proofs.lemmas.Iterator.{YieldsList-from_slice}
use Rattle.std.proofs.lemmas.Iterator.Search.{position_from_yields_List}
use Rattle.tabled_cells.specs.TextsBy.{texts_by}
use Rattle.tabled_measure.specs.Sizes.{first_unequal}
use Rattle.tabled_measure.proofs.Measuring.{differs, first_found}
use Rattle.tabled_measure.proofs.measure.unequal_row.Goals as goal

pub returns : goal.returns
returns g c =
    position_from_yields_List (differs g.T.AsStr.text c.column_count-columns.result) _ _ _ c.position.ensures.ran (YieldsList-from_slice c.args.rows.now cc) (λ x b q k. search (rules, tests))
    ∙ ap (λ n. if ltb (position_or_len (differs g.T.AsStr.text c.column_count-columns.result) c.args.rows.now) (length c.args.rows.now) then Some n else None) (omega arith)
    ∙ first_found g.T.AsStr.text c.column_count-columns.result 0 c.args.rows.now
    ∙ ap (λ n. first_unequal n 0 (texts_by g.T.AsStr.text c.args.rows.now)) c.column_count-columns.ensures
