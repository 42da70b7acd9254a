use Rattle.tabled_object.proofs.Coverings.{covered_by_set}
use Rattle.tabled_object.proofs.object.covering.listed_entities.Goals as goal

pub returns : goal.returns
returns g c =
    covered_by_set (g.O.Object.listing c.args.object.now (g.R.ExactRecords.row_count c.args.records.now) (g.R.Records.column_count c.args.records.now))
    c.in_ok-cells.ensures.listed c.in_ok-entities.entities c.in_ok-entities.ensures.ran
