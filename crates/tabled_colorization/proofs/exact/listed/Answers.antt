use Rattle.std.proofs.Common.{sym, ◌∙◌, map-id}
use Rattle.std.proofs.lemmas.Iterator.{YieldsList, items_from_drains}
use Rattle.tabled_object.specs.declared.entity.Entity.{Entity}
use Rattle.tabled_colorization.proofs.exact.listed.Goals as goal

pub returns : goal.returns
returns g c =
    let all = g.O.Object.listing c.args.target.now (g.R.ExactRecords.row_count c.args.records.now) (g.R.Records.column_count c.args.records.now) in
    let lists : YieldsList g.O.Iter.Iterator.next_gives (λ (entity : Entity). entity) c.in_ok-cells.field-0 all = record { runs = c.in_ok-cells.ensures.listed.in_order } in
    c.in_ok-entities.ensures.ran.2.0 ∙ sym (map-id c.in_ok-entities.ensures.ran.0) ∙ items_from_drains c.in_ok-entities.ensures.ran.0 c.in_ok-entities.ensures.ran.1 lists
