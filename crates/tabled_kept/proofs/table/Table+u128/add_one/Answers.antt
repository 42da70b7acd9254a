use Rattle.std.proofs.Common.{◌<◌, length, arith}
use Rattle.std.specs.FinMap as map
use Rattle.std.proofs.lemmas.List.{get_or_read}
use Rattle.tabled_kept.proofs.OneMoreLemmas.{more_in_row}
use Rattle.tabled_kept.proofs.table.Table+u128.add_one.Goals as goal

pub returns-then-slot-len-clause-more : goal.returns-then-slot-len-clause-more
returns-then-slot-len-clause-more c holds =
    let rows = c.self.inside.rows.items in
    let inside : c.args.slot.row < length rows = omega (arith, c.if-slot-len.true, c.len.ensures, c.self.inside.rows.ok.0) in
    more_in_row rows c.args.self.now c.self.view_is c.args.slot c.add_one-more.new.self _ inside (get_or_read rows c.args.slot.row _ inside c.index_mut.ensures.value map.empty) (c.add_one-more.ensures.more holds)
