-- The row with the other text is put in its place.
use Rattle.std.proofs.Common.{get_or, set, sym}
use Rattle.std.specs.Vec.{with_item}
use Rattle.tabled_measure.proofs.TextLemmas.{texts-set}
use Rattle.tabled_measure.proofs.edited.swapped.Goals as goal

pub returns-clause-texts : goal.returns-clause-texts
returns-clause-texts c =
    let rows = c.args.rows.now in
    let old = c.index-rows-row.result in
    texts-set rows c.args.row c.args.col old (with_item (get_or rows c.args.row old) c.args.col c.replace.new.dest) c.args.text c.requires.row c.index-rows-row.is
    (λ i. set (sym c.index-rows-row.is i).items c.args.col (c.replace.ensures.after i))
