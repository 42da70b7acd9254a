use Rattle.std.proofs.Common.{subst, sym}
use Rattle.tabled_object.specs.Listing.{Lists}
use Rattle.tabled_object.proofs.Listings.{lists_both}
use Rattle.tabled_object.proofs.object.combined.UnionObject.cells.Goals as goal

pub returns-clause-listed : goal.returns-clause-listed
returns-clause-listed g c =
    let rows = g.R.ExactRecords.row_count c.args.records.now in
    let cols = g.R.Records.column_count c.args.records.now in
    let one = subst (λ items. Lists g.A.Iter.Iterator.can_next g.A.Iter.Iterator.next_gives g.A.Iter.Iterator.remaining items (g.A.Object.listing c.args.self.now.left rows cols)) (sym c.chain.ensures.first) c.in_ok-left.ensures.listed in
    let other = subst (λ items. Lists g.B.Iter.Iterator.can_next g.B.Iter.Iterator.next_gives g.B.Iter.Iterator.remaining items (g.B.Object.listing c.args.self.now.right rows cols)) (sym c.chain.ensures.second) c.in_ok-cells.ensures.listed in
    lists_both g.A.Iter.Iterator.can_next g.B.Iter.Iterator.can_next g.A.Iter.Iterator.next_gives g.B.Iter.Iterator.next_gives g.A.Iter.Iterator.remaining g.B.Iter.Iterator.remaining
    c.chain.result _ _ one other c.chain.ensures.first_done c.chain.ensures.second_done
