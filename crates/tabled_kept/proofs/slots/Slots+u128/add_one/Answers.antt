use Rattle.std.proofs.Common.{sym, ◌∙◌, ◌<◌, length, arith, None}
use Rattle.std.proofs.lemmas.List.{get_or_read}
use Rattle.tabled_kept.proofs.OneMoreLemmas.{more_in_slot}
use Rattle.tabled_kept.proofs.slots.Slots+u128.add_one.Goals as goal

pub returns-then-has_next-clause-more : goal.returns-then-has_next-clause-more
returns-then-has_next-clause-more c holds =
    let slots = c.self.inside.slots.items in
    let inside : c.args.at < length slots = omega (arith, c.if-at-len.true, c.len.ensures, c.self.inside.slots.ok.0) in
    more_in_slot slots c.args.self.now c.self.view_is c.args.at c.in-Some.number inside (sym (get_or_read slots c.args.at _ inside c.index.ensures None) ∙ c.in-Some.is)
