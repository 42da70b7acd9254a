-- At the end all parts were cut off.
use Rattle.std.proofs.Common.{false, map, ap, lit<, ◌∙◌}
use Rattle.std.specs.List.{flat_map}
use Rattle.std.proofs.lemmas.Iterator.Consumers.{YieldsList-end}
use Rattle.std.proofs.lemmas.Iterator.Splits.{YieldsList-from_str_split}
use Rattle.std.proofs.lemmas.List.FromFn.{fill_by_all}
use Rattle.tabled_request.specs.Columns.{columns_named, columns_of_part, is_one}
use Rattle.tabled_request.proofs.columns.flags_of.Goals as goal

pub returns : goal.returns
unfolding columns_named
returns g c =
    fill_by_all (is_one (columns_named c.args.word.now (map g.T.AsStr.text c.args.headings.now) c.args.count)) c.loop-part.flags.items c.args.count false c.loop-part.invariant.same_length
    (λ col below.
    c.loop-part.invariant.set col below
    ∙ ap (λ parts. is_one (flat_map (columns_of_part (map g.T.AsStr.text c.args.headings.now) c.args.count) parts) col)
    (YieldsList-end (YieldsList-from_str_split 44 c.args.word.now (lit< tt) (cc) (cc) (cc)) c.loop-part.yielded _ c.loop-part.yielded_by _ _ c.in-None.is c.next.ensures.steps).0)
