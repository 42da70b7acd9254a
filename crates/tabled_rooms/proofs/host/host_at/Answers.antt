use Rattle.std.proofs.Common.{◌∙◌, sym, ap}
use Rattle.tabled_rooms.specs.Hosts.{from_left}
use Rattle.tabled_rooms.specs.Holding.{held}
use Rattle.tabled_rooms.proofs.HostLemmas.{kept_above, not_above, kept_left, not_left}
use Rattle.tabled_rooms.proofs.host.host_at.Goals as goal

pub returns-then-row-above : goal.returns-then-row-above
returns-then-row-above g c = λ up beside is_above is_left.
    let columns = g.S.CellSpans.columns_at c.args.spans.now in
    let rows = g.S.CellSpans.rows_at c.args.spans.now in
    kept_above columns rows c.args.shape up (from_left columns rows beside c.args.place.0 c.args.place.1) c.args.above c.args.place.0 is_above c.if-row-above.true

pub returns-then-goes_on : goal.returns-then-goes_on
returns-then-goes_on g c = λ up beside is_above is_left.
    let columns = g.S.CellSpans.columns_at c.args.spans.now in
    let rows = g.S.CellSpans.rows_at c.args.spans.now in
    kept_left columns rows c.args.shape beside c.args.left c.args.place.0 c.args.place.1 is_left (sym c.goes_on.ensures ∙ c.if-goes_on.true)
    ∙ ap (held columns rows c.args.shape) (sym (not_above columns rows c.args.shape up (from_left columns rows beside c.args.place.0 c.args.place.1) c.args.above c.args.place.0 is_above c.if-row-above.false c.requires.row))

pub returns : goal.returns
returns g c = λ up beside is_above is_left.
    let columns = g.S.CellSpans.columns_at c.args.spans.now in
    let rows = g.S.CellSpans.rows_at c.args.spans.now in
    c.begun.ensures
    ∙ ap (held columns rows c.args.shape) (sym (not_above columns rows c.args.shape up (from_left columns rows beside c.args.place.0 c.args.place.1) c.args.above c.args.place.0 is_above c.if-row-above.false c.requires.row
    ∙ not_left columns rows c.args.shape beside c.args.left c.args.place.0 c.args.place.1 is_left (sym c.goes_on.ensures ∙ c.if-goes_on.false) c.requires.col))
