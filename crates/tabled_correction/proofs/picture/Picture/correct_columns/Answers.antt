use Rattle.std.proofs.Common.{◌++◌, ap, ◌∙◌, flat_map}
use Rattle.tabled_layout.proofs.SpanLemmas.{entries_are}
use Rattle.tabled_correction.specs.Correction.{column_span_step}
use Rattle.tabled_correction.specs.Picture.{pictured}
use Rattle.tabled_correction.proofs.Adding.{one_less, none_left}
use Rattle.tabled_correction.proofs.picture.Picture.correct_columns.Goals as goal

pub loop-position-preserved : goal.loop-position-preserved
loop-position-preserved c =
    one_less (column_span_step (pictured c.args.self.now)) (c.in-Some.position.now, c.in-Some.count.now) c.into_iter-position-iterator.result c.loop-position.position-iterator c.next.new.self c.args.writes.now.items c.loop-position.writes.items c.add_column_span.new.writes.items
    c.loop-position.invariant c.in-Some.ensures.steps c.in_ok-add_column_span.ensures

pub returns : goal.returns
returns c =
    none_left (column_span_step (pictured c.args.self.now)) c.into_iter-position-iterator.result c.loop-position.position-iterator c.args.writes.now.items c.loop-position.writes.items c.loop-position.invariant c.in-None.ensures.steps.0
    ∙ ap (λ all. c.args.writes.now.items ++ flat_map (column_span_step (pictured c.args.self.now)) all)
    (c.into_iter-position-iterator.ensures.into_iter_gives.0 ∙ entries_are c.get_column_spans-position-items.result.now.entries _ c.into_iter-position-iterator.ensures.into_iter_gives.5 c.get_column_spans-position-items.ensures)
