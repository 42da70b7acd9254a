-- The text before, the table, and the text after, and then all that waits is written.
use Rattle.std.proofs.Common.{◌++◌}
use Rattle.tabled_painting.specs.TablePages.{text_of_page}
use Rattle.tabled_cells.specs.TextsBy.{texts_by}
use Rattle.tabled_text.specs.Streams.{stream_both}
use Rattle.tabled_text.proofs.StreamLemmas.{then_kept}
use Rattle.tabled_text.proofs.stream.Stream.write_all.Goals as goal

pub returns-clause-gained : goal.returns-clause-gained
returns-clause-gained g c =
    let contents = g.W.Write.contents in
    let table = text_of_page c.args.page (texts_by g.T.AsStr.text c.args.rows.now) in
    then_kept contents _ c.args.self c.push_text-2.new.self c.flush.new.self
    (stream_both contents (c.args.before.now ++ table) c.args.after.now c.args.self _ c.push_text-2.new.self
    (stream_both contents c.args.before.now table c.args.self c.push_text.new.self _ c.push_text.ensures c.in-Ok.ensures) c.push_text-2.ensures)
    c.flush.ensures.kept
