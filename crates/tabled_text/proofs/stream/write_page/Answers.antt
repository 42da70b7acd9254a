-- What the stream has gained is what its writer has.
use Rattle.std.proofs.Common.{rules}
use Rattle.tabled_text.specs.Streams.{writer_gains}
use Rattle.tabled_text.proofs.stream.write_page.Goals as goal

pub returns-clause-text : goal.returns-clause-text
returns-clause-text g c =
    writer_gains g.W.Write.contents _ _ c.write_all-stream.result _ (search rules) c.in_ok-waiting.ensures.bytes c.write_all-stream.ensures.empty c.write_all-stream.ensures.gained c.if-stream.false
