-- The characters so far.
use Rattle.std.proofs.Common.{◌*◌}
use Rattle.tabled_width.specs.Texts.{times}
use Rattle.tabled_text.specs.Streams.{StreamGains}
use Rattle.tabled_text.proofs.stream.Stream.push_pieces.Given as goal

abbrev pub invariant-loop : goal.invariant-loop
invariant-loop g l = StreamGains g.W.Write.contents (times (64 * l.counter) l.character) l.initial.self l.self
