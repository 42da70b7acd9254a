-- The characters so far, and room for the others.
use Rattle.std.proofs.Common.{◌+◌, ◌-◌, ◌*◌, ◌≤◌, string_len}
use Rattle.tabled_width.specs.Texts.{times}
use Rattle.tabled_text.specs.Streams.{StreamGains}
use Rattle.tabled_text.proofs.stream.Stream.push_few.Given as goal

abbrev pub invariant-loop : goal.invariant-loop
invariant-loop g l = record {
  gained : StreamGains g.W.Write.contents (times l.counter l.character) l.initial.self l.self;
  room : string_len l.self.waiting.now + 4 * (l.count - l.counter) ≤ 65536;
}
