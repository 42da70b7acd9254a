-- The line feeds so far.
use Rattle.std.proofs.Common.{◌≡◌, ◌≤◌, take}
use Rattle.tabled_input.specs.Lines.{line_feeds}
use Rattle.tabled_input.proofs.lines.line_feeds.Given as goal

abbrev pub invariant-loop-each : goal.invariant-loop-each
invariant-loop-each l = record {
  count : l.count ≡ line_feeds (take l.each-index l.bytes);
  most : l.count ≤ l.each-index;
}
