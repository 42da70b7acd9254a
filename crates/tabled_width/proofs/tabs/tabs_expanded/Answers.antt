-- One line more.
use Rattle.std.proofs.Common.{rules, string_bytes}
use Rattle.tabled_width.specs.Tabs.{at_stops, tabs_expanded}
use Rattle.tabled_width.proofs.Pieces.{lines_more, lines_end}
use Rattle.tabled_width.proofs.TabLemmas.{tabs}
use Rattle.tabled_width.proofs.tabs.tabs_expanded.Goals as goal

pub loop-line-preserved : goal.loop-line-preserved
loop-line-preserved c = record {
  text = search rules;
  changed = lines_more (λ line. at_stops c.args.every (tabs line)) (string_bytes c.loop-line.out) (string_bytes c.push_at_stops.new.out) (string_bytes c.push.new.self) _
      c.loop-line.rest.now c.in-Some.line.now c.in-Some.more.now c.loop-line.invariant.changed c.in-Some.ensures.pieces
      c.in_ok-push_at_stops.ensures c.in_ok-push.ensures.bytes;
}

pub returns : goal.returns
unfolding tabs_expanded
returns c =
    lines_end (λ line. at_stops c.args.every (tabs line)) (string_bytes c.loop-line.out) (string_bytes c.push_at_stops-2.new.out) _
    c.loop-line.rest.now c.loop-line.invariant.changed c.in_default.ensures.pieces c.in_ok-push_at_stops-2.ensures
