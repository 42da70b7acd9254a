-- The last character is a line feed, where there are lines.
use Rattle.tabled_config.proofs.TextLemmas.{feed_off, no_feed}
use Rattle.tabled_config.proofs.print.join_lines.Goals as goal

pub returns-then-start-len : goal.returns-then-start-len
returns-then-start-len c before lines began are = feed_off c.args.text.now c.pop-feed.new.self before lines c.args.start c.len.result c.len.ensures began are c.if-start-len.true c.pop-feed.ensures.ascii_bytes

pub returns-else-start-len : goal.returns-else-start-len
returns-else-start-len c before lines began are = no_feed c.args.text.now before lines c.args.start c.len.result c.len.ensures began are c.if-start-len.false
