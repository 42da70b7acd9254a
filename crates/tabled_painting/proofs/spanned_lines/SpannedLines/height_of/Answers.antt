-- From its first line to the end of its last row.
use Rattle.tabled_painting.proofs.SpannedLemmas.{high_is}
use Rattle.tabled_painting.proofs.spanned_lines.SpannedLines.height_of.Goals as goal

pub returns : goal.returns
returns c =
    let spanned = c.args.self.now in
    high_is spanned.lines.now spanned.firsts.now spanned.sides.now c.requires.spans c.args.host.row c.args.host.bottom c.saturating_sub-last.result c.get_height-high.result
    c.saturating_add.result c.saturating_sub.result c.requires.row c.requires.bottom c.saturating_sub-last.ensures c.get_height-high.ensures c.saturating_add.ensures c.saturating_sub.ensures
