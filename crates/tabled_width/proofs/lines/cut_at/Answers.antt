-- The text is cut at its first separator.
use Rattle.tabled_width.proofs.Pieces.{cut_parts, cut_shorter}
use Rattle.tabled_width.proofs.lines.cut_at.Goals as goal

pub returns-clause-pieces : goal.returns-clause-pieces
returns-clause-pieces c = cut_parts c.args.separator c.requires c.args.text.now c.split_once.result c.split_once.ensures.cases

pub returns-clause-shorter : goal.returns-clause-shorter
returns-clause-shorter c = cut_shorter c.args.separator c.requires c.args.text.now c.split_once.result c.split_once.ensures.cases
