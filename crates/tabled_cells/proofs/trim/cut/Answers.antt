-- The text is cut at its first line feed.
use Rattle.std.proofs.Common.{lit<}
use Rattle.tabled_width.proofs.Pieces.{cut_parts}
use Rattle.tabled_cells.proofs.trim.cut.Goals as goal

pub returns-clause-pieces : goal.returns-clause-pieces
returns-clause-pieces c = cut_parts 10 (lit< tt) c.args.text.now c.split_once.result c.split_once.ensures.cases
