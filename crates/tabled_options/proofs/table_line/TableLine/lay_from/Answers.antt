-- What is laid along the pieces is laid along the line.
use Rattle.std.proofs.Common.{arith}
use Rattle.tabled_options.specs.Laying.{looked}
use Rattle.tabled_options.proofs.LineLemmas.{laid_along}
use Rattle.tabled_options.proofs.table_line.TableLine.lay_from.Goals as goal

pub returns : goal.returns
returns g c =
    laid_along (looked g.D.Dimension.width_of g.D.Dimension.height_of c.args.self.now) c.args.self.now.line c.args.start c.args.total c.min-room.result c.args.letters.now c.lay.new.pen.taken.items c.new.result.items
    c.requires.exists c.requires.total (omega arith) c.new.ensures.items c.in_ok-lay.ensures.laid
