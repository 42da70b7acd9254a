use Rattle.std.proofs.Common.{arith}
use Rattle.tabled_places.proofs.Clearing.{frame_there, no_frame, no_rows, no_cols}
use Rattle.tabled_grid.proofs.layers.clearing.Layers+T.erase_frame.Goals as goal
use Rattle.tabled_grid.proofs.layers.clearing.Layers+T.erase_frame.Goals.{then-rows-eq0-via-then-rows-eq0, then-rows-eq0-via-else-rows-eq0+then-cols-eq0}

pub returns-then-rows-eq0 : goal.returns-then-rows-eq0
returns-then-rows-eq0 g c = no_frame c.args.shape.0 c.args.shape.1 c.args.self.now (elim c.then-rows-eq0.branch [
  | then-rows-eq0-via-then-rows-eq0 w ↦ no_rows c.args.shape.0 c.args.shape.1 (omega arith)
  | then-rows-eq0-via-else-rows-eq0+then-cols-eq0 w ↦ no_cols c.args.shape.0 c.args.shape.1 (omega arith)
])

pub returns : goal.returns
returns g c =
    frame_there c.args.shape.0 c.args.shape.1 _ _ _ _ _ (omega arith) (omega arith)
    c.erase_line.ensures c.erase_line-2.ensures c.erase_line-3.ensures c.erase_line-4.ensures
