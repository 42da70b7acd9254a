use Rattle.std.proofs.Common.{option_copied, arith}
use Rattle.tabled_grid.proofs.Seen.{on_ok}
use Rattle.tabled_highlight.proofs.Made.{outline_made}
use Rattle.tabled_highlight.proofs.highlight.outline_cells.Goals as goal

pub returns-clause-ok : goal.returns-clause-ok
returns-clause-ok c =
    on_ok c.apply.result (λ changes.
    outline_made c.args.shape c.args.entities.now.keys c.in_ok-cells.cells.keys (option_copied c.args.border) (option_copied c.args.diagonal) (option_copied c.args.color) c.in_ok-characters.characters.items c.in_ok-colors.colors.items c.args.config.now c.apply.new.self
    (omega arith) (omega arith) c.in_ok-cells.ensures c.in_ok-characters.ensures c.in_ok-colors.ensures changes)
    c.apply.ensures.ok
