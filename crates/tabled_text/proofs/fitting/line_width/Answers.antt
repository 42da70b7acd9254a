use Rattle.std.proofs.Common.{if◌then◌else◌, sym, ap, ◌∙◌}
use Rattle.tabled_places.specs.declared.place.LineOf.{LineOf as Line}
use Rattle.tabled_printing.proofs.LookLemmas.{own_drawn}
use Rattle.tabled_text.proofs.fitting.line_width.Goals as goal

pub returns-then-has_vertical : goal.returns-then-has_vertical
returns-then-has_vertical c =
    ap (λ b. if b then 1 else 0) (sym c.if-has_vertical.true ∙ own_drawn c.args.cfg.now c.args.cols (Line.Vertical c.args.line) c.has_vertical.result c.has_vertical.ensures)

pub returns-else-has_vertical : goal.returns-else-has_vertical
returns-else-has_vertical c =
    ap (λ b. if b then 1 else 0) (sym c.if-has_vertical.false ∙ own_drawn c.args.cfg.now c.args.cols (Line.Vertical c.args.line) c.has_vertical.result c.has_vertical.ensures)
