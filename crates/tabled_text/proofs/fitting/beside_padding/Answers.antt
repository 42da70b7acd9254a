-- One row more, and all of them.
use Rattle.std.proofs.Common.{sym, ◌∙◌, arith}
use Rattle.tabled_text.proofs.Frames.{across_unset}
use Rattle.tabled_text.proofs.fitting.beside_padding.Goals as goal

pub returns-then-has_no_padding : goal.returns-then-has_no_padding
returns-then-has_no_padding c =
    let cfg = c.args.cfg.now in
    let two = across_unset cfg.settings.cells c.args.rows c.args.col (sym c.has_no_padding.ensures ∙ c.if-has_no_padding.true) c.requires in
    omega (arith, two, c.saturating_sub.ensures)
