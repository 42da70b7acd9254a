-- Each byte takes one column.
use Rattle.std.proofs.Common.{sym, ◌∙◌}
use Rattle.tabled_width.proofs.Printing.{printable_width}
use Rattle.tabled_width.proofs.measure.width_of.Goals as goal

pub returns-then-is_printable : goal.returns-then-is_printable
returns-then-is_printable c = sym (printable_width c.args.line.now (sym c.is_printable.ensures ∙ c.if-is_printable.true))
