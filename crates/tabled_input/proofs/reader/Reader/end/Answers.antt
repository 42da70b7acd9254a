-- No row had begun, or it is ended.
use Rattle.std.proofs.Common.{sym}
use Rattle.tabled_input.proofs.Steps.{nothing_to_end, row_to_end}
use Rattle.tabled_input.proofs.reader.Reader.end.Goals as goal

pub returns-then-is_between_rows : goal.returns-then-is_between_rows
returns-then-is_between_rows c = nothing_to_end c.args.self.now.separator c.args.self.now.at _ _ _ (sym c.if-is_between_rows.ensures)

pub returns : goal.returns
returns c = row_to_end c.args.self.now.separator c.args.self.now.at _ _ _ _ (sym c.if-is_between_rows.ensures) c.in_ok-end_row.ensures.rows
