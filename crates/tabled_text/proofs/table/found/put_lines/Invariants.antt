use Rattle.std.proofs.Common.{take}
use Rattle.tabled_configuration.specs.Configuration.{Changes}
use Rattle.tabled_text.specs.Groups.{lines_above}
use Rattle.tabled_text.proofs.table.found.put_lines.Given as goal

abbrev pub invariant-loop-row : goal.invariant-loop-row
invariant-loop-row l = Changes (lines_above l.line (take l.row-index l.rows)) l.fn.cfg l.cfg
