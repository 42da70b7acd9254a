-- The rows of an input are as the lemmas say.
use Rattle.tabled_pages.proofs.OneLine.{heights_one, widths_by_bytes}
use Rattle.tabled_program_claims.proofs.program.one_line_a_row.Goals as goal

pub returns-clause-heights : goal.returns-clause-heights
returns-clause-heights c = heights_one

pub returns-clause-widths : goal.returns-clause-widths
returns-clause-widths c = widths_by_bytes
