-- There is nothing yet.
use Rattle.tabled_input.proofs.Joining.{none_joined}
use Rattle.tabled_input.proofs.joined.JoinedRows.new.Goals as goal

pub returns-clause-rows : goal.returns-clause-rows
returns-clause-rows c = (none_joined c.new-3.result.items c.new-2.result.items _ (cc) (cc)).0

pub returns-clause-row : goal.returns-clause-row
returns-clause-row c = (none_joined c.new-3.result.items c.new-2.result.items _ (cc) (cc)).1
