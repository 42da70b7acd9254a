use Rattle.tabled_width.specs.Narrow.{is_narrow}
use Rattle.tabled_claims.proofs.Characters.{border_writes, frame_writes, unbordered_writes, unframed_writes}
use Rattle.tabled_claims.proofs.columns.border_writes_narrow.Goals as goal

pub returns-clause-cells : goal.returns-clause-cells
returns-clause-cells c = λ border shape entity narrow. (border_writes is_narrow border shape entity narrow).borders

pub returns-clause-table : goal.returns-clause-table
returns-clause-table c = λ border class narrow record_narrow. (frame_writes is_narrow border class narrow record_narrow).borders

pub returns-clause-no_border : goal.returns-clause-no_border
returns-clause-no_border c = λ shape entity. (unbordered_writes is_narrow shape entity).borders

pub returns-clause-no_frame : goal.returns-clause-no_frame
returns-clause-no_frame c = λ shape class narrow. (unframed_writes is_narrow shape class narrow).borders
