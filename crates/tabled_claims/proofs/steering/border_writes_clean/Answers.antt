use Rattle.tabled_claims.specs.Clean.{is_quiet}
use Rattle.tabled_claims.proofs.Characters.{border_writes, frame_writes, unbordered_writes, unframed_writes}
use Rattle.tabled_claims.proofs.CleanWrites.{clean_only}
use Rattle.tabled_claims.proofs.steering.border_writes_clean.Goals as goal

pub returns-clause-cells : goal.returns-clause-cells
returns-clause-cells c = λ border shape entity clean. clean_only _ (border_writes is_quiet border shape entity clean)

pub returns-clause-table : goal.returns-clause-table
returns-clause-table c = λ border class clean record_clean. clean_only _ (frame_writes is_quiet border class clean record_clean)

pub returns-clause-no_border : goal.returns-clause-no_border
returns-clause-no_border c = λ shape entity. clean_only _ (unbordered_writes is_quiet shape entity)

pub returns-clause-no_frame : goal.returns-clause-no_frame
returns-clause-no_frame c = λ shape class clean. clean_only _ (unframed_writes is_quiet shape class clean)
