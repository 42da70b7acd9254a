use Rattle.tabled_places.specs.State.{state_at}
use Rattle.tabled_places.specs.Value.{plain_value}
use Rattle.tabled_correction.specs.Correction.{spanned}
use Rattle.tabled_correction.proofs.Pictures.{nothing_written_over}
use Rattle.tabled_correction.proofs.picture.Picture.new.Goals as goal

pub returns-clause-pictured : goal.returns-clause-pictured
returns-clause-pictured c = λ i. record (spanned c.args.shape c.args.cfg.now) {
  shown = λ place. nothing_written_over c.new.result (plain_value (state_at c.args.cfg.now.characters) c.args.shape) c.new.ensures.empty place i;
}
