use Rattle.tabled_places.specs.State.{state_at}
use Rattle.tabled_places.specs.Value.{plain_value}
use Rattle.tabled_grid.proofs.Seen.{on_ok}
use Rattle.tabled_correction.specs.Picture.{pictured}
use Rattle.tabled_correction.proofs.Pictures.{shown_after}
use Rattle.tabled_correction.proofs.picture.Picture.write.Goals as goal

pub returns : goal.returns
returns c =
    on_ok c.put_all.result
    (λ stands. λ i. record (pictured c.args.self.now) {
      shown = λ place. shown_after c.args.writes.now c.args.self.now.written c.put_all.new.written (plain_value (state_at c.args.self.now.cfg.now.characters) c.args.self.now.shape) stands place i;
    })
    c.put_all.ensures
