use Rattle.tabled_places.specs.declared.place.LineOf.{LineOf}
use Rattle.tabled_places.specs.State.{state_at, writes_of}
use Rattle.tabled_places.proofs.DrawnLemmas.{drawn-answer}
use Rattle.tabled_places.proofs.Writing.{Shows-writes_of}
use Rattle.tabled_correction.proofs.picture.Picture.is_vertical_drawn.Goals as goal

pub returns : goal.returns
returns c =
    let kept = c.args.self.now.cfg.now.characters in
    drawn-answer (writes_of kept) (state_at kept) _ (LineOf.Vertical c.args.col) c.has_vertical.result (Shows-writes_of kept) c.has_vertical.ensures
