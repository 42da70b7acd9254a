use Rattle.tabled_places.specs.Writes.{site_of}
use Rattle.tabled_places.proofs.PuttingBack.{value_back, nothing_back}
use Rattle.tabled_grid.proofs.layers.writes.Layers+T.put_back_at.Goals as goal

pub returns-in-Some : goal.returns-in-Some
returns-in-Some g c = λ old puts. value_back c.put.result (site_of c.args.target) c.args.before c.in-Some.value old c.args.self.now _ c.in-Some.is c.put.ensures.ok c.put.ensures.absent puts

pub returns-in-None : goal.returns-in-None
returns-in-None g c = λ old puts. nothing_back (site_of c.args.target) c.args.before old c.args.self.now _ c.in-None.is c.erase_at.ensures puts
