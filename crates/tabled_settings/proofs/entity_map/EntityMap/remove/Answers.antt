use Rattle.tabled_settings.proofs.Lasting.{no_global}
use Rattle.tabled_settings.proofs.entity_map.EntityMap.remove.Goals as goal

pub invariant_of-self : goal.invariant_of-self
invariant_of-self g c = no_global c.args.entity _ c.self.inside.since c.put.new.self c.in_default.not-Global c.self.invariant c.in_ok-put-in_default.ensures.ok
