use Rattle.tabled_settings.proofs.Lasting.{no_global}
use Rattle.tabled_settings.proofs.entity_map.EntityMap.insert_both.Goals as goal

pub invariant_of-self : goal.invariant_of-self
invariant_of-self g c = no_global c.args.entity _ c.self.inside.since c.put_both.new.self c.in_default.not-Global c.self.invariant c.in_ok-put_both-in_default.ensures.ok

pub invariant_of-other : goal.invariant_of-other
invariant_of-other g c = no_global c.args.entity _ c.other.inside.since c.put_both.new.others c.in_default.not-Global c.other.invariant c.in_ok-put_both-in_default.ensures.others_ok
