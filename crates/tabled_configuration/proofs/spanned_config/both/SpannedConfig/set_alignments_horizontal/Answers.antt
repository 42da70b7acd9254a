use Rattle.tabled_configuration.proofs.AlignedLemmas.{Changes_by_list}
use Rattle.tabled_configuration.proofs.spanned_config.both.SpannedConfig.set_alignments_horizontal.Goals as goal

pub returns-clause-ok : goal.returns-clause-ok
returns-clause-ok c = Changes_by_list c.args.list.items c.self.inside.characters c.self.inside.colors c.self.inside.settings _ c.args.self.now c.self.view_is c.in_ok-apply_list.ensures.ok
