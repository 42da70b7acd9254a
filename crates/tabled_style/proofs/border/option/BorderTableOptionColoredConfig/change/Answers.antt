use Rattle.std.proofs.Common.{subst}
use Rattle.tabled_configuration.specs.Colored.{Changes}
use Rattle.tabled_configuration.specs.Options.{table_bordered}
use Rattle.tabled_style.proofs.border.option.BorderTableOptionColoredConfig.change.Goals as goal

pub returns-clause-ok : goal.returns-clause-ok
returns-clause-ok g c =
    subst (λ border. Changes (table_bordered border c.args.cfg.now.spanned.characters.class_record) c.args.cfg.now c.change.new.cfg) c.self.view_is c.change.ensures.ok
