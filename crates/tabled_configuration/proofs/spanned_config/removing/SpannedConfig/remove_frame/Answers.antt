use Rattle.std.proofs.Common.{ap, sym, ◌∙◌, subst}
use Rattle.tabled_configuration.specs.Configuration.{Changes}
use Rattle.tabled_configuration.specs.Options.{inner_of, table_unbordered}
use Rattle.tabled_configuration.proofs.InTurn.{no_frame, Changes-table_unbordered}
use Rattle.tabled_configuration.proofs.spanned_config.removing.SpannedConfig.remove_frame.Goals as goal

pub returns-then-is_empty : goal.returns-then-is_empty
returns-then-is_empty c = no_frame c.args.shape.0 c.args.shape.1 c.args.self.now.characters.class_record c.args.self.now (sym c.is_empty.ensures ∙ c.if-is_empty.true)

pub returns : goal.returns
returns c =
    subst (λ cfg. Changes (table_unbordered c.args.shape cfg.characters.class_record) cfg (record { characters = c.erase_frame.new.self; colors = c.self.inside.colors; settings = c.self.inside.settings })) c.self.view_is
    (Changes-table_unbordered c.args.shape.0 c.args.shape.1 c.self.inside.characters.class_record c.inner_of-class.result c.self.inside.characters c.set_class.new.self c.erase_frame.new.self c.self.inside.colors c.self.inside.settings _
    (sym c.is_empty.ensures ∙ c.if-is_empty.false) (λ i. record { characters = c.self.inside.characters; colors = c.self.inside.colors; settings = c.self.inside.settings }) (c.inner_of-class.ensures ∙ ap (λ class. inner_of class) c.get_class.ensures) c.set_class.ensures c.erase_frame.ensures)
