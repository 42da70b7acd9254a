use Rattle.std.proofs.Common.{sym, ◌∙◌}
use Rattle.tabled_configuration.specs.ChangeLaws.{none_change_borders}
use Rattle.tabled_formatting.proofs.MarginLemmas.{with_color, without_color, shadow_falls}
use Rattle.tabled_formatting.proofs.shadow.ShadowSetTable.set_table.Goals as goal

pub returns-in-Some-clause-ok : goal.returns-in-Some-clause-ok
returns-in-Some-clause-ok c =
    shadow_falls c.args.self.now _ _ _ _ _ _ _ c.sizes.ensures c.offsets.ensures
    (with_color c.args.self.now.color c.args.self.now c.in-Some.colors (sym c.in-Some.is ∙ c.in_ok-colors.ensures))
    c.set_margin.ensures c.set_margin_offset.ensures c.set_margin_color.ensures

pub returns-in_default-clause-ok : goal.returns-in_default-clause-ok
returns-in_default-clause-ok c =
    shadow_falls c.args.self.now _ _ _ _ _ _ _ c.sizes.ensures c.offsets.ensures
    (without_color c.args.self.now.color c.args.self.now (sym c.in_default.is ∙ c.in_ok-colors.ensures))
    c.set_margin.ensures c.set_margin_offset.ensures (none_change_borders c.set_margin_offset.new.self)
