use Rattle.std.proofs.Common.{◌≢◌, Some, [], unwrap_or, ap, ◌∙◌, rules, arith}
use Rattle.std.proofs.lemmas.Bool.Decides.{nat_tests}
use Rattle.std.proofs.lemmas.List.{nil_from_length}
use Rattle.tabled_settings.specs.Live.{at_first, after_all}
use Rattle.tabled_configuration.specs.CellColors.{no_color}
use Rattle.tabled_changes.proofs.EntitiesColoredLemmas.{texts_written, Changes_by_parts, Changes-none_colored}
use Rattle.tabled_changes.proofs.colored_config.ColoredConfig.color_entities.Goals as goal

pub returns-then-is_empty-clause-ok : goal.returns-then-is_empty-clause-ok
returns-then-is_empty-clause-ok c = Changes-none_colored c.args.list.now c.args.self.now (nil_from_length c.args.list.now (grind (arith, nat_tests)))

pub returns-clause-ok : goal.returns-clause-ok
returns-clause-ok c =
    let some : c.args.list.now ≢ [] = search rules in
    Changes_by_parts c.args.list.now c.self.inside.config c.apply_beside.new.config c.self.inside.colors c.apply_beside.new.self
    (after_all c.self.inside.config.settings.cells.justification_color c.in_ok-fills.fills.items) (after_all c.self.inside.config.settings.cells.padding_color c.in_ok-paddings.paddings.items) c.args.self.now c.self.view_is
    (c.in_ok-apply_beside.ensures.colors_ok ∙ ap (λ events. Some (after_all (unwrap_or c.self.inside.colors (at_first no_color)) events)) c.in_ok-texts.ensures ∙ texts_written c.self.inside.colors c.args.list.now some)
    (ap (after_all c.self.inside.config.settings.cells.justification_color) c.in_ok-fills.ensures) (ap (after_all c.self.inside.config.settings.cells.padding_color) c.in_ok-paddings.ensures)
    c.in_ok-apply_beside.ensures.ok
