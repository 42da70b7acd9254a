use Rattle.std.proofs.Common.{sym, subst, ◌∙◌}
use Rattle.tabled_configuration.specs.Configuration.{Changes}
use Rattle.tabled_color.proofs.ColoringLemmas.{colors_applied, frame_in_turn, no_frame}
use Rattle.tabled_color.proofs.border_color.option.write_around_table.Goals as goal

pub returns-then-is_empty-clause-ok : goal.returns-then-is_empty-clause-ok
returns-then-is_empty-clause-ok c = no_frame c.args.colors.now c.args.shape.0 c.args.shape.1 c.args.config.now (sym c.is_empty.ensures ∙ c.if-is_empty.true)

pub returns-clause-ok : goal.returns-clause-ok
returns-clause-ok c =
    frame_in_turn c.args.colors.now c.args.shape.0 c.args.shape.1 c.args.config.now c.apply.new.self c.clear_corners.new.config (sym c.is_empty.ensures ∙ c.if-is_empty.false)
    (subst (λ es. Changes es c.args.config.now c.apply.new.self) (colors_applied _ _ _ c.new.ensures.items c.in_ok-writes.ensures) c.in_ok-apply.ensures.ok) c.clear_corners.ensures
