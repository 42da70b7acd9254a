use Rattle.tabled_color.proofs.ColoringLemmas.{corners_in_turn}
use Rattle.tabled_color.proofs.border_color.option.clear_corners.Goals as goal

pub returns : goal.returns
returns c =
    corners_in_turn c.args.colors.now c.args.shape.0 c.args.shape.1 c.args.config.now c.clear_if_none.new.config c.clear_if_none-2.new.config c.clear_if_none-3.new.config c.clear_if_none-4.new.config
    c.clear_if_none.ensures c.clear_if_none-2.ensures c.clear_if_none-3.ensures c.clear_if_none-4.ensures
