-- All cells are colored at once, where a color is given.
use Rattle.tabled_grid.proofs.Seen.{on_ok}
use Rattle.tabled_viewing.proofs.Applied.{frame_changed, frame_left}
use Rattle.tabled_viewing.proofs.colors.color_frame.Goals as goal

pub returns-in_default-clause-config : goal.returns-in_default-clause-config
returns-in_default-clause-config g c = frame_left c.args.color c.args.table.now.texts c.args.table.now.config c.in_default.is

pub returns-clause-config : goal.returns-clause-config
returns-clause-config g c =
    on_ok c.apply_to.result
    (λ made. frame_changed c.in-Some.color c.args.color c.in_ok-border.border c.args.table.now.texts made.0 c.args.table.now.config c.apply_to.new.self.config c.in-Some.is c.in_ok-border.ensures made.1)
    c.apply_to.ensures.config
