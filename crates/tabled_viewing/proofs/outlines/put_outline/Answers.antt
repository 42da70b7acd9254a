-- There are cells for an outline, or none.
use Rattle.std.proofs.Common.{ap}
use Rattle.std.specs.Prelude.{option_map}
use Rattle.tabled_grid.proofs.Seen.{on_ok}
use Rattle.tabled_viewing.proofs.Outlined.{put, put_none}
use Rattle.tabled_viewing.proofs.outlines.put_outline.Goals as goal

pub returns-in-None-clause-config : goal.returns-in-None-clause-config
returns-in-None-clause-config g c = put_none c.args.style c.args.table.now.texts c.args.table.now.config _ (ap (option_map (λ cells. cells.items)) c.in-None.is)

pub returns-in-Some-clause-config : goal.returns-in-Some-clause-config
returns-in-Some-clause-config g c =
    on_ok c.apply.result
    (λ changed. put c.args.style c.args.table.now.texts c.args.table.now.config c.apply.new.self.config _ _ _ (ap (option_map (λ cells. cells.items)) c.in-Some.is) c.outline_of.ensures changed.2)
    c.apply.ensures.config
