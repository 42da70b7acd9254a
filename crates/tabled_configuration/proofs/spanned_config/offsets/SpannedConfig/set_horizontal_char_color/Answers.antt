use Rattle.std.proofs.Common.{subst}
use Rattle.tabled_places.specs.Event as grid
use Rattle.tabled_places.specs.Calls.{offset_set}
use Rattle.tabled_places.specs.State.{state_at}
use Rattle.tabled_grid.proofs.Seen.{on_ok}
use Rattle.tabled_configuration.proofs.ConfigurationLemmas.{Changes_by_colors}
use Rattle.tabled_configuration.proofs.spanned_config.offsets.SpannedConfig.set_horizontal_char_color.Goals as goal

pub returns-clause-ok : goal.returns-clause-ok
returns-clause-ok c =
    on_ok c.set_offset.result (λ e. Changes_by_colors _ c.self.inside.characters c.self.inside.colors _ c.self.inside.settings c.args.self.now c.self.view_is (subst (λ place. grid.Changes (offset_set place c.args.offset c.args.color) (state_at c.self.inside.colors) (state_at c.set_offset.new.self)) c.horizontal_at.ensures e)) c.set_offset.ensures.ok
