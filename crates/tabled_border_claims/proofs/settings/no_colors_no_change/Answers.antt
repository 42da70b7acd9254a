use Rattle.std.proofs.Common.{ap}
use Rattle.tabled_changes.specs.EntitiesColored.{entities_colored}
use Rattle.tabled_colorization.specs.Turns.{numbered}
use Rattle.tabled_colorization.proofs.TurnLemmas.{none_in_turn}
use Rattle.tabled_border_claims.proofs.settings.no_colors_no_change.Goals as goal

pub returns : goal.returns
unfolding entities_colored
returns c = λ pattern rows cols. ap entities_colored (none_in_turn (numbered pattern rows cols))
