use Rattle.tabled_colorization.proofs.ChessLemmas.{on_the_board}
use Rattle.tabled_border_claims.proofs.settings.chess_is_by_parity.Goals as goal

pub returns : goal.returns
returns c = λ white black rows cols row col default h k. on_the_board white black rows cols row col default h k
