use Rattle.tabled_width.specs.CutOff.{suffix_shown}
use Rattle.tabled_width.proofs.RowLaws.{cut_off_fits, shown_fits}
use Rattle.tabled_border_claims.proofs.texts.cut_off_lines_fit.Goals as goal

pub returns : goal.returns
returns c = λ width suffix line. cut_off_fits width (suffix_shown width suffix) line (shown_fits width suffix)
