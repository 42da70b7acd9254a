use Rattle.tabled_theme.proofs.Decided.{read_again}
use Rattle.tabled_border_claims.proofs.styles.from_config_reads_the_theme.Goals as goal

pub returns : goal.returns
returns c = λ theme old new changes. read_again theme old.spanned new.spanned changes.spanned_changed
