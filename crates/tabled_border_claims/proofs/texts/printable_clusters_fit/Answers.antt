use Rattle.tabled_width.proofs.PrintableRows.{each_fits}
use Rattle.tabled_border_claims.proofs.texts.printable_clusters_fit.Goals as goal

pub returns : goal.returns
returns c = each_fits
