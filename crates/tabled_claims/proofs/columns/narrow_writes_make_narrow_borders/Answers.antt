use Rattle.tabled_printing.proofs.NarrowLemmas.{borders_narrow}
use Rattle.tabled_claims.proofs.columns.narrow_writes_make_narrow_borders.Goals as goal

pub returns : goal.returns
returns c = λ events shape widths heights all. borders_narrow events shape widths heights all
