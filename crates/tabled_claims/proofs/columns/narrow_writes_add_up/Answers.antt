use Rattle.std.proofs.Common.{ap}
use Rattle.std.specs.List.{list_all}
use Rattle.tabled_width.specs.Narrow.{is_narrow}
use Rattle.tabled_printing.specs.Columns.{is_narrow_write}
use Rattle.tabled_claims.proofs.Characters.{drawn_both}
use Rattle.tabled_claims.proofs.columns.narrow_writes_add_up.Goals as goal

pub returns-clause-both : goal.returns-clause-both
returns-clause-both c = λ before events first second. drawn_both is_narrow before events first second

pub returns-clause-no_characters : goal.returns-clause-no_characters
returns-clause-no_characters c = λ events none. ap (list_all is_narrow_write) none
