use Rattle.tabled_measure.specs.Sizes.{column_count}
use Rattle.tabled_measure.proofs.EqualRows.{all_equal}
use Rattle.tabled_text.proofs.SpannedEven.{apart_unset, printable_apart, printed_even, stand_apart}
use Rattle.tabled_claims.proofs.tables.text_is_a_rectangle.Goals as goal

pub returns-clause-rectangle : goal.returns-clause-rectangle
returns-clause-rectangle c = λ events table equal utf8 narrow apart. printed_even events table (all_equal (column_count table) 0 table equal) utf8 narrow apart

pub returns-clause-unset : goal.returns-clause-unset
returns-clause-unset c = λ events table none. stand_apart events table (apart_unset events none)

pub returns-clause-printable : goal.returns-clause-printable
returns-clause-printable c = printable_apart
