use Rattle.std.proofs.lemmas.Option.{slice_get-map}
use Rattle.tabled_printing.specs.Along.{along}
use Rattle.tabled_printing.specs.Picture.{mark_at}
use Rattle.tabled_border_claims.proofs.InOrder.{texts_in_order, marks_in_order}
use Rattle.tabled_border_claims.proofs.printing.marks_in_order.Goals as goal

pub returns-clause-numbers : goal.returns-clause-numbers
returns-clause-numbers c = λ view line n. slice_get-map (mark_at view) (along view.horizontal view.vertical view.shape view.widths view.heights line) n

pub returns-clause-texts : goal.returns-clause-texts
returns-clause-texts c = texts_in_order

pub returns-clause-marks : goal.returns-clause-marks
returns-clause-marks c = marks_in_order
