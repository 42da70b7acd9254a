-- Printable texts can be kept within any share.
use Rattle.std.proofs.Common.{◌-◌, ◌≤◌, Bool, if◌then◌else◌, subst}
use Rattle.std.specs.Cmp.{first_so}
use Rattle.tabled_painting.specs.Widths.{text_width}
use Rattle.tabled_measure.specs.Cells.{margin_set, sets_no_padding, sets_no_spans}
use Rattle.tabled_text.specs.Fitted.{frame_width}
use Rattle.tabled_text.specs.TextTable.{look_of, look_with_spans}
use Rattle.tabled_text.proofs.Totals.{printable_can_share}
use Rattle.tabled_viewing.proofs.Results.{if_ok}
use Rattle.tabled_viewing.proofs.drawing.fit_by.Goals as goal

pub returns-clause-fits : goal.returns-clause-fits
returns-clause-fits g c = λ events shows leaves printable few.
    if_ok c.fitted.result (λ new fits. subst (λ (alone : Bool). text_width (if alone then look_of events new.texts else look_with_spans events new.texts) (margin_set events) ≤ c.args.width) leaves fits)
    (c.fitted.ensures.fits events shows (printable_can_share c.args.how 1 (c.args.width - frame_width events c.args.table.texts) c.args.table.texts c.requires printable) few
    (first_so (sets_no_spans events) (sets_no_padding events) leaves))
