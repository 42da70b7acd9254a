-- The width of the table is what its columns take with all that their texts ask for.
use Rattle.std.proofs.Common.{Some, None, sym, ap, ◌∙◌, if◌then◌else◌}
use Rattle.std.specs.Prelude.{nat_lt}
use Rattle.tabled_viewing.specs.Notes.{width_missed}
use Rattle.tabled_viewing.proofs.notes.width_missed.Goals as goal

pub returns-in-Some : goal.returns-in-Some
returns-in-Some g c = λ events shows.
    c.width_if.ensures ∙ ap (λ width. if nat_lt c.in-Some.width width then Some c.in-Some.width else None) (c.least_width.ensures events shows)
    ∙ ap (λ width. width_missed width events c.args.table.now.texts) (sym c.in-Some.is)

pub returns-in-None : goal.returns-in-None
returns-in-None g c = λ events shows. ap (λ width. width_missed width events c.args.table.now.texts) (sym c.in-None.is)
