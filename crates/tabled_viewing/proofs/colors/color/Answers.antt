-- One after the other.
use Rattle.std.proofs.Common.{if◌then◌else◌, [], subst, ◌∙◌}
use Rattle.tabled_configuration.specs.ChangeLaws.{both_change}
use Rattle.tabled_configuration.specs.Colored.{Changes}
use Rattle.tabled_grid.proofs.Seen.{on_ok}
use Rattle.tabled_width.specs.Texts.{Table}
use Rattle.tabled_viewing.specs.Colors.{emboldened, frame_colored}
use Rattle.tabled_viewing.proofs.colors.color.Goals as goal

pub returns-clause-config : goal.returns-clause-config
returns-clause-config g c =
    let table = c.args.table.now in
    let same = c.in_ok-stripe.ensures.texts in
    let rows = both_change _ (if c.args.request.has_header then emboldened table.texts else []) table.config c.stripe.new.table.config c.embolden.new.table.config c.in_ok-stripe.ensures.config
    (subst (λ (texts : Table). Changes (if c.args.request.has_header then emboldened texts else []) c.stripe.new.table.config c.embolden.new.table.config) same c.in_ok-embolden.ensures.config) in
    on_ok c.color_frame.result (λ last.
    both_change _ (frame_colored c.args.request.frame_color table.texts) table.config c.embolden.new.table.config c.color_frame.new.table.config rows
    (subst (λ (texts : Table). Changes (frame_colored c.args.request.frame_color texts) c.embolden.new.table.config c.color_frame.new.table.config) (c.in_ok-embolden.ensures.texts ∙ same) last))
    c.color_frame.ensures.config
