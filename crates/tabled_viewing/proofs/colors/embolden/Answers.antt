-- The first row is listed, if there is one.
use Rattle.std.proofs.Common.{length, flat_map, subst}
use Rattle.tabled_configuration.specs.Colored.{Changes, by_cell_color}
use Rattle.tabled_object.specs.declared.entity.Entity.{Entity}
use Rattle.tabled_object.specs.Listing.{first_row}
use Rattle.tabled_settings.specs.Setting.{write_of}
use Rattle.tabled_color.specs.Shade.{Shade, texts_of}
use Rattle.tabled_grid.proofs.Seen.{on_ok}
use Rattle.tabled_viewing.specs.Colors.{emboldened}
use Rattle.tabled_viewing.proofs.Applied.{in_turn, unwanted, wanted}
use Rattle.tabled_viewing.proofs.colors.embolden.Goals as goal

pub returns-then-not-is_wanted-clause-config : goal.returns-then-not-is_wanted-clause-config
returns-then-not-is_wanted-clause-config g c = unwanted c.args.is_wanted (emboldened c.args.table.now.texts) c.args.table.now.config c.if-not-is_wanted.true

pub returns-clause-config : goal.returns-clause-config
unfolding emboldened
returns-clause-config g c =
    let table = c.args.table.now in
    on_ok c.apply_to.result (λ made.
    wanted c.args.is_wanted (emboldened table.texts) table.config c.apply_to.new.self.config c.if-not-is_wanted.false
    (subst (λ (shade : Shade). Changes (flat_map (λ (row : Entity). by_cell_color (write_of row (texts_of shade))) (first_row (length table.texts))) table.config c.apply_to.new.self.config) c.bold-color.ensures
    (in_turn (λ row. by_cell_color (write_of row (texts_of c.bold-color.result))) (first_row (length table.texts)) made.0 table.config c.apply_to.new.self.config made.1)))
    c.apply_to.ensures.config
