-- Nothing was set before, and then a style is applied.
use Rattle.std.proofs.Common.{Bool, if◌then◌else◌, [], sym, ap, subst, ◌∙◌}
use Rattle.tabled_configuration.specs.Colored.{Shows}
use Rattle.tabled_configuration.specs.Configuration.{borders_replaced}
use Rattle.tabled_changes.proofs.ColoredLemmas.{Shows_after_change_colored}
use Rattle.tabled_grid.proofs.Seen.{on_ok}
use Rattle.tabled_places.specs.declared.borders.Borders.{Borders}
use Rattle.tabled_object.specs.declared.records.Shape.{Shape}
use Rattle.tabled_style.specs.Named.{shown, ready_applied}
use Rattle.tabled_viewing.specs.View.{has_header_line}
use Rattle.tabled_viewing.proofs.drawing.draw.Goals as goal

pub returns-then-has_header_line-clause-config : goal.returns-then-has_header_line-clause-config
returns-then-has_header_line-clause-config g c =
    let table = c.args.table.now in
    let holds = sym (ap (λ (shape : Shape). has_header_line c.args.request c.args.style shape.rows) c.shape.ensures) ∙ sym c.has_header_line.ensures ∙ c.if-has_header_line.true in
    on_ok c.apply.result (λ changed.
    subst (λ (b : Bool). Shows (if b then ready_applied c.args.style else borders_replaced (shown c.args.style).borders [] []) c.apply.new.self.config) (sym holds)
    (Shows_after_change_colored [] (ready_applied c.args.style) table.config c.apply.new.self.config changed.2 c.requires))
    c.apply.ensures.config

pub returns-clause-config : goal.returns-clause-config
returns-clause-config g c =
    let table = c.args.table.now in
    let holds = sym (ap (λ (shape : Shape). has_header_line c.args.request c.args.style shape.rows) c.shape.ensures) ∙ sym c.has_header_line.ensures ∙ c.if-has_header_line.false in
    on_ok c.apply-2.result (λ changed.
    subst (λ (b : Bool). Shows (if b then ready_applied c.args.style else borders_replaced (shown c.args.style).borders [] []) c.apply-2.new.self.config) (sym holds)
    (subst (λ (borders : Borders _). Shows (borders_replaced borders [] []) c.apply-2.new.self.config) c.borders.ensures
    (Shows_after_change_colored [] (borders_replaced c.borders.result [] []) table.config c.apply-2.new.self.config changed.2 c.requires)))
    c.apply-2.ensures.config
