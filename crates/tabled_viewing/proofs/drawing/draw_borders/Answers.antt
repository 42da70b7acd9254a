-- The style, and then the outlines.
use Rattle.std.proofs.Common.{length, map, string_bytes, subst}
use Rattle.tabled_configuration.specs.Colored.{Changes}
use Rattle.tabled_changes.proofs.ColoredLemmas.{Shows_after_change_colored}
use Rattle.tabled_grid.proofs.Seen.{on_ok}
use Rattle.tabled_width.specs.Texts.{Table}
use Rattle.tabled_viewing.specs.Outlines.{outlines}
use Rattle.tabled_viewing.specs.View.{drawn}
use Rattle.tabled_viewing.proofs.drawing.draw_borders.Goals as goal

pub returns-clause-config : goal.returns-clause-config
returns-clause-config g c = λ rows are.
    let words = map string_bytes c.args.words.now in
    let table = c.args.table.now in
    on_ok c.outline.result (λ changes.
    Shows_after_change_colored (drawn c.args.request c.args.style (length table.texts)) (outlines c.args.request c.args.style words rows table.texts) c.draw.new.table.config c.outline.new.table.config
    (subst (λ (texts : Table). Changes (outlines c.args.request c.args.style words rows texts) c.draw.new.table.config c.outline.new.table.config) c.in_ok-draw.ensures.texts changes)
    c.in_ok-draw.ensures.config)
    (c.outline.ensures.config rows are)
