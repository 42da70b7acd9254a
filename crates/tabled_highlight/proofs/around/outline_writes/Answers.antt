use Rattle.std.proofs.Common.{sym, option_copied, ◌∙◌}
use Rattle.tabled_places.proofs.EntityBorders.{nothing_written}
use Rattle.tabled_highlight.specs.Around.{written_around}
use Rattle.tabled_highlight.specs.Highlighting.{drawn_with}
use Rattle.tabled_highlight.proofs.around.outline_writes.Goals as goal

pub returns-in-None-None : goal.returns-in-None-None
returns-in-None-None g c =
    nothing_written c.new.result.items c.new.ensures.items
    ∙ (λ i. written_around c.args.cells.now.keys (drawn_with (option_copied (sym c.in-None-None.is-0 i)) (option_copied (sym c.in-None-None.is-1 i))))
