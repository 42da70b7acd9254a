use Rattle.std.proofs.Common.{ap, sym, option_copied, option_map, None, ◌∙◌}
use Rattle.tabled_places.proofs.EntityBorders.{nothing_written}
use Rattle.tabled_color.specs.BorderColors.{border_texts}
use Rattle.tabled_highlight.specs.Around.{written_around}
use Rattle.tabled_highlight.specs.Highlighting.{drawn_with}
use Rattle.tabled_highlight.proofs.highlight.color_writes.Goals as goal

pub returns-in-None : goal.returns-in-None
returns-in-None c =
    nothing_written c.new.result.items c.new.ensures.items ∙ ap (λ color. written_around c.args.cells.now.keys (drawn_with (option_map border_texts (option_copied color)) None)) (sym c.in-None.is)
