-- What the configuration returns is how the table looks.
use Rattle.std.proofs.Common.{ap, sym, ◌∙◌, is_some}
use Rattle.tabled_printing.specs.Picture.{edge_size}
use Rattle.tabled_printing.proofs.LookLemmas.{own_shown}
use Rattle.tabled_options.specs.Laying.{looked}
use Rattle.tabled_options.proofs.LineLemmas.{crossing_takes}
use Rattle.tabled_options.proofs.table_line.TableLine.takes_character.Goals as goal

pub returns-in-Cross : goal.returns-in-Cross
returns-in-Cross g c =
    let widths = g.D.Dimension.width_of c.args.self.now.dims.now in
    let heights = g.D.Dimension.height_of c.args.self.now.dims.now in
    c.is_some.ensures
    ∙ ap is_some (own_shown c.args.self.now.cfg.now c.args.self.now.shape widths heights c.args.place 0 c.char_at.result (sym (ap (edge_size widths heights) c.in-Cross.is)) c.char_at.ensures.value)
    ∙ crossing_takes (looked g.D.Dimension.width_of g.D.Dimension.height_of c.args.self.now).shown c.args.place c.in-Cross.row c.in-Cross.col c.in-Cross.is
