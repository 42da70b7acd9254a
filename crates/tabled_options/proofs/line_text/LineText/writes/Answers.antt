-- The lists are those of the text.
use Rattle.std.proofs.Common.{◌∙◌, ap, sym, option_map}
use Rattle.tabled_color.specs.Shade.{texts_of}
use Rattle.tabled_configuration.specs.Configuration.{all_writes}
use Rattle.tabled_printing.specs.Picture.{look}
use Rattle.tabled_options.specs.LineText.{text_events, places_taken, characters_written, colors_written}
use Rattle.tabled_options.proofs.WrittenLemmas.{writes_are_events, no_line}
use Rattle.tabled_options.proofs.line_text.LineText.writes.Goals as goal

pub returns-in_default : goal.returns-in_default
returns-in_default g c =
    let view = look (all_writes c.args.cfg.now) c.args.shape (g.D.Dimension.width_of c.args.dims.now) (g.D.Dimension.height_of c.args.dims.now) in
    no_line c.args.self.now view c.new.result.items c.new-in_default.result.items c.new.ensures.items c.new-in_default.ensures.items
    ∙ ap (text_events c.args.self.now view) (sym c.in_default.is)

pub returns : goal.returns
returns g c =
    let view = look (all_writes c.args.cfg.now) c.args.shape (g.D.Dimension.width_of c.args.dims.now) (g.D.Dimension.height_of c.args.dims.now) in
    writes_are_events c.args.self.now view c.args.line c.in_ok-characters.characters.items c.in_ok-colors.colors.items c.in_ok-taken.taken.items _
    (c.in_ok-characters.ensures ∙ ap (characters_written view.shown) c.deref.ensures.value)
    (c.in_ok-colors.ensures ∙ ap (colors_written _) c.deref-2.ensures.value)
    (c.in_ok-taken.ensures ∙ ap (places_taken c.args.self.now view) (sym c.in-Some.is))
    (ap (option_map texts_of) (c.as_ref.ensures.value ∙ ap (λ text. text.color) c.self.view_is))
