-- A style, outlines and a title set nothing besides borders.
use Rattle.std.proofs.Common.{◌≡◌, ◌++◌, Bool, List, ℕ, Option, length, map, string_bytes, subst, ◌∙◌}
use Rattle.std.specs.Prelude.{is_some, option_map}
use Rattle.tabled_configuration.specs.Colored.{Shows}
use Rattle.tabled_grid.proofs.Seen.{on_ok}
use Rattle.tabled_object.specs.declared.records.Shape.{Shape}
use Rattle.tabled_viewing.specs.Captions.{caption, on_line}
use Rattle.tabled_viewing.specs.View.{draws_below, footer_of, framed, title_of, titled}
use Rattle.tabled_viewing.proofs.OnLines.{nothing_titled}
use Rattle.tabled_viewing.proofs.Outlined.{nothing_framed}
use Rattle.tabled_viewing.proofs.page.put_footer.Goals as goal

pub returns-clause-config : goal.returns-clause-config
returns-clause-config g c = λ rows texts shows.
    let table = c.args.table.now.texts in
    let words = map string_bytes c.args.words.now in
    let drawn = framed c.args.request c.args.style words rows texts in
    let title = title_of c.args.request words c.args.around in
    let before = titled c.args.style title drawn table in
    let drawn_below : c.is_some.result ≡ draws_below c.args.style = c.is_some.ensures ∙ (λ i. is_some (c.borders.ensures i).bottom) in
    let footer : option_map string_bytes c.in_ok-text.text ≡ footer_of c.args.request words c.args.around =
    c.in_ok-text.ensures ∙ (λ i. caption c.args.request.is_raw (c.width_asked.ensures i) (c.word_at-footer.ensures i)) in
    on_ok c.put_caption.result (λ is.
    subst (λ (text : Option (List ℕ)). Shows (before ++ on_line (draws_below c.args.style) before table (length table) text) c.put_caption.new.table.config) footer
    (subst (λ (b : Bool). Shows (before ++ on_line b before table (length table) (option_map string_bytes c.in_ok-text.text)) c.put_caption.new.table.config) drawn_below
    (subst (λ (shape : Shape). Shows (before ++ on_line c.is_some.result before table shape.rows (option_map string_bytes c.in_ok-text.text)) c.put_caption.new.table.config) c.shape-rows.ensures is)))
    (c.put_caption.ensures.config before shows (nothing_titled c.args.style title drawn table (nothing_framed c.args.request c.args.style words rows texts)))
