-- A style and outlines set nothing besides borders.
use Rattle.std.proofs.Common.{◌≡◌, ◌++◌, Bool, List, ℕ, Option, map, string_bytes, subst, ◌∙◌}
use Rattle.std.specs.Prelude.{is_some, option_map}
use Rattle.tabled_configuration.specs.Colored.{Shows}
use Rattle.tabled_grid.proofs.Seen.{on_ok}
use Rattle.tabled_viewing.specs.Captions.{caption, on_line}
use Rattle.tabled_viewing.specs.View.{draws_above, framed, title_of}
use Rattle.tabled_viewing.proofs.Outlined.{nothing_framed}
use Rattle.tabled_viewing.proofs.page.put_title.Goals as goal

pub returns-clause-config : goal.returns-clause-config
returns-clause-config g c = λ rows texts shows.
    let words = map string_bytes c.args.words.now in
    let before = framed c.args.request c.args.style words rows texts in
    let drawn_above : c.is_some.result ≡ draws_above c.args.style = c.is_some.ensures ∙ (λ i. is_some (c.borders.ensures i).top) in
    let title : option_map string_bytes c.in_ok-text.text ≡ title_of c.args.request words c.args.around =
    c.in_ok-text.ensures ∙ (λ i. caption c.args.request.is_raw (c.width_asked.ensures i) (c.word_at-title.ensures i)) in
    on_ok c.put_caption.result (λ is.
    subst (λ (text : Option (List ℕ)). Shows (before ++ on_line (draws_above c.args.style) before c.args.table.now.texts 0 text) c.put_caption.new.table.config) title
    (subst (λ (b : Bool). Shows (before ++ on_line b before c.args.table.now.texts 0 (option_map string_bytes c.in_ok-text.text)) c.put_caption.new.table.config) drawn_above is))
    (c.put_caption.ensures.config before shows (nothing_framed c.args.request c.args.style words rows texts))
