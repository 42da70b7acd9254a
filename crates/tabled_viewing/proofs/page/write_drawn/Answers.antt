-- What was done to the table one after the other.
use Rattle.std.proofs.Common.{◌≡◌, ◌++◌, ◌∷◌, [], Bool, List, ℕ, true, false, map, string_bytes, refl, sym, ap, subst, ◌∙◌}
use Rattle.tabled_configuration.specs.Colored.{Shows}
use Rattle.tabled_configuration.specs.Configuration.{ConfigEvent}
use Rattle.tabled_painting.specs.Widths.{text_width}
use Rattle.tabled_width.specs.Narrow.{IsRectangle}
use Rattle.tabled_printing.specs.Columns.{WritesNarrow}
use Rattle.tabled_width.specs.Texts.{Table}
use Rattle.tabled_measure.specs.Cells.{leaves_sizes, margin_set}
use Rattle.tabled_text.specs.TextTable.{look_of}
use Rattle.tabled_viewing.specs.Colors.{aligned, colored_if}
use Rattle.tabled_viewing.specs.View.{captioned, footer_of, framed, title_of, titled, written}
use Rattle.tabled_viewing.proofs.Pages.{around_text, page_by_parts, page_fits}
use Rattle.tabled_viewing.proofs.page.write_drawn.Goals as goal

pub returns-clause-written : goal.returns-clause-written
returns-clause-written g c = λ rows texts framed_so sides kept fits.
    let request = c.args.request in
    let style = c.args.style in
    let words = map string_bytes c.args.words.now in
    let around = c.args.around in
    let before = framed request style words rows texts in
    let above_text = title_of request words around in
    let below_text = footer_of request words around in
    let table = c.args.table.texts in
    let first = c.in_ok-above.ensures.texts in
    let second = c.in_ok-below.ensures.texts ∙ first in
    let third = c.in_ok-place_and_color.ensures.texts ∙ second in
    let title = c.in_ok-above.ensures.config rows texts framed_so in
    let footer = c.in_ok-below.ensures.config rows texts
    (subst (λ (now : Table). Shows (titled style above_text before now) c.put_title.new.table.config) (sym first) title) in
    let all = c.in_ok-place_and_color.ensures.config (captioned style above_text below_text before c.put_title.new.table.texts) footer in
    let in_color = c.is_colored-in_color.result in
    let events : List ConfigEvent = (captioned style above_text below_text before c.put_title.new.table.texts ++ aligned 0 c.args.sides.now) ++ colored_if in_color request c.put_footer.new.table.texts in
    let text : List ℕ = written in_color events c.place_and_color.new.table.texts in
    let wide : ℕ = text_width (look_of events c.place_and_color.new.table.texts) (margin_set events) in
    let above : List ℕ = string_bytes c.in_ok-above.above in
    let below : List ℕ = string_bytes c.in_ok-below.below in
    let whole : List ℕ = c.as_str-2.result.now ++ text ++ c.as_str-3.result.now in
    let is : whole ≡ above ++ (text ++ 10 ∷ []) ++ below =
    around_text above text below c.as_str-2.result.now c.as_str-3.result.now c.as_str-2.ensures.value (c.as_str-3.ensures.value ∙ c.in_ok-after.ensures ∙ ap (λ (l : List ℕ). 10 ∷ l) c.as_str.ensures.value) in
    let even : in_color ≡ false → WritesNarrow events → leaves_sizes events ≡ true → IsRectangle wide text =
    λ plain narrow none. subst (λ (b : Bool). IsRectangle wide (written b events c.place_and_color.new.table.texts)) (sym plain) (c.in_ok-write_table.ensures.rectangle plain events all narrow none) in (
      whole,
      page_by_parts request style words around rows texts table c.put_title.new.table.texts c.put_footer.new.table.texts c.place_and_color.new.table.texts
          c.args.sides.now in_color above below text whole c.notes_of-notes.result (kept) first second third sides c.is_colored-in_color.ensures
          c.in_ok-above.ensures.above c.in_ok-below.ensures.below refl is
          (page_fits request style words around rows texts table c.put_title.new.table.texts c.put_footer.new.table.texts c.place_and_color.new.table.texts
          c.args.sides.now in_color above below text text whole fits third c.is_colored-in_color.ensures
          c.in_ok-above.ensures.above c.in_ok-below.ensures.below refl is even)
          (c.notes_of-notes.ensures before framed_so.spanned_shown),
      c.in_ok-write_table.ensures.text events all,
    )
