-- Option by option: each reads the same texts and sizes, and what stands after those before it.
use Rattle.std.proofs.Common.{ℕ, List, [], ◌∷◌, length, refl, subst, ◌∙◌}
use Rattle.tabled_object.specs.declared.dimension.FixedDimension.{FixedDimension}
use Rattle.std.specs.Prelude.{slice_index}
use Rattle.tabled_object.specs.declared.entity.Entity.TheVariants.{Row, Cell}
use Rattle.tabled_grid.proofs.Seen.{on_ok}
use Rattle.tabled_configuration.specs.Configuration.{all_writes}
use Rattle.tabled_configuration.specs.Colored.{Changes}
use Rattle.tabled_text.specs.TextTable.{widths_read, heights_read}
use Rattle.tabled_printing.specs.Picture.{look}
use Rattle.tabled_width.specs.Texts.{Table}
use Rattle.tabled_highlight.specs.Highlighting.{highlight_events}
use Rattle.tabled_options.specs.LineChar.{line_char_events}
use Rattle.tabled_options.specs.LineText.{text_events}
use Rattle.tabled_options.specs.NamedLine.{row_line}
use Rattle.tabled_measure.specs.Sizes.{column_count}
use Rattle.tabled_kinds.specs.EveryKind.{InTurn}
use Rattle.tabled_kinds.proofs.Turns.{nothing_yet, then_one, then_those}
use Rattle.tabled_kinds.proofs.kinds.every_line.Goals as goal

pub returns-clause-steps : goal.returns-clause-steps
returns-clause-steps c =
    let kinds = c.args.kinds in
    let start = c.args.table.now in
    let texts : Table = start.texts in
    let sizes : FixedDimension = start.sizes in
    let texts_2 = c.apply.ensures.texts in
    let texts_3 = c.apply-2.ensures.texts ∙ texts_2 in
    let sizes_2 = c.apply.ensures.sizes in
    let sizes_3 = c.apply-2.ensures.sizes ∙ sizes_2 in
    let here : Table = c.apply.new.self.texts in
    let before = c.apply.new.self.config in
    let read = c.in_ok-apply-2.ensures.config in
    let titled = subst (λ (wide_high : List ℕ × List ℕ). Changes (text_events kinds.title (look (all_writes before.spanned) (length here, column_count here) (slice_index wide_high.0) (slice_index wide_high.1)) (row_line 0)) before c.apply-2.new.self.config)
    (λ i. (read.1.widths i, read.1.heights i)) read.2 in
    on_ok c.apply_to.result (λ last.
    then_those (λ t s. (λ before. line_char_events kinds.mark (length t, column_count t) (Cell 1 0)) ∷ []) _ texts _ sizes _ start.config _ _ texts_3 sizes_3
    (then_one (λ t s before. text_events kinds.title (look (all_writes before.spanned) (length t, column_count t) (slice_index (widths_read before.spanned t)) (slice_index (heights_read before.spanned t))) (row_line 0)) _ texts _ sizes _ start.config _ _ texts_2 sizes_2
    (then_one (λ t s before. highlight_events (length t, column_count t) (Row kinds.outline.target.index ∷ []) kinds.outline.border kinds.outline.diagonal kinds.outline.color) _ texts _ sizes _ start.config _ _ refl refl
    (nothing_yet start.config)
    c.in_ok-apply.ensures.config.2)
    titled)
    (subst (λ steps. InTurn steps c.apply-2.new.self.config c.apply_to.new.self.config) (λ i. (λ before. line_char_events kinds.mark (length c.apply-2.new.self.texts, column_count c.apply-2.new.self.texts) (Cell (c.new.ensures.row i) (c.new.ensures.col i))) ∷ []) last)) c.apply_to.ensures.config
