-- In color, or not; where no cell spans and no padding is set, the text is that of cells alone.
use Rattle.std.proofs.Common.{◌≡◌, ◌++◌, Bool, true, false, if◌then◌else◌, List, ℕ, sym, ap, subst, ◌∙◌}
use Rattle.std.specs.Io.KnownBytes.{Appends}
use Rattle.tabled_grid.proofs.Seen.{on_ok}
use Rattle.tabled_painting.specs.PaintedTable.{colored_text}
use Rattle.tabled_painting.specs.Widths.{text_width}
use Rattle.tabled_width.specs.Narrow.{IsRectangle}
use Rattle.tabled_measure.specs.Cells.{margin_set}
use Rattle.tabled_text.specs.TextTable.{look_of, look_with_spans, painted, text_of}
use Rattle.tabled_text.proofs.SpannedEven.{apart_alone, stand_apart}
use Rattle.tabled_viewing.proofs.page.print.Goals as goal

pub returns-then-is_colored-clause-text : goal.returns-then-is_colored-clause-text
returns-then-is_colored-clause-text g c = λ events shows.
    let table = c.args.table.now.texts in
    on_ok c.print_ansi_between.result
    (subst (λ (text : List ℕ). Appends (g.W.Write.contents c.args.output.now) (g.W.Write.contents c.print_ansi_between.new.out) (c.args.before.now ++ text ++ c.args.after.now))
    (ap (λ (b : Bool). if b then colored_text (painted events table) else text_of events table) (sym c.if-is_colored.true)))
    (c.print_ansi_between.ensures.text events shows)

pub returns-then-is_colored-clause-rectangle : goal.returns-then-is_colored-clause-rectangle
returns-then-is_colored-clause-rectangle g c = λ plain events shows narrow none. let no : true ≡ false = sym c.if-is_colored.true ∙ plain in absurd cc

pub returns-clause-text : goal.returns-clause-text
returns-clause-text g c = λ events shows.
    let table = c.args.table.now.texts in
    on_ok c.print_between.result
    (subst (λ (text : List ℕ). Appends (g.W.Write.contents c.args.output.now) (g.W.Write.contents c.print_between.new.out) (c.args.before.now ++ text ++ c.args.after.now))
    (ap (λ (b : Bool). if b then colored_text (painted events table) else text_of events table) (sym c.if-is_colored.false)))
    (c.print_between.ensures.text events shows.spanned_shown)

pub returns-clause-rectangle : goal.returns-clause-rectangle
returns-clause-rectangle g c = λ plain events shows narrow leaves.
    let table = c.args.table.now.texts in
    on_ok c.print_between.result
    (subst (λ (alone : Bool). IsRectangle (text_width (if alone then look_of events table else look_with_spans events table) (margin_set events)) (text_of events table)) leaves)
    (c.print_between.ensures.rectangle events shows.spanned_shown narrow (stand_apart events table (apart_alone events leaves)))
