-- The texts are kept within the shares of their columns.
use Rattle.std.proofs.Common.{ap, ◌∙◌}
use Rattle.tabled_grid.proofs.Seen.{on_ok}
use Rattle.tabled_measure.specs.Changed.{cells_changed, texts_of_columns}
use Rattle.tabled_text.proofs.text_table.limits.TextTable.fit_with.Goals as goal

pub returns-clause-texts : goal.returns-clause-texts
returns-clause-texts c es shows =
    on_ok c.change_texts.result (λ changed. c.in_ok-widths.ensures.fitted es c.args.how c.change_texts.new.self.texts shows
    (changed ∙ ap (λ widths. cells_changed (texts_of_columns c.args.how widths) c.args.self.now.texts) c.deref.ensures.value)) c.change_texts.ensures.texts

pub returns-clause-fits : goal.returns-clause-fits
returns-clause-fits c es shows can few alone =
    on_ok c.change_texts.result (λ changed. c.in_ok-widths.ensures.fits es c.args.how c.change_texts.new.self.texts shows can few alone
    (changed ∙ ap (λ widths. cells_changed (texts_of_columns c.args.how widths) c.args.self.now.texts) c.deref.ensures.value)) c.change_texts.ensures.texts
