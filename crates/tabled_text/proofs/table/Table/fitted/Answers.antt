-- The texts are kept within the shares of their columns.
use Rattle.std.proofs.Common.{ap, ◌∙◌}
use Rattle.std.proofs.lemmas.Result.{IfOk-weaker}
use Rattle.tabled_measure.specs.Changed.{cells_changed, texts_of_columns}
use Rattle.tabled_text.proofs.table.Table.fitted.Goals as goal

pub returns-clause-texts : goal.returns-clause-texts
returns-clause-texts g c es shows =
    IfOk-weaker c.changed.result _ _ (λ table changed. c.in_ok-widths.ensures.fitted es c.args.how table.texts shows
    (changed ∙ ap (λ widths. cells_changed (texts_of_columns c.args.how widths) c.args.self.texts) c.deref.ensures.value)) c.changed.ensures.texts

pub returns-clause-fits : goal.returns-clause-fits
returns-clause-fits g c es shows can few alone =
    IfOk-weaker c.changed.result _ _ (λ table changed. c.in_ok-widths.ensures.fits es c.args.how table.texts shows can few alone
    (changed ∙ ap (λ widths. cells_changed (texts_of_columns c.args.how widths) c.args.self.texts) c.deref.ensures.value)) c.changed.ensures.texts
