-- Rows are refused where their counts differ.
use Rattle.std.proofs.Common.{refl, ap, ◌∙◌, inr, Err}
use Rattle.tabled_text.specs.TextTable.{lent_texts}
use Rattle.tabled_pages.proofs.Counts.{taken_equal, refused_unequal}
use Rattle.tabled_pages.proofs.page.plain_table.Goals as goal

pub returns-in-Ok-clause-equal : goal.returns-in-Ok-clause-equal
returns-in-Ok-clause-equal c = taken_equal (lent_texts c.args.rows.items) c.from_rows.result _ refl c.from_rows.ensures.refusal _ c.in-Ok.is

pub returns-in-Err-UnequalRows-clause-refused : goal.returns-in-Err-UnequalRows-clause-refused
returns-in-Err-UnequalRows-clause-refused c =
    inr (refl, refused_unequal (lent_texts c.args.rows.items) c.from_rows.result _ refl c.from_rows.ensures.refusal _ _ _ (c.in-Err-UnequalRows.is ∙ ap (λ e. Err e) c.in-Err-UnequalRows.field-0-is))
