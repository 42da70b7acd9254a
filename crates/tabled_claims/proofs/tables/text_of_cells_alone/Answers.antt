-- Each cell stands alone.
use Rattle.std.proofs.Common.{string_bytes, ◌∙◌}
use Rattle.tabled_text.proofs.SpanLemmas.{text_without}
use Rattle.tabled_claims.proofs.Fitted.{if_ok}
use Rattle.tabled_claims.proofs.tables.text_of_cells_alone.Goals as goal

pub returns : goal.returns
returns c = λ events shows none. if_ok c.to_text.result (λ text is. is ∙ text_without events c.args.table.now.texts none) (c.to_text.ensures.text events shows)
