-- The first rows have the first texts.
use Rattle.std.proofs.Common.{◌+◌, take, sym, ap, ◌∙◌}
use Rattle.tabled_text.specs.TextTable.{lent_texts}
use Rattle.tabled_viewing.specs.Rows.{first_rows}
use Rattle.tabled_viewing.proofs.rows.keep_first.Goals as goal

pub returns : goal.returns
returns c =
    let rows = lent_texts c.args.rows.now.items in
    c.head.ensures ∙ ap (λ header. take (header + c.in-Some.count) rows) c.header_count.ensures.same ∙ ap (λ count. first_rows count c.args.has_header rows) (sym c.in-Some.is)
