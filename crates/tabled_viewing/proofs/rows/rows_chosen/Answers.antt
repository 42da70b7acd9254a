-- Rows are filled, then the first ones kept, then columns chosen; each is tested before it is used.
use Rattle.std.proofs.Common.{◌≡◌, None, map, string_bytes, sym, ap, ◌∙◌}
use Rattle.std.specs.Option.{option_or}
use Rattle.tabled_request.specs.declared.options.OptionName.TheVariants.{Columns}
use Rattle.tabled_text.specs.TextTable.{lent_texts}
use Rattle.tabled_width.specs.Texts.{Table}
use Rattle.tabled_viewing.specs.Refusal.{fault_of_columns, fault_of_sides}
use Rattle.tabled_viewing.specs.Rows.{columns_chosen, first_rows, rows_shown, rows_taken}
use Rattle.tabled_viewing.proofs.rows.rows_chosen.Goals as goal

pub returns-clause-rows : goal.returns-clause-rows
returns-clause-rows c =
    let request = c.args.request in
    let given : Table = lent_texts c.args.rows.items in
    let taken : lent_texts c.keep_first.new.rows.items ≡ rows_taken request given =
    c.keep_first.ensures ∙ ap (first_rows request.head request.has_header) c.in_ok-rows.ensures.rows in
    c.in_ok-rows-2.ensures ∙ (λ i. columns_chosen request (c.word_at.ensures i) (taken i))

pub returns-clause-good : goal.returns-clause-good
returns-clause-good c =
    let request = c.args.request in
    let words = map string_bytes c.args.words.now in
    let given : Table = lent_texts c.args.rows.items in
    let taken : lent_texts c.keep_first.new.rows.items ≡ rows_taken request given =
    c.keep_first.ensures ∙ ap (first_rows request.head request.has_header) c.in_ok-rows.ensures.rows in
    let columns : fault_of_columns request words (rows_taken request given) Columns request.columns ≡ None =
    sym (ap (λ rows. fault_of_columns request words rows Columns request.columns) (ap (λ rows. lent_texts rows) c.deref.ensures.value ∙ taken)) ∙ c.in_ok-check_columns.ensures.good in
    λ i. option_or (c.in_ok-rows.ensures.good i) (option_or (columns i) (fault_of_sides request words (rows_shown request words given)))
