-- The rows are those of the definition, and what is known of these is known of them.
use Rattle.std.proofs.Common.{◌≡◌, Bool, IfOk, cond, length, map, nat_lt, subst, sym, ap, ◌∙◌, arith}
use Rattle.std.specs.List.{sum_by}
use Rattle.std.proofs.lemmas.Bool.{le-ltb, lt-ltb}
use Rattle.std.proofs.lemmas.Result.{IfOk-weaker}
use Rattle.tabled_input.specs.Lines.{cells_of}
use Rattle.tabled_input.specs.Spaced.{AreEven, cells_of_line, columns_in, row_words, spaced, wide_count, word_columns, word_lines}
use Rattle.tabled_input.proofs.Bounded.{spaced_bounded}
use Rattle.tabled_input.proofs.Even.{spaced_even}
use Rattle.tabled_input.proofs.Kept.{spaced_kept}
use Rattle.tabled_input.proofs.spacing.spaced.Goals as goal
use Rattle.tabled_input.proofs.spacing.spaced.Goals.{then-wide-gt0, else-wide-gt0+in_ok-columns}

pub returns-clause-rows : goal.returns-clause-rows
unfolding spaced
returns-clause-rows c =
    let text = c.args.text.now in
    let wide = wide_count (word_lines text) in
    let which = λ (b : Bool). cond b wide (word_columns text) in
    let columns : c.if-wide-gt0.columns ≡ columns_in text = elim c.if-wide-gt0.branch [
      | then-wide-gt0 w ↦ w.columns-is ∙ c.in_ok-wide.ensures ∙ ap which (sym (lt-ltb 0 wide (omega arith)))
      | else-wide-gt0+in_ok-columns w ↦ w.columns-is ∙ w.in_ok-columns.ensures ∙ ap which (sym (le-ltb 0 wide (omega arith)))
    ] in
    subst (λ table. IfOk c.rows_of.result (λ rows. cells_of rows.items ≡ table)) (λ i. map (cells_of_line (nat_lt 0 (c.in_ok-wide.ensures i)) (columns i)) (word_lines text)) c.rows_of.ensures

pub returns-clause-even : goal.returns-clause-even
returns-clause-even c = IfOk-weaker c.rows_of.result _ _ (λ rows are. subst AreEven (sym are) (spaced_even c.args.text.now)) (returns-clause-rows c)

pub returns-clause-words : goal.returns-clause-words
returns-clause-words c = IfOk-weaker c.rows_of.result _ _ (λ rows are. ap row_words are ∙ spaced_kept c.args.text.now) (returns-clause-rows c)

pub returns-clause-bounded : goal.returns-clause-bounded
returns-clause-bounded c = IfOk-weaker c.rows_of.result _ _ (λ rows are. omega (arith, ap (sum_by length) are, spaced_bounded c.args.text.now c.utf8.text)) (returns-clause-rows c)
