-- No word names a column.
use Rattle.std.proofs.Common.{◌≡◌, ℕ, false, List, map, replicate, string_bytes, Option, None, Some, ap, ◌∙◌}
use Rattle.std.specs.List.{range_with_len}
use Rattle.std.proofs.lemmas.List.{get_or-replicate, length-replicate}
use Rattle.std.proofs.lemmas.List.FromFn.{fill_by_all}
use Rattle.std.proofs.lemmas.Result.{IfOk-weaker}
use Rattle.tabled_numbers.specs.Columns.{column_count}
use Rattle.tabled_request.specs.Columns.{columns_named, is_one}
use Rattle.tabled_request.specs.Sides.{headings_of, is_named}
use Rattle.tabled_request.specs.Words.{word_at}
use Rattle.tabled_request.specs.declared.request.Request.{Request}
use Rattle.tabled_request.proofs.sides.named.Goals as goal

module _ (request : Request) (words : List (List ℕ)) (rows : List (List (List ℕ))) (number : Option ℕ) (none : None ≡ word_at words number) where
  not_named : (col : ℕ) → false ≡ is_named request words rows number col
  not_named col = ap (λ found. elim found [ None ↦ false | Some word ↦ is_one (columns_named word (headings_of request rows) (column_count rows)) col ]) none

  none_named : (count : ℕ) → count ≡ column_count rows → replicate count false ≡ map (is_named request words rows number) (range_with_len 0 (column_count rows))
  none_named count e =
      fill_by_all (is_named request words rows number) (replicate count false) count false (length-replicate count false)
      (λ col below. get_or-replicate count col false false below ∙ not_named col)
      ∙ ap (λ n. map (is_named request words rows number) (range_with_len 0 n)) e

pub returns-in-None : goal.returns-in-None
returns-in-None g c =
    IfOk-weaker c.no_flags.result (λ flags. flags.items ≡ replicate c.column_count-count.result false)
    (λ flags.
    flags.items
    ≡ map (is_named c.args.request (map string_bytes c.args.words.now) (map (λ row. map g.T.AsStr.text row.items) c.args.rows.now) c.args.number) (range_with_len 0 (column_count (map (λ row. map g.T.AsStr.text row.items) c.args.rows.now))))
    (λ flags e.
    e
    ∙ none_named c.args.request (map string_bytes c.args.words.now) (map (λ row. map g.T.AsStr.text row.items) c.args.rows.now) c.args.number c.in-None.ensures c.column_count-count.result c.column_count-count.ensures)
    c.no_flags.ensures
