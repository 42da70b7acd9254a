-- No column has the heading.
use Rattle.std.proofs.Common.{◌≡◌, ◌==◌, not, ap, sym, ◌∙◌, List, ℕ, None, Some, length, map, filter}
use Rattle.std.specs.List.{range_with_len}
use Rattle.tabled_request.specs.Columns.{columns_of_part, has_heading, is_in, numbers_of}
use Rattle.tabled_request.proofs.KeptColumns.{none_passes}
use Rattle.tabled_request.proofs.columns.is_unknown.Goals as goal

headed : (headings : List (List ℕ)) (count : ℕ) (part : List ℕ) → numbers_of part ≡ None → filter (has_heading headings part) (range_with_len 0 count) ≡ columns_of_part headings count part
unfolding columns_of_part
headed headings count part e =
    sym (ap (λ numbers. elim numbers [ None ↦ filter (has_heading headings part) (range_with_len 0 count) | Some range ↦ filter (is_in range) (range_with_len 0 count) ]) e)

pub returns-in-None : goal.returns-in-None
returns-in-None g c =
    ap not c.is_heading.ensures
    ∙ none_passes (has_heading (map g.T.AsStr.text c.args.headings.now) c.args.part.now) (range_with_len 0 c.args.count)
    ∙ ap (λ columns. length columns == 0) (headed (map g.T.AsStr.text c.args.headings.now) c.args.count c.args.part.now (sym c.numbers_of.ensures ∙ c.in-None.is))
