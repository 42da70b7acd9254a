-- Membership in the table, by the test below it.
use Rattle.std.proofs.Common.{◌&&◌, ap, sym, ◌∙◌, rules, tests}
use Rattle.std.specs.List.{list_any}
use Rattle.std.specs.Int.{is_in_range}
use Rattle.std.proofs.lemmas.Iterator.{YieldsList-from_slice}
use Rattle.std.proofs.lemmas.Iterator.Search.{any_from_yields_List}
use Rattle.tabled_width.specs.Marks.{spacing_marks, is_spacing_mark}
use Rattle.tabled_width.proofs.marks.is_spacing_mark.Goals as goal

pub returns-then-is_near_marks : goal.returns-then-is_near_marks
unfolding is_spacing_mark spacing_marks
returns-then-is_near_marks c =
    let character = c.args.character in
    let near = sym c.if-is_near_marks.true ∙ c.is_near_marks.ensures in
    any_from_yields_List (λ pair. is_in_range pair.0 pair.1 character) _ _ c.any.result c.any.ensures.ran (YieldsList-from_slice spacing_marks (cc)) (λ x b q k. search (rules, tests))
    ∙ ap (λ test. test && list_any (λ pair. is_in_range pair.0 pair.1 character) spacing_marks) near

pub returns-else-is_near_marks : goal.returns-else-is_near_marks
unfolding is_spacing_mark
returns-else-is_near_marks c =
    let character = c.args.character in
    let far = sym c.is_near_marks.ensures ∙ c.if-is_near_marks.false in
    c.if-is_near_marks.false ∙ sym (ap (λ test. test && list_any (λ pair. is_in_range pair.0 pair.1 character) spacing_marks) far)
