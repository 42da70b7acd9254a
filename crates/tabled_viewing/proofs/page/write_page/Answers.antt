-- There are rows, or none.
use Rattle.std.proofs.Common.{◌≡◌, ◌<◌, ◌≤◌, [], length, map, string_bytes, refl, sym, ap, subst, inl, inr, ⊎_elim, ◌∙◌, arith}
use Rattle.std.proofs.KnownBytes.{Appends-nil}
use Rattle.std.proofs.lemmas.Bool.Decides.{nat_tests}
use Rattle.std.proofs.lemmas.List.{length-map}
use Rattle.tabled_printing.specs.Pieces.{lent}
use Rattle.tabled_text.specs.TextTable.{lent_texts}
use Rattle.tabled_width.specs.Texts.{Table}
use Rattle.tabled_viewing.specs.Refusal.{fault_of_sides}
use Rattle.tabled_viewing.specs.Rows.{rows_shown, with_numbers}
use Rattle.tabled_viewing.specs.View.{IsPage}
use Rattle.tabled_viewing.proofs.Faults.{none_without, some_with}
use Rattle.tabled_viewing.proofs.Pages.{view_none, view_some}
use Rattle.tabled_viewing.proofs.Results.{if_ok, on_any}
use Rattle.tabled_viewing.proofs.Views.{as_passed, not_passed}
use Rattle.tabled_viewing.proofs.page.write_page.Goals as goal

pub returns-then-is_empty-clause-written : goal.returns-then-is_empty-clause-written
returns-then-is_empty-clause-written g c =
    let none : length c.args.rows.items ≤ 0 = grind (arith, nat_tests) in (
      [],
      view_none c.args.request c.args.style (map string_bytes c.args.words.now) c.args.around (lent_texts c.args.rows.items) [] _ (omega (arith, none, length-map c.args.rows.items (λ row. lent row.items))) refl c.none.ensures,
      Appends-nil (g.W.Write.contents c.args.output.now),
    )

pub returns-then-is_empty-clause-good : goal.returns-then-is_empty-clause-good
returns-then-is_empty-clause-good g c =
    let none : length c.args.rows.items ≤ 0 = grind (arith, nat_tests) in
    none_without c.args.request (map string_bytes c.args.words.now) (lent_texts c.args.rows.items) (omega (arith, none, length-map c.args.rows.items (λ row. lent row.items)))

pub returns-in_err-rows-clause-refused : goal.returns-in_err-rows-clause-refused
returns-in_err-rows-clause-refused g c =
    let some : 0 < length c.args.rows.items = grind (arith, nat_tests) in
    let same = some_with c.args.request (map string_bytes c.args.words.now) (lent_texts c.args.rows.items) (omega (arith, some, length-map c.args.rows.items (λ row. lent row.items))) in
    as_passed _ c.in_err-rows.field-0.0 c.from_residual.result c.from_residual.ensures.1
    (⊎_elim (λ refused. inl refused) (λ fault. inr (inr (same ∙ fault))) c.in_err-rows.ensures.refused)

pub returns-in_err-rows-clause-write_failed : goal.returns-in_err-rows-clause-write_failed
returns-in_err-rows-clause-write_failed g c = λ failed. absurd (not_passed c.in_err-rows.field-0.0 c.from_residual.result c.from_residual.ensures.1 c.in_err-rows.ensures.kinds failed)

pub returns-in_err-rows-2-clause-refused : goal.returns-in_err-rows-2-clause-refused
unfolding rows_shown
returns-in_err-rows-2-clause-refused g c =
    let request = c.args.request in
    let words = map string_bytes c.args.words.now in
    let some : 0 < length c.args.rows.items = grind (arith, nat_tests) in
    let same = some_with request words (lent_texts c.args.rows.items) (omega (arith, some, length-map c.args.rows.items (λ row. lent row.items))) in
    let shown = ap (with_numbers request) c.in_ok-rows.ensures.rows in
    as_passed _ c.in_err-rows-2.field-0.0 c.from_residual-in_err-rows-2.result c.from_residual-in_err-rows-2.ensures.1
    (⊎_elim (λ refused. inl refused) (λ fault. inr (inr (same ∙ c.in_ok-rows.ensures.good ∙ ap (fault_of_sides request words) (sym shown) ∙ fault))) c.in_err-rows-2.ensures.refused)

pub returns-in_err-rows-2-clause-write_failed : goal.returns-in_err-rows-2-clause-write_failed
returns-in_err-rows-2-clause-write_failed g c = λ failed. absurd (not_passed c.in_err-rows-2.field-0.0 c.from_residual-in_err-rows-2.result c.from_residual-in_err-rows-2.ensures.1 c.in_err-rows-2.ensures.kinds failed)

pub returns-clause-good : goal.returns-clause-good
unfolding rows_shown
returns-clause-good g c =
    let request = c.args.request in
    let words = map string_bytes c.args.words.now in
    let some : 0 < length c.args.rows.items = grind (arith, nat_tests) in
    let same = some_with request words (lent_texts c.args.rows.items) (omega (arith, some, length-map c.args.rows.items (λ row. lent row.items))) in
    let shown = ap (with_numbers request) c.in_ok-rows.ensures.rows in
    on_any c.write_page_of_rows.result (same ∙ c.in_ok-rows.ensures.good ∙ ap (fault_of_sides request words) (sym shown) ∙ c.in_ok-rows-2.ensures.good)

pub returns-clause-write_failed : goal.returns-clause-write_failed
unfolding rows_shown
returns-clause-write_failed g c = λ failed.
    let request = c.args.request in
    let words = map string_bytes c.args.words.now in
    let some : 0 < length c.args.rows.items = grind (arith, nat_tests) in
    let same = some_with request words (lent_texts c.args.rows.items) (omega (arith, some, length-map c.args.rows.items (λ row. lent row.items))) in
    let shown = ap (with_numbers request) c.in_ok-rows.ensures.rows in
    same ∙ c.in_ok-rows.ensures.good ∙ ap (fault_of_sides request words) (sym shown) ∙ c.in_ok-rows-2.ensures.good

pub returns-clause-written : goal.returns-clause-written
unfolding rows_shown
returns-clause-written g c =
    let request = c.args.request in
    let words = map string_bytes c.args.words.now in
    let given : Table = lent_texts c.args.rows.items in
    let some : 0 < length c.args.rows.items = grind (arith, nat_tests) in
    let shown : lent_texts c.in_ok-rows-2.rows.items ≡ rows_shown request words given = c.in_ok-rows-2.ensures.rows ∙ ap (with_numbers request) c.in_ok-rows.ensures.rows in
    if_ok c.write_page_of_rows.result (λ notes page. (
      page.0,
      view_some request c.args.style words c.args.around given page.0 notes (omega (arith, some, length-map c.args.rows.items (λ row. lent row.items)))
          (subst (λ (table : Table). IsPage request c.args.style words c.args.around table page.0 notes) shown page.1),
      page.2,
    )) c.write_page_of_rows.ensures.written
