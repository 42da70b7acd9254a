-- What is written for an input is its table, and nothing where the input is empty; its first fault is that of its bytes or its counts.
use Rattle.std.proofs.Common.{◌≡◌, ◌<◌, ◌≤◌, ◌++◌, ◌∷◌, [], ℕ, List, length, inl, inr, Some, sym, ap, subst, ◌∙◌, arith}
use Rattle.std.specs.Io.KnownBytes.{Appends}
use Rattle.std.proofs.KnownBytes.{Appends-nil}
use Rattle.std.proofs.lemmas.Bool.Decides.{nat_tests}
use Rattle.std.proofs.lemmas.Result.{on_ok_weaker}
use Rattle.tabled_width.specs.Texts.{Table}
use Rattle.tabled_text.specs.TextTable.{text_of}
use Rattle.tabled_pages.specs.Input.{fault_of, have_equal_counts, rows_of}
use Rattle.tabled_pages.specs.Style.{styled}
use Rattle.tabled_pages.specs.declared.bytes.TheConstants.{LINE_FEED}
use Rattle.tabled_pages.proofs.FirstFault.{fault_of-byte, fault_of-rows, fault_of-none, passed_on}
use Rattle.tabled_pages.proofs.Pages.{page-some, page-none, equal-none}
use Rattle.tabled_pages.proofs.page.write_page.Goals as goal

pub returns-in_err-input-clause-faults : goal.returns-in_err-input-clause-faults
returns-in_err-input-clause-faults g c =
    passed_on (fault_of c.args.input.now) c.in_err-input.field-0.0 c.from_residual.result c.from_residual.ensures.1
    (inr (fault_of-byte c.args.input.now c.requires c.in_err-input.ensures.refused ∙ ap (λ e. Some e) (sym c.in_err-input.ensures.refusal)))

pub returns-then-is_empty-clause-written : goal.returns-then-is_empty-clause-written
returns-then-is_empty-clause-written g c =
    let same : length c.in_ok-input.input.now ≡ length c.args.input.now = ap length c.in_ok-input.ensures.text in
    let none : length c.in_ok-input.input.now ≤ 0 = grind (arith, nat_tests) in
    subst (λ (text : List ℕ). Appends (g.W.Write.contents c.args.output.now) (g.W.Write.contents c.args.output.now) text) (page-none c.args.style c.args.input.now (omega (arith, none, same)))
    (Appends-nil (g.W.Write.contents c.args.output.now))

pub returns-then-is_empty-clause-good : goal.returns-then-is_empty-clause-good
returns-then-is_empty-clause-good g c =
    let same : length c.in_ok-input.input.now ≡ length c.args.input.now = ap length c.in_ok-input.ensures.text in
    let none : length c.in_ok-input.input.now ≤ 0 = grind (arith, nat_tests) in
    fault_of-none c.args.input.now c.requires c.in_ok-input.ensures.allowed (equal-none c.args.input.now (omega (arith, none, same)))

pub returns-in_err-table-clause-faults : goal.returns-in_err-table-clause-faults
returns-in_err-table-clause-faults g c =
    let counts = ap have_equal_counts (c.in_ok-rows.ensures ∙ ap rows_of c.in_ok-input.ensures.text) in
    passed_on (fault_of c.args.input.now) c.in_err-table.field-0.0 c.from_residual-in_err-table.result c.from_residual-in_err-table.ensures.1
    (elim c.in_err-table.ensures.refused [
      | inl refused ↦ inl refused
      | inr unequal ↦ inr (fault_of-rows c.args.input.now c.requires c.in_ok-input.ensures.allowed (sym counts ∙ unequal.1) ∙ ap (λ e. Some e) (sym unequal.0))
    ])

pub returns-clause-written : goal.returns-clause-written
returns-clause-written g c =
    let same : length c.in_ok-input.input.now ≡ length c.args.input.now = ap length c.in_ok-input.ensures.text in
    let some : 0 < length c.in_ok-input.input.now = grind (arith, nat_tests) in
    on_ok_weaker c.write_table.result
    (subst (λ (text : List ℕ). Appends (g.W.Write.contents c.args.output.now) (g.W.Write.contents c.write_table.new.output) text)
    (ap (λ (rows : Table). text_of (styled c.args.style) rows ++ LINE_FEED ∷ []) (c.in_ok-table.ensures.texts ∙ c.in_ok-rows.ensures ∙ ap rows_of c.in_ok-input.ensures.text)
    ∙ page-some c.args.style c.args.input.now (omega (arith, some, same))))
    (c.write_table.ensures.written _ c.in_ok-table.ensures.config)

pub returns-clause-write_failed : goal.returns-clause-write_failed
returns-clause-write_failed g c = λ _.
    fault_of-none c.args.input.now c.requires c.in_ok-input.ensures.allowed
    (sym (ap have_equal_counts (c.in_ok-rows.ensures ∙ ap rows_of c.in_ok-input.ensures.text)) ∙ c.in_ok-table.ensures.equal)

pub returns-clause-good : goal.returns-clause-good
returns-clause-good g c =
    on_ok_weaker c.write_table.result
    (λ _. fault_of-none c.args.input.now c.requires c.in_ok-input.ensures.allowed
    (sym (ap have_equal_counts (c.in_ok-rows.ensures ∙ ap rows_of c.in_ok-input.ensures.text)) ∙ c.in_ok-table.ensures.equal))
    (c.write_table.ensures.written _ c.in_ok-table.ensures.config)
