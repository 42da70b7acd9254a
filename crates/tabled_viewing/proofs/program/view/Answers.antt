-- The style's name is tested first, then the input is read, and its page is written last.
use Rattle.std.proofs.Common.{◌≡◌, ◌⊎◌, None, Some, map, string_bytes, subst}
use Rattle.tabled_grid.proofs.Seen.{on_ok}
use Rattle.tabled_width.specs.Texts.{Table}
use Rattle.tabled_viewing.specs.Refusal.{fault_of_rows}
use Rattle.tabled_viewing.specs.View.{IsViewOfRows}
use Rattle.tabled_viewing.specs.declared.error.ViewError.TheVariants.{OutOfMemory, WriteFailed}
use Rattle.tabled_viewing.proofs.Faults.{not_written}
use Rattle.tabled_viewing.proofs.Results.{if_err, if_ok}
use Rattle.tabled_viewing.proofs.Views.{as_passed, good_read, good_whole, kept_unwritten, not_passed, refused_bytes, refused_later, refused_style, refused_written, view_read, view_written}
use Rattle.tabled_viewing.proofs.program.view.Goals as goal

pub returns-in_err-style-clause-refused : goal.returns-in_err-style-clause-refused
returns-in_err-style-clause-refused g c =
    as_passed _ _ c.from_residual.result c.from_residual.ensures.1
    (refused_style c.args.request (map string_bytes c.args.words.now) (g.R.Read.remaining c.args.input.now) c.args.around _ c.in_err-style.ensures.refused.0 c.in_err-style.ensures.refused.1)

pub returns-in_err-read-clause-refused : goal.returns-in_err-read-clause-refused
returns-in_err-read-clause-refused g c =
    as_passed _ _ c.from_residual-in_err-read.result c.from_residual-in_err-read.ensures.1
    (refused_later c.args.request c.in_ok-style.style (map string_bytes c.args.words.now) c.args.around (g.R.Read.remaining c.args.input.now) _ c.in_ok-style.ensures.style
    (refused_bytes c.args.request (map string_bytes c.args.words.now) (g.R.Read.remaining c.args.input.now) c.cells_asked.result c.in_err-read.field-0.0 c.cells_asked.ensures c.in_err-read.ensures.refused))

pub returns-in_err-read-clause-write_failed : goal.returns-in_err-read-clause-write_failed
returns-in_err-read-clause-write_failed g c = λ failed. absurd (not_passed _ c.from_residual-in_err-read.result c.from_residual-in_err-read.ensures.1 (not_written c.in_err-read.field-0.0) failed)

pub returns-clause-written : goal.returns-clause-written
returns-clause-written g c =
    let known = g.R.Read.remaining c.args.input.now in
    if_ok c.write_page.result
    (λ notes page. view_written c.args.request c.in_ok-style.style (map string_bytes c.args.words.now) c.args.around known page.0 notes (g.W.Write.contents c.args.output.now) (g.W.Write.contents c.write_page.new.output) c.in_ok-style.ensures.style
    (view_read c.args.request c.in_ok-style.style (map string_bytes c.args.words.now) c.args.around known c.cells_asked.result c.in_ok-read.read page.0 notes c.cells_asked.ensures c.in_ok-read.ensures.rows (subst (λ (table : Table). IsViewOfRows c.args.request c.in_ok-style.style (map string_bytes c.args.words.now) c.args.around table page.0 notes) c.in_ok-rows.ensures page.1)) page.2)
    c.write_page.ensures.written

pub returns-clause-good : goal.returns-clause-good
returns-clause-good g c =
    let known = g.R.Read.remaining c.args.input.now in
    on_ok c.write_page.result
    (λ equal. good_whole c.args.request c.in_ok-style.style (map string_bytes c.args.words.now) c.args.around known c.in_ok-style.ensures.style
    (good_read c.args.request (map string_bytes c.args.words.now) known c.cells_asked.result c.in_ok-read.read c.cells_asked.ensures c.in_ok-read.ensures.rows c.in_ok-read.ensures.good (subst (λ (table : Table). fault_of_rows c.args.request (map string_bytes c.args.words.now) table ≡ None) c.in_ok-rows.ensures equal)))
    c.write_page.ensures.good

pub returns-clause-refused : goal.returns-clause-refused
returns-clause-refused g c =
    if_err c.write_page.result
    (λ e fault. refused_written c.args.request (map string_bytes c.args.words.now) c.in_ok-style.style c.args.around (g.R.Read.remaining c.args.input.now) c.cells_asked.result c.in_ok-read.read e
    c.in_ok-style.ensures.style c.cells_asked.ensures c.in_ok-read.ensures.rows c.in_ok-read.ensures.good
    (subst (λ (table : Table). (e ≡ OutOfMemory) ⊎ ((e ≡ WriteFailed) ⊎ (fault_of_rows c.args.request (map string_bytes c.args.words.now) table ≡ Some e))) c.in_ok-rows.ensures fault))
    c.write_page.ensures.refused

pub returns-clause-write_failed : goal.returns-clause-write_failed
returns-clause-write_failed g c = λ failed.
    let known = g.R.Read.remaining c.args.input.now in
    good_whole c.args.request c.in_ok-style.style (map string_bytes c.args.words.now) c.args.around known c.in_ok-style.ensures.style
    (good_read c.args.request (map string_bytes c.args.words.now) known c.cells_asked.result c.in_ok-read.read c.cells_asked.ensures c.in_ok-read.ensures.rows c.in_ok-read.ensures.good (subst (λ (table : Table). fault_of_rows c.args.request (map string_bytes c.args.words.now) table ≡ None) c.in_ok-rows.ensures (c.write_page.ensures.write_failed failed)))

pub returns-clause-unwritten : goal.returns-clause-unwritten
returns-clause-unwritten g c = kept_unwritten c.write_page.result g.W.Write.contents c.args.output.now c.write_page.new.output c.write_page.ensures.unwritten
