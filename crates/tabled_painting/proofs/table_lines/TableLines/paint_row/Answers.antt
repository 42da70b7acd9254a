-- The line of a row that has one, or its cells.
use Rattle.std.proofs.Common.{◌≡◌, ◌≢◌, ◌<◌, ◌≤◌, ℕ, zero, suc, List, None, map, refl, sym, subst, ◌∙◌, arith}
use Rattle.std.specs.Prelude.{slice_index}
use Rattle.std.proofs.lemmas.List.{length-map}
use Rattle.tabled_painting.specs.Pages.{PaintsLines, most}
use Rattle.tabled_painting.specs.Painted.{Painted}
use Rattle.tabled_painting.proofs.PageLemmas.{line_painted}
use Rattle.tabled_painting.proofs.RowLemmas.{cells_row, one_line}
use Rattle.tabled_painting.proofs.table_lines.TableLines.paint_row.Goals as goal

-- where the row is not one line high there are rooms
all_rooms : (count cols high : ℕ) → (0 < count → count ≡ cols) → (count ≡ 0 → high ≡ 1) → high ≢ 1 → count ≡ cols
all_rooms zero cols high each low more = absurd (more (low refl))
all_rooms (suc n) cols high each low more = each (omega arith)

pub returns-then-height-eq1-clause-painted : goal.returns-then-height-eq1-clause-painted
returns-then-height-eq1-clause-painted g c =
    let lines = c.args.self.now in
    one_line g.O.Output.gains lines c.args.row (map g.T.AsStr.text c.args.texts.now) c.args.page.now c.end_line.new.self (sym c.get_height-height.ensures ∙ c.if-height-eq1.true)
    (line_painted g.O.Output.gains g.met.O.Output.gains_both c.args.page.now c.begin_line.new.self _ c.end_line.new.self _ c.in_ok-begin_line.ensures.begun c.begin_line.ensures.number c.begin_line.ensures.same
    c.in_ok-paint_low.ensures refl (record { left = refl; right = refl; high = refl }) c.in_ok-end_line.ensures)

pub returns-clause-painted : goal.returns-clause-painted
returns-clause-painted g c =
    let lines = c.args.self.now in
    let few : slice_index lines.frame.dims.now.heights.items c.args.row ≤ most = (let high = c.get_height-height.ensures in omega (arith, high)) in
    subst (λ (painted : List Painted). PaintsLines g.O.Output.gains painted c.args.page.now c.paint_rooms.new.page)
    (cells_row lines c.args.row (map g.T.AsStr.text c.args.texts.now) c.begin_cells.new.rooms None (length-map c.args.texts.now g.T.AsStr.text ∙ c.requires.texts) c.begin_cells.ensures.cells few)
    (c.in_ok-paint_rooms.ensures.painted None)
