-- What all cells ask for.
use Rattle.std.proofs.Common.{◌≡◌, ℕ, ◌<◌, Bool, false, length, slice_index, slice_index_or, List, subst, refl, sym, ◌∙◌, arith}
use Rattle.std.specs.List.{flat_map}
use Rattle.std.proofs.lemmas.List.FromFn.{fill_by_all}
use Rattle.tabled_rooms.specs.declared.host.Host.{Host}
use Rattle.tabled_rooms.specs.Holding.{AreAbove}
use Rattle.tabled_rooms.specs.Growing.{grown}
use Rattle.tabled_rooms.proofs.HostLemmas.{none_above}
use Rattle.tabled_rooms.specs.Sizes.{below, own_width, own_height, over_columns, over_rows, spanned_widths, spanned_heights}
use Rattle.tabled_rooms.proofs.sizes.find_sizes.Goals as goal

pub returns-clause-widths : goal.returns-clause-widths
unfolding spanned_widths
returns-clause-widths g c =
    let columns = g.S.CellSpans.columns_at c.args.spans.now in
    let rows = g.S.CellSpans.rows_at c.args.spans.now in
    let asked = g.M.CellSizes.width_at c.args.cells.now in
    let drawn : ℕ → Bool = λ n. slice_index_or c.args.sides.now n false in
    let each : (k : ℕ) → k < c.args.shape.1 → slice_index c.ask_rows.new.widths k ≡ own_width columns rows c.args.shape asked k = c.in_ok-ask_rows.ensures.widths in
    let noted : c.ask_rows.new.over_columns.items ≡ flat_map (over_columns columns rows c.args.shape asked) (below c.args.shape.0) = c.in_ok-ask_rows.ensures.columns in
    let made : c.grow.new.sizes ≡ grown drawn c.ask_rows.new.widths c.deref.result.now = c.in_ok-grow.ensures in
    let count : length c.ask_rows.new.widths ≡ c.args.shape.1 = omega arith in
    made ∙ (λ i. grown drawn (fill_by_all (own_width columns rows c.args.shape asked) c.ask_rows.new.widths c.args.shape.1 0 count each i) ((c.deref.ensures.value ∙ noted) i))

pub returns-clause-heights : goal.returns-clause-heights
unfolding spanned_heights
returns-clause-heights g c =
    let columns = g.S.CellSpans.columns_at c.args.spans.now in
    let rows = g.S.CellSpans.rows_at c.args.spans.now in
    let asked = g.M.CellSizes.height_at c.args.cells.now in
    let drawn : ℕ → Bool = λ n. slice_index_or c.args.lines.now n false in
    let each : (k : ℕ) → k < c.args.shape.0 → slice_index c.ask_rows.new.heights k ≡ own_height columns rows c.args.shape asked k = c.in_ok-ask_rows.ensures.heights in
    let noted : c.ask_rows.new.over_rows.items ≡ flat_map (over_rows columns rows c.args.shape asked) (below c.args.shape.0) = c.in_ok-ask_rows.ensures.rows in
    let made : c.grow-2.new.sizes ≡ grown drawn c.ask_rows.new.heights c.deref-2.result.now = c.in_ok-grow-2.ensures in
    let count : length c.ask_rows.new.heights ≡ c.args.shape.0 = omega arith in
    made ∙ (λ i. grown drawn (fill_by_all (own_height columns rows c.args.shape asked) c.ask_rows.new.heights c.args.shape.0 0 count each i) ((c.deref-2.ensures.value ∙ noted) i))

pub ask_rows-requires-clause-above : goal.ask_rows-requires-clause-above
ask_rows-requires-clause-above g c =
    let columns = g.S.CellSpans.columns_at c.args.spans.now in
    let rows = g.S.CellSpans.rows_at c.args.spans.now in
    let kept : Host = record { row = 0; col = 0; bottom = 0; right = 0 } in
    subst (λ (hosts : List Host). AreAbove columns rows c.args.shape 0 hosts) (sym (c.deref_mut.ensures.value ∙ c.in_ok-hosts.ensures.none)) (none_above columns rows c.args.shape c.args.shape.1 kept refl refl)
