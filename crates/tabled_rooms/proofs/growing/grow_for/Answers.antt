use Rattle.std.proofs.Common.{ℕ, Bool, false, slice_index_or, sym, ◌∙◌}
use Rattle.tabled_rooms.proofs.GrowLemmas.{did_grow, not_grown, on_ok}
use Rattle.tabled_rooms.proofs.growing.grow_for.Goals as goal

pub returns-then-not-is_over : goal.returns-then-not-is_over
returns-then-not-is_over c = not_grown _ c.args.sizes.now c.args.ask (sym c.is_over.ensures ∙ c.if-not-is_over.true)

pub returns : goal.returns
returns c =
    let drawn : ℕ → Bool = λ n. slice_index_or c.args.drawn.now n false in
    on_ok c.spread.result _ _
    (did_grow drawn c.args.sizes.now c.spread.new.sizes c.args.ask c.in_ok-room_over.field-0 c.saturating_sub-missing.result (sym c.is_over.ensures ∙ c.if-not-is_over.false) c.in_ok-room_over.ensures c.saturating_sub-missing.ensures)
    c.spread.ensures
