-- A column more.
use Rattle.std.proofs.Common.{◌≡◌, ◌+◌, ℕ, Bool, true, false, slice_index, slice_index_or, refl, ap, sym, ◌∙◌, arith}
use Rattle.std.specs.Int.{from_bool}
use Rattle.tabled_rooms.specs.Rooms.{one_if}
use Rattle.tabled_rooms.proofs.RoomLemmas.{sum_below}
use Rattle.tabled_painting.proofs.spans.check_width.Goals as goal

counted : (drawn : Bool) → from_bool drawn ≡ one_if drawn
counted true = refl
counted false = refl

pub loop-col-preserved : goal.loop-col-preserved
loop-col-preserved c =
    let part : ℕ → ℕ = λ k. one_if (slice_index_or c.args.sides.now k false) + slice_index c.args.widths.now k in
    record {
      sum = c.in_ok-total.ensures ∙ (λ i. c.loop-col.invariant.sum i + (c.in_ok-wide.ensures ∙ ap (λ n. n + slice_index c.args.widths.now c.loop-col.col) (c.from-line.ensures ∙ counted (slice_index_or c.args.sides.now c.loop-col.col false))) i) ∙ sym (sum_below part c.loop-col.col);
      within = omega arith;
    }
