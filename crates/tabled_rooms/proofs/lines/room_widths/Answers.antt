-- One column more.
use Rattle.std.proofs.Common.{◌≡◌, ℕ, ◌+◌, ◌<◌, ◌&&◌, nat_lt, Bool, false, length, min, slice_index, slice_index_or, sym, ap, ◌∙◌, arith}
use Rattle.std.proofs.lemmas.List.{get_or_default}
use Rattle.tabled_rooms.specs.declared.host.Host.{Host}
use Rattle.tabled_rooms.specs.Hosts.{Cell}
use Rattle.tabled_rooms.specs.Rooms.{room_width, one_if}
use Rattle.tabled_rooms.specs.Holding.{cell_of}
use Rattle.tabled_rooms.proofs.RoomLemmas.{width_none, width_raised}
use Rattle.tabled_rooms.proofs.lines.room_widths.Goals as goal

pub loop-col-init : goal.loop-col-init
loop-col-init c = λ first none within.
    let empty : min 0 18446744073709551615 ≡ 0 = omega arith in
    c.loop-wide.invariant first (omega arith) ∙ sym (ap (λ n. min n 18446744073709551615) (width_none _ _ _ first) ∙ empty)

pub loop-col-preserved : goal.loop-col-preserved
loop-col-preserved c = λ first none within.
    let widths = slice_index c.args.widths.now in
    let drawn : ℕ → Bool = λ k. slice_index_or c.args.drawn.now k false in
    let hosts : ℕ → Cell = λ k. cell_of (slice_index_or c.args.hosts.now k none) in
    let n = c.loop-col.col in
    let kept : Host = record { row = 0; col = 0; bottom = 0; right = 0 } in
    let at = (slice_index_or c.args.hosts.now n kept).col in
    let same : at ≡ (hosts n).1 = ap (λ (h : Host). h.col) (get_or_default c.args.hosts.now n kept none (omega arith)) in
    let inside : first < length c.loop-col.wides = omega (arith, c.raise_at.ensures.count, within) in
    let part : c.saturating_add-part.result ≡ min (widths n + one_if (nat_lt at n && drawn n)) 18446744073709551615 =
    c.saturating_add-part.ensures ∙ ap (λ k. min (widths n + k) 18446744073709551615) c.one_behind.ensures in
    width_raised widths drawn hosts n first at _ _ _ same (c.loop-col.invariant first none inside) part (c.raise_at.ensures.raised first inside)

pub returns-clause-wide : goal.returns-clause-wide
returns-clause-wide c = λ first none within.
    let widths = slice_index c.args.widths.now in
    let drawn : ℕ → Bool = λ k. slice_index_or c.args.drawn.now k false in
    let hosts : ℕ → Cell = λ k. cell_of (slice_index_or c.args.hosts.now k none) in
    let all : c.loop-col.col ≡ length c.args.hosts.now = omega arith in
    c.loop-col.invariant first none (omega arith) ∙ ap (λ n. min (room_width widths drawn hosts n first) 18446744073709551615) all
