-- A piece more, and the last side.
use Rattle.std.proofs.Common.{◌≡◌, ℕ, ◌<◌, ◌++◌, length, slice_index_or, subst, ap, ◌∙◌, arith}
use Rattle.std.proofs.lemmas.List.{get_or_default}
use Rattle.std.specs.List.{flat_map}
use Rattle.tabled_object.specs.Entities.{below}
use Rattle.tabled_painting.specs.InColor.{Paints}
use Rattle.tabled_painting.specs.Painted.{Painted}
use Rattle.tabled_painting.specs.PaintedTable.{painted_side}
use Rattle.tabled_painting.specs.RoomLines.{begins, begun_piece}
use Rattle.tabled_painting.specs.Viewed.{viewed}
use Rattle.tabled_painting.proofs.FrameLemmas.{side_is}
use Rattle.tabled_painting.proofs.PainterLemmas.{parts_more, paints_both}
use Rattle.tabled_painting.proofs.RowLemmas.{piece_same}
use Rattle.tabled_painting.proofs.SpannedLemmas.{same_put, same_then, shown_in}
use Rattle.tabled_painting.proofs.table_lines.TableLines.paint_between.Goals as goal

pub loop-col-preserved : goal.loop-col-preserved
loop-col-preserved g c =
    let view = viewed c.args.self.now.frame in
    let n = c.loop-col.col in
    let in_rooms : n < length c.loop-col.rooms = omega (arith, c.requires.rooms, c.loop-col-test.true, c.loop-col.invariant.same.count) in
    let room = slice_index_or c.loop-col.rooms n c.index-rooms-col.result in
    let read = get_or_default c.loop-col.rooms n c.index-rooms-col.result room in_rooms in
    record {
      same = same_then c.args.rooms.now c.loop-col.rooms _ c.loop-col.invariant.same (same_put c.loop-col.rooms n room c.paint_begun.new.room in_rooms read c.in_ok-paint_begun.ensures.same);
      painted = λ none.
          parts_more g.O.Output.gains g.met.O.Output.gains_both (λ k. begun_piece view c.args.place.0 c.args.place.1 c.args.line k (begins c.args.hosts.now k) (slice_index_or c.args.rooms.now k none)) n
          c.args.painter.now c.loop-col.painter c.paint_begun.new.painter (c.loop-col.invariant.painted none)
          (subst (λ piece. Paints g.O.Output.gains piece c.loop-col.painter c.paint_begun.new.painter)
          (ap (λ begun. begun_piece view c.args.place.0 c.args.place.1 c.args.line n begun room) c.begins_in-begins.ensures
          ∙ piece_same view c.args.place.0 c.args.place.1 c.args.line n (begins c.args.hosts.now n) room (slice_index_or c.args.rooms.now n none)
          (shown_in c.args.rooms.now c.loop-col.rooms n c.args.line room none in_rooms read c.loop-col.invariant.same))
          c.in_ok-paint_begun.ensures.painted);
    }

pub returns-clause-painted : goal.returns-clause-painted
returns-clause-painted g c = λ none.
    let view = viewed c.args.self.now.frame in
    let r = c.args.place.0 in
    let k = c.args.place.1 in
    let part : ℕ → Painted = λ n. begun_piece view r k c.args.line n (begins c.args.hosts.now n) (slice_index_or c.args.rooms.now n none) in
    let all : c.loop-col.col ≡ view.shape.1 = omega (arith, c.loop-col-test.false, c.loop-col.auto.col-end) in
    subst (λ n. Paints g.O.Output.gains (flat_map part (below n) ++ painted_side view r k view.shape.1) c.args.painter.now c.push_side.new.self) all
    (paints_both g.O.Output.gains g.met.O.Output.gains_both (flat_map part (below c.loop-col.col)) (painted_side view r k view.shape.1) c.args.painter.now c.loop-col.painter c.push_side.new.self
    (c.loop-col.invariant.painted none)
    (subst (λ line. Paints g.O.Output.gains line c.loop-col.painter c.push_side.new.self) (side_is view r k view.shape.1 _ c.side.ensures) c.in_ok-push_side.ensures))
