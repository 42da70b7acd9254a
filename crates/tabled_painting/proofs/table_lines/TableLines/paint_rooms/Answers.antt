-- One more line of text.
use Rattle.std.proofs.Common.{◌≡◌, ◌+◌, map, min, refl, subst, ◌∙◌, arith}
use Rattle.tabled_object.specs.Entities.{below}
use Rattle.tabled_painting.specs.Pages.{PaintsLines, most}
use Rattle.tabled_painting.specs.RoomLines.{rooms_between}
use Rattle.tabled_painting.specs.Viewed.{viewed}
use Rattle.tabled_painting.proofs.PageLemmas.{line_painted, line_more}
use Rattle.tabled_painting.proofs.RowLemmas.{between_same}
use Rattle.tabled_painting.proofs.SpannedLemmas.{same_then}
use Rattle.tabled_painting.proofs.table_lines.TableLines.paint_rooms.Goals as goal

pub loop-at-preserved : goal.loop-at-preserved
loop-at-preserved g c =
    let view = viewed c.args.self.now.frame in
    let gains = g.O.Output.gains in
    let both = g.met.O.Output.gains_both in
    let at = c.loop-at.at in
    let hosts = c.args.hosts.now in
    record {
      same = same_then c.args.rooms.now c.loop-at.rooms c.paint_between.new.rooms c.loop-at.invariant.same c.in_ok-paint_between.ensures.same;
      ended = c.in_ok-end_line.ensures.ended;
      painted = λ none.
          line_more gains both (λ k. rooms_between view c.args.row k (min (c.args.first + k) most) hosts c.args.rooms.now none) at _ _ _ _
          (between_same view c.args.row at c.saturating_add-line.result (min (c.args.first + at) most) hosts c.args.rooms.now c.loop-at.rooms none c.saturating_add-line.ensures c.loop-at.invariant.same)
          (c.loop-at.invariant.painted none)
          (line_painted gains both c.loop-at.page c.begin_line.new.self _ c.end_line.new.self _ c.in_ok-begin_line.ensures.begun c.begin_line.ensures.number c.begin_line.ensures.same
          (c.in_ok-paint_between.ensures.painted none) refl (record { left = refl; right = refl; high = refl }) c.in_ok-end_line.ensures);
    }

pub returns-clause-painted : goal.returns-clause-painted
returns-clause-painted g c = λ none.
    let all : c.loop-at.at ≡ c.get_height-height.result = omega (arith, c.loop-at.auto.at-end, c.loop-at-test.false) in
    subst (λ n. PaintsLines g.O.Output.gains (map (λ k. rooms_between (viewed c.args.self.now.frame) c.args.row k (min (c.args.first + k) most) c.args.hosts.now c.args.rooms.now none) (below n)) c.args.page.now c.loop-at.page)
    (all ∙ c.get_height-height.ensures) (c.loop-at.invariant.painted none)
