use Rattle.std.proofs.Common.{◌≡◌, ◌+◌, map, ap, ◌∙◌, arith, flat_map}
use Rattle.tabled_object.specs.declared.entity.Entity.TheVariants.{Cell}
use Rattle.tabled_object.specs.Entities.{below}
use Rattle.tabled_colorization.specs.Turns.{in_turn, numbered}
use Rattle.tabled_colorization.proofs.TurnLemmas.{line_more}
use Rattle.tabled_colorization.proofs.turns.chess.Goals as goal

pub loop-row-preserved : goal.loop-row-preserved
loop-row-preserved c = line_more c.args.colors.now (λ row. map (λ col. (Cell row col, row + col)) (below c.args.cols)) c.loop-row.list.items c.add_row.new.list.items c.loop-row.row c.loop-row.invariant c.in_ok-add_row.ensures

pub returns : goal.returns
unfolding numbered
returns c = c.loop-row.invariant ∙ ap (λ n. in_turn c.args.colors.now (flat_map (λ row. map (λ col. (Cell row col, row + col)) (below c.args.cols)) (below n))) (let all : c.loop-row.row ≡ c.args.rows = omega arith in all)
