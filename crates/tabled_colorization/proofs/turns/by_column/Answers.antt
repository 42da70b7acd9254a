use Rattle.std.proofs.Common.{◌≡◌, ◌+◌, ◌*◌, map, ap, ◌∙◌, arith, flat_map}
use Rattle.tabled_object.specs.declared.entity.Entity.TheVariants.{Cell}
use Rattle.tabled_object.specs.Entities.{below}
use Rattle.tabled_colorization.specs.Turns.{in_turn, numbered}
use Rattle.tabled_colorization.proofs.TurnLemmas.{line_more, number_fits}
use Rattle.tabled_colorization.proofs.turns.by_column.Goals as goal

pub add_column-requires : goal.add_column-requires
add_column-requires c = number_fits c.loop-col.col c.args.cols c.args.rows c.loop-col-test.true (omega arith) (omega arith)

pub loop-col-preserved : goal.loop-col-preserved
loop-col-preserved c = line_more c.args.colors.now (λ col. map (λ row. (Cell row col, col * c.args.rows + row)) (below c.args.rows)) c.loop-col.list.items c.add_column.new.list.items c.loop-col.col c.loop-col.invariant c.in_ok-add_column.ensures

pub returns : goal.returns
unfolding numbered
returns c = c.loop-col.invariant ∙ ap (λ n. in_turn c.args.colors.now (flat_map (λ col. map (λ row. (Cell row col, col * c.args.rows + row)) (below c.args.rows)) (below n))) (let all : c.loop-col.col ≡ c.args.cols = omega arith in all)
