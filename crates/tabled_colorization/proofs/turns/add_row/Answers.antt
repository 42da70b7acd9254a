use Rattle.std.proofs.Common.{◌≡◌, ◌+◌, ◌++◌, map, ap, ◌∙◌, arith}
use Rattle.tabled_object.specs.declared.entity.Entity.TheVariants.{Cell}
use Rattle.tabled_object.specs.Entities.{below}
use Rattle.tabled_colorization.specs.Turns.{in_turn}
use Rattle.tabled_colorization.proofs.TurnLemmas.{one_more}
use Rattle.tabled_colorization.proofs.turns.add_row.Goals as goal

pub loop-col-preserved : goal.loop-col-preserved
loop-col-preserved c = one_more c.args.colors.now (λ col. (Cell c.args.row col, c.args.first + col)) c.args.list.now.items c.loop-col.list.items c.add.new.list.items c.loop-col.col c.loop-col.invariant c.in_ok-add.ensures

pub returns : goal.returns
returns c = c.loop-col.invariant ∙ ap (λ n. c.args.list.now.items ++ in_turn c.args.colors.now (map (λ col. (Cell c.args.row col, c.args.first + col)) (below n))) (let all : c.loop-col.col ≡ c.args.cols = omega arith in all)
