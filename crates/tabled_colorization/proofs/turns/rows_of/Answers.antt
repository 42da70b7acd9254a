use Rattle.std.proofs.Common.{◌≡◌, [], map, ap, ◌∙◌, arith}
use Rattle.tabled_object.specs.declared.entity.Entity.TheVariants.{Row}
use Rattle.tabled_object.specs.Entities.{below}
use Rattle.tabled_colorization.specs.Turns.{in_turn}
use Rattle.tabled_colorization.proofs.TurnLemmas.{one_more}
use Rattle.tabled_colorization.proofs.turns.rows_of.Goals as goal

pub loop-row-preserved : goal.loop-row-preserved
loop-row-preserved c = one_more c.args.colors.now (λ row. (Row row, row)) [] c.loop-row.list.items c.add.new.list.items c.loop-row.row c.loop-row.invariant c.in_ok-add.ensures

pub returns : goal.returns
returns c = c.loop-row.invariant ∙ ap (λ n. in_turn c.args.colors.now (map (λ row. (Row row, row)) (below n))) (let all : c.loop-row.row ≡ c.args.rows = omega arith in all)
