use Rattle.std.proofs.Common.{◌≡◌, length, take, ap, ◌∙◌, arith}
use Rattle.std.proofs.Math.Seq.{take-length}
use Rattle.tabled_colorization.specs.Turns.{listing_in_turn}
use Rattle.tabled_colorization.proofs.TurnLemmas.{listed_more}
use Rattle.tabled_colorization.proofs.turns.listed.Goals as goal

pub loop-number-preserved : goal.loop-number-preserved
loop-number-preserved c = listed_more c.args.colors.now c.args.entities.now c.loop-number.number _ c.loop-number.list.items c.add.new.list.items c.loop-number-test.true c.loop-number.invariant c.in_ok-add.ensures

pub returns : goal.returns
returns c =
    c.loop-number.invariant ∙ ap (λ n. listing_in_turn c.args.colors.now (take n c.args.entities.now)) (let all : c.loop-number.number ≡ length c.args.entities.now = omega arith in all)
    ∙ ap (listing_in_turn c.args.colors.now) (take-length c.args.entities.now)
