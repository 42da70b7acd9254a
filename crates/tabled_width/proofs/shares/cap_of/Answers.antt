-- The cap is the greatest with which the columns fit.
use Rattle.std.proofs.Common.{sym, ◌∙◌, arith}
use Rattle.tabled_width.specs.Shares.{used}
use Rattle.tabled_width.proofs.Sharing.{some_fits, cap_above, cap_below}
use Rattle.tabled_width.proofs.shares.cap_of.Goals as goal

pub returns-then-is_some : goal.returns-then-is_some
returns-then-is_some c =
    cap_above c.args.least c.args.room 18446744073709551615 c.args.asked.now (omega arith)
    (some_fits (used 18446744073709551615 c.args.asked.now) c.args.room c.left_over.result c.left_over.ensures (sym c.is_some.ensures ∙ c.if-is_some.true))
    (λ i within. let fit = c.type_inv.asked i in omega (arith, fit))

pub returns : goal.returns
returns c =
    let here = c.loop-too_great.invariant in
    let next = c.loop-too_great-test.false in
    cap_below c.args.least c.args.room c.loop-too_great.cap c.loop-too_great.too_great c.args.asked.now here.some here.fits (omega (arith, next)) here.over
