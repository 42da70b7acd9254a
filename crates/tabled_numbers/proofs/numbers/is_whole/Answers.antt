-- The text up to the first mark is of digits, or not; without a mark it is of digits alone.
use Rattle.std.proofs.Common.{ap, sym, ◌∙◌}
use Rattle.tabled_numbers.specs.Numbers.{are_digits, is_whole}
use Rattle.tabled_numbers.proofs.Cuts.{none_whole, more_whole, last_whole}
use Rattle.tabled_numbers.proofs.numbers.is_whole.Goals as goal

pub returns-then-not-are_digits : goal.returns-then-not-are_digits
returns-then-not-are_digits c =
    none_whole _ c.in-Some.mark (sym c.in-Some.ensures) (ap are_digits (sym c.cut.ensures.before) ∙ (cc)) ∙ c.loop-mark.invariant

pub loop-mark-preserved : goal.loop-mark-preserved
loop-mark-preserved c =
    ap is_whole c.cut.ensures.after
    ∙ more_whole _ c.in-Some.mark (sym c.in-Some.ensures) (ap are_digits (sym c.cut.ensures.before) ∙ (cc)) ∙ c.loop-mark.invariant

pub returns : goal.returns
returns c = c.are_digits-2.ensures ∙ last_whole _ (cc) ∙ c.loop-mark.invariant
