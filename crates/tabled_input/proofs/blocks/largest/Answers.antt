-- The block of one more line is the largest, or that of before.
use Rattle.std.proofs.Common.{◌≡◌, ◌+◌, ◌-◌, length, drop, get_or, ◌∷◌, refl, sym, ap, ◌∙◌, arith, length-drop}
use Rattle.tabled_input.specs.Spaced.{block_of, fewest, largest}
use Rattle.tabled_input.specs.declared.blocks.Block.{Block}
use Rattle.tabled_input.proofs.Largest.{one_more, fewest_more, largest_new, largest_old, none_yet}
use Rattle.tabled_input.proofs.blocks.largest.Goals as goal
use Rattle.tabled_input.proofs.blocks.largest.Goals.{then-area, else-area}

pub loop-below-init : goal.loop-below-init
loop-below-init c =
    record { best = none_yet c.args.counts.now; width = λ h. absurd (omega (arith, h)); start = λ _. refl; within = omega arith }

pub loop-below-preserved : goal.loop-below-preserved
loop-below-preserved c =
    let counts = c.args.counts.now in
    let below = c.loop-below.below in
    let lines = drop (length counts - below) counts in
    let count = get_or counts (length counts - 1 - below) 0 in
    let more = one_more counts below (omega arith) in
    let many : length lines ≡ below = omega (arith, length-drop (length counts - below) counts) in
    let width : c.min-width.result ≡ fewest (count ∷ lines) =
    c.min-width.ensures
    ∙ fewest_more lines count c.loop-below.width (λ h. c.loop-below.invariant.width (omega (arith, many, h))) (λ h. c.loop-below.invariant.start (omega (arith, many, h))) (omega (arith, c.type_inv.counts (length counts - 1 - below))) in
    let block : Block = record { height = below + 1; width = c.min-width.result } in
    let made : block ≡ block_of (count ∷ lines) = λ i. record { height = (let h : below + 1 ≡ length (count ∷ lines) = omega (arith, many) in h) i; width = width i } in
    record {
      best = elim c.if-area.branch [
        | then-area w ↦ w.best-is ∙ largest_new lines count c.loop-below.best block c.loop-below.invariant.best made (omega (arith, w.if-area.true, c.area.ensures, c.area-in-loop-below.ensures)) ∙ ap largest (sym more)
        | else-area w ↦ w.best-is ∙ largest_old lines count c.loop-below.best block c.loop-below.invariant.best made (omega (arith, w.if-area.false, c.area.ensures, c.area-in-loop-below.ensures)) ∙ ap largest (sym more)
      ];
      width = λ _. width ∙ ap fewest (sym more);
      start = λ h. absurd (omega (arith, h));
      within = elim c.if-area.branch [
        | then-area w ↦ omega (arith, ap (λ (b : Block). b.height) w.best-is)
        | else-area w ↦ omega (arith, ap (λ (b : Block). b.height) w.best-is, c.loop-below.invariant.within)
      ];
    }
