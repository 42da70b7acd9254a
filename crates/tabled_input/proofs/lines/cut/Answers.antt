-- The line is cut at its first separator.
use Rattle.std.proofs.Common.{◌≡◌, ◌+◌, ◌-◌, ◌==◌, ◌∷◌, arith, take, drop, ap, sym, ◌∙◌}
use Rattle.std.specs.List.{slice_split}
use Rattle.tabled_input.proofs.Cuts.{whole, in_two, before, after}
use Rattle.tabled_input.proofs.lines.cut.Goals as goal

pub range-requires-clause-end_boundary : goal.range-requires-clause-end_boundary
range-requires-clause-end_boundary c = before c.args.separator c.args.line.now c.in-Some.at (sym c.in-Some.ensures) c.requires

pub range_from-requires : goal.range_from-requires
range_from-requires c positive = after c.args.separator c.args.line.now c.in-Some.at (sym c.in-Some.ensures) c.utf8.line c.requires

pub returns-in-Some-clause-parts : goal.returns-in-Some-clause-parts
returns-in-Some-clause-parts c =
    let line = c.args.line.now in
    let at = c.in-Some.at in
    let from_first : at ≡ at - 0 = omega arith in
    in_two c.args.separator line at (sym c.in-Some.ensures)
    ∙ ap (λ n. take n line ∷ slice_split (λ b. b == c.args.separator) (drop (at + 1) line)) from_first
    ∙ (λ i. sym c.range.ensures.value i ∷ slice_split (λ b. b == c.args.separator) (sym c.range_from.ensures.value i))

pub returns-in-None-clause-parts : goal.returns-in-None-clause-parts
returns-in-None-clause-parts c = whole c.args.separator c.args.line.now (sym c.in-None.ensures)
