-- One cell more is cut off.
use Rattle.std.proofs.Common.{◌++◌, drop, map, sym, ap, ◌∙◌, arith, append-nil}
use Rattle.std.proofs.Math.ListN.{drop_of_length-le}
use Rattle.tabled_input.specs.Joined.{parts, total}
use Rattle.std.proofs.lemmas.List.{drop_more, map-append}
use Rattle.tabled_input.proofs.Joining.{next_cut}
use Rattle.tabled_input.proofs.joined.cells_of.Goals as goal

pub loop-len-preserved : goal.loop-len-preserved
loop-len-preserved c = record {
  utf8 = c.cut.ensures.utf8.1;
  cut = λ more are.
      let was = c.loop-len.invariant.cut more are in
      let next = drop_more c.args.lengths.now c.loop-len.len-index 0 (omega (arith, c.loop-len-test.true)) in
      next_cut _ _ _ more _ _ _ _ _ _ _ next was.0 was.1 was.2 c.cut.ensures.parts (ap (map (λ cell. cell.now)) c.in_ok-push.ensures.items ∙ map-append _ c.loop-len.cells.items _);
}

pub returns-clause-parts : goal.returns-clause-parts
unfolding parts
returns-clause-parts c = λ more are.
    let was = c.loop-len.invariant.cut more are in
    let none = drop_of_length-le c.args.lengths.now c.loop-len-test.false in (
      sym (append-nil _) ∙ ap (λ lengths. map (λ cell. cell.now) c.loop-len.cells.items ++ parts lengths c.loop-len.rest.now) (sym none) ∙ was.0,
      ap (λ lengths. drop (total lengths) c.loop-len.rest.now) (sym none) ∙ was.1,
    )
