-- At the end all lines were looked at.
use Rattle.std.proofs.Common.{◌++◌, ◌∷◌, [], flat_map, if◌then◌else◌, ap, ◌∙◌}
use Rattle.std.proofs.lemmas.Iterator.Consumers.{YieldsList-end}
use Rattle.std.proofs.lemmas.Iterator.Splits.{YieldsList-from_lines}
use Rattle.tabled_viewing.specs.Itself.{is_about, lines_about}
use Rattle.tabled_viewing.specs.declared.texts.TheConstants.{HELP}
use Rattle.tabled_viewing.proofs.texts.lines_about.Goals as goal

pub returns : goal.returns
unfolding lines_about
returns c =
    let all = YieldsList-end (YieldsList-from_lines HELP.now (cc)) c.loop-line.yielded _ c.loop-line.yielded_by _ _ c.in-None.is c.next.ensures.steps in
    c.loop-line.invariant ∙ ap (flat_map (λ line. if is_about c.args.name.now line then line ++ 10 ∷ [] else [])) all.0
