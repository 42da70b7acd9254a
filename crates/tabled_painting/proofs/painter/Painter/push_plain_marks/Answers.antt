-- All of them without a color.
use Rattle.std.proofs.Common.{None, ◌∙◌, refl}
use Rattle.tabled_painting.proofs.FrameLemmas.{plain_marks_painted}
use Rattle.tabled_painting.proofs.PainterLemmas.{none_if, paints_on, paints_same}
use Rattle.tabled_painting.proofs.painter.Painter.push_plain_marks.Goals as goal

pub returns : goal.returns
returns g c =
    let old = c.args.self.now in
    paints_same g.O.Output.gains _ _ old _ (plain_marks_painted c.args.mark c.args.run _ _ c.unwrap_or-crossing.ensures c.unwrap_or-edge.ensures c.requires.mark c.requires.run)
    (paints_on g.O.Output.gains None _ old _ (c.requires.before ∙ none_if old.with_colors) c.in_ok-push_after.ensures refl refl refl)
