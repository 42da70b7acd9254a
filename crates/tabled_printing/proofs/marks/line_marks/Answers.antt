-- Each list of events that the configuration shows gives one look, and with it these marks.
use Rattle.std.proofs.Common.{◌+◌, ◌*◌, ◌++◌, length, map, ap, subst, ◌∙◌}
use Rattle.tabled_kept.specs.Probing.{IsRaised}
use Rattle.tabled_configuration.specs.Configuration.{all_writes}
use Rattle.tabled_printing.specs.Picture.{look, marks_along}
use Rattle.tabled_printing.specs.LinePieces.{lines_met}
use Rattle.tabled_printing.specs.Marks.{mark_of}
use Rattle.tabled_printing.proofs.LookLemmas.{own_look}
use Rattle.tabled_printing.proofs.marks.line_marks.Goals as goal

pub returns-in_err-put_line-clause-probes : goal.returns-in_err-put_line-clause-probes
returns-in_err-put_line-clause-probes g c = λ es shows.
    subst (λ view. IsRaised (12 * length (marks_along view c.args.line) + 6 * lines_met c.args.shape c.args.line) (g.M.Meter.made c.args.probes.now) (g.M.Meter.made c.put_line.new.probes))
    (own_look c.args.cfg.now es c.args.shape (g.D.Dimension.width_of c.args.dims.now) (g.D.Dimension.height_of c.args.dims.now) shows) c.put_line.ensures.probes

pub returns-clause-marks : goal.returns-clause-marks
returns-clause-marks g c = λ es shows.
    c.in_ok-put_line.ensures.put
    ∙ ap (λ found. map mark_of found ++ marks_along (look (all_writes c.args.cfg.now) c.args.shape (g.D.Dimension.width_of c.args.dims.now) (g.D.Dimension.height_of c.args.dims.now)) c.args.line) c.new-marks.ensures.items
    ∙ ap (λ view. marks_along view c.args.line) (own_look c.args.cfg.now es c.args.shape (g.D.Dimension.width_of c.args.dims.now) (g.D.Dimension.height_of c.args.dims.now) shows)

pub returns-clause-probes : goal.returns-clause-probes
returns-clause-probes g c = λ es shows.
    subst (λ view. IsRaised (12 * length (marks_along view c.args.line) + 6 * lines_met c.args.shape c.args.line) (g.M.Meter.made c.args.probes.now) (g.M.Meter.made c.put_line.new.probes))
    (own_look c.args.cfg.now es c.args.shape (g.D.Dimension.width_of c.args.dims.now) (g.D.Dimension.height_of c.args.dims.now) shows) c.put_line.ensures.probes
