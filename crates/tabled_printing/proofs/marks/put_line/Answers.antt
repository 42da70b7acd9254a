-- The places of a line that is there are all that are walked.
use Rattle.std.proofs.Common.{◌≡◌, true, sym, ◌∙◌, rules}
use Rattle.tabled_configuration.specs.Configuration.{all_writes}
use Rattle.tabled_printing.specs.Picture.{Look, look}
use Rattle.tabled_printing.specs.LinePieces.{has_line}
use Rattle.tabled_printing.proofs.LineLemmas.{marks_are, marks_count, all_met}
use Rattle.tabled_printing.proofs.marks.put_line.Goals as goal

pub returns-clause-put : goal.returns-clause-put
returns-clause-put g c =
    let view : Look = look (all_writes c.args.cfg.now) c.args.shape (g.D.Dimension.width_of c.args.dims.now) (g.D.Dimension.height_of c.args.dims.now) in
    let there : has_line c.args.shape c.args.line ≡ true = sym c.has_line.ensures ∙ c.if-not-has_line.false in
    rw (marks_are view c.args.line there) c.put_all.ensures.put

pub returns-clause-probes : goal.returns-clause-probes
returns-clause-probes g c =
    let view : Look = look (all_writes c.args.cfg.now) c.args.shape (g.D.Dimension.width_of c.args.dims.now) (g.D.Dimension.height_of c.args.dims.now) in
    let there : has_line c.args.shape c.args.line ≡ true = sym c.has_line.ensures ∙ c.if-not-has_line.false in
    let counted = marks_count view c.args.line there in
    let met = all_met c.args.shape c.args.line there in
    search rules
