-- One column more, if it has the heading.
use Rattle.std.proofs.Common.{map, ap, sym, ◌++◌, ◌∙◌, arith}
use Rattle.tabled_request.specs.Columns.{has_heading}
use Rattle.tabled_request.proofs.KeptColumns.{headed_kept, kept_one, left_one}
use Rattle.tabled_request.proofs.columns.put_headed.Goals.{then-has_heading+in_ok-push, else-has_heading}
use Rattle.tabled_request.proofs.columns.put_headed.Goals as goal

pub loop-col-preserved : goal.loop-col-preserved
loop-col-preserved g c =
    elim c.if-has_heading.branch [
      | then-has_heading+in_ok-push w ↦
          ap (λ columns. columns.items) w.columns-is ∙ w.in_ok-push.ensures.items
          ∙ kept_one (has_heading (map g.T.AsStr.text c.args.headings.now) c.args.text.now) c.args.columns.now.items c.loop-col.columns.items c.loop-col.col c.loop-col.invariant (sym c.has_heading.ensures ∙ w.if-has_heading.true)
      | else-has_heading w ↦
          ap (λ columns. columns.items) w.columns-is
          ∙ left_one (has_heading (map g.T.AsStr.text c.args.headings.now) c.args.text.now) c.args.columns.now.items c.loop-col.columns.items c.loop-col.col c.loop-col.invariant (sym c.has_heading.ensures ∙ w.if-has_heading.false)
    ]

pub returns : goal.returns
returns g c =
    c.loop-col.invariant
    ∙ ap (λ rest. c.args.columns.now.items ++ rest)
    (sym (headed_kept g.T.AsStr.text c.args.headings.now c.args.text.now c.loop-col.col c.args.count (omega (arith, c.min-col-end.ensures, c.loop-col-test.false, c.loop-col.auto.col-end))))
