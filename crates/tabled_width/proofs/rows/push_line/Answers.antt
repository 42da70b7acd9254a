-- The line as it is, or its rows.
use Rattle.std.proofs.Common.{◌++◌, sym, ap, ◌∙◌, string_bytes}
use Rattle.std.specs.List.{join_with_byte}
use Rattle.tabled_width.proofs.Filling.{line_short, line_long}
use Rattle.tabled_width.proofs.rows.push_line.Goals as goal

pub returns-then-fits : goal.returns-then-fits
returns-then-fits c = c.in_ok-push_str.ensures.bytes ∙ ap (λ bs. string_bytes c.args.out.now ++ bs) (sym (line_short c.args.width c.args.line.now (sym c.fits.ensures ∙ c.if-fits.true)))

pub returns-then-is_printable : goal.returns-then-is_printable
returns-then-is_printable c =
    c.in_ok-push_printable.ensures
    ∙ ap (λ rs. string_bytes c.args.out.now ++ join_with_byte 10 rs) (sym (line_long c.args.width c.args.line.now (sym c.fits.ensures ∙ c.if-fits.false)))

pub returns : goal.returns
returns c =
    c.in_ok-push_clusters.ensures
    ∙ ap (λ rs. string_bytes c.args.out.now ++ join_with_byte 10 rs) (sym (line_long c.args.width c.args.line.now (sym c.fits.ensures ∙ c.if-fits.false)))
