-- The line as it is, or its beginning and the suffix.
use Rattle.std.proofs.Common.{◌++◌, sym, ap, ◌∙◌, string_bytes, append_assoc}
use Rattle.tabled_width.proofs.Filling.{cut_short, cut_long}
use Rattle.tabled_width.proofs.cut_off.push_cut_off.Goals as goal

pub returns-then-fits : goal.returns-then-fits
returns-then-fits c = c.in_ok-push_str.ensures.bytes ∙ ap (λ bs. string_bytes c.args.out.now ++ bs) (sym (cut_short c.args.width c.args.suffix.now c.args.line.now (sym c.fits.ensures ∙ c.if-fits.true)))

pub returns : goal.returns
returns c =
    c.in_ok-push_str-3.ensures.bytes ∙ ap (λ bs. bs ++ c.args.suffix.now) (c.in_ok-push_str-2.ensures.bytes ∙ ap (λ bs. string_bytes c.args.out.now ++ bs) (c.as_str.ensures.value ∙ c.in_ok-begin.ensures))
    ∙ append_assoc (string_bytes c.args.out.now) _ c.args.suffix.now
    ∙ ap (λ bs. string_bytes c.args.out.now ++ bs) (sym (cut_long c.args.width c.args.suffix.now c.args.line.now (sym c.fits.ensures ∙ c.if-fits.false)))
