-- The lines of the frame, which are the same with colors or without them.
use Rattle.std.proofs.Common.{refl, subst, ◌∙◌, false, string_bytes}
use Rattle.std.specs.List.{flat_map}
use Rattle.std.proofs.lemmas.Result.{MatchResult-from_err}
use Rattle.tabled_configuration.specs.Configuration.{all_writes}
use Rattle.tabled_printing.specs.Picture.{look, text_lines}
use Rattle.tabled_width.specs.Texts.{Appends, texts}
use Rattle.tabled_printing.specs.Viewed.{with_colors_if}
use Rattle.tabled_config.proofs.TextLemmas.{ended, kept_all}
use Rattle.tabled_printing.proofs.ViewedLemmas.{kept_lines}
use Rattle.tabled_config.proofs.print.push_lines.Goals as goal

pub returns-in_err-frame : goal.returns-in_err-frame
returns-in_err-frame g c = MatchResult-from_err c.from_residual.result _ _ c.from_residual.ensures.0 (λ _. kept_all (string_bytes c.args.text.now) (string_bytes c.args.text.now) refl)

pub returns : goal.returns
returns g c =
    let is = c.in_ok-frame.ensures in
    let widths = g.D.Dimension.width_of in
    let heights = g.D.Dimension.height_of in
    subst (λ lines. Appends c.push_table.result c.args.text.now c.push_table.new.text (flat_map ended lines))
    ((λ i. text_lines (with_colors_if (is.with_colors i) (look (all_writes (is.cfg i).now) (is.shape i) (widths (is.dims i).now) (heights (is.dims i).now))) (texts c.args.rows.now))
    ∙ kept_lines false (look (all_writes c.args.cfg.now) c.args.shape (widths c.args.dims.now) (heights c.args.dims.now)) (texts c.args.rows.now))
    c.push_table.ensures
