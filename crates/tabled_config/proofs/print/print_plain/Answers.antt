-- Each list of events that the configuration shows gives one look, and with it one text.
use Rattle.std.proofs.Common.{ℕ, List, ◌++◌, ap, sym, ◌∙◌, string_bytes, arith}
use Rattle.std.specs.List.{flat_map, join_with_byte}
use Rattle.tabled_configuration.specs.Configuration.{all_writes}
use Rattle.tabled_printing.specs.Picture.{look, text_lines}
use Rattle.tabled_width.specs.Texts.{texts}
use Rattle.tabled_printing.proofs.LookLemmas.{own_look}
use Rattle.tabled_config.proofs.TextLemmas.{ended, by_result, cut_at_start}
use Rattle.tabled_width.proofs.TimesLemmas.{string_len-is}
use Rattle.tabled_config.proofs.print.print_plain.Goals as goal

pub truncate-requires : goal.truncate-requires
truncate-requires g c within =
    cut_at_start c.args.out.now c.push_lines.new.text c.len-start.result (c.len-start.ensures ∙ string_len-is c.args.out.now)
    ((by_result c.push_lines.result (string_bytes c.args.out.now) (string_bytes c.push_lines.new.text) _ c.push_lines.ensures).1 (sym c.is_err.ensures.value ∙ c.if-is_err.true))
    (let l = string_len-is c.push_lines.new.text in omega (arith, l))

pub returns-clause-text : goal.returns-clause-text
returns-clause-text g c es shows =
    let widths : ℕ → ℕ = g.D.Dimension.width_of c.args.dims.now in
    let heights : ℕ → ℕ = g.D.Dimension.height_of c.args.dims.now in
    let lines : List (List ℕ) = text_lines (look (all_writes c.args.cfg.now) c.args.shape widths heights) (texts c.args.cells.now) in
    c.join_lines.ensures (string_bytes c.args.out.now) lines (sym (c.len-start.ensures ∙ string_len-is c.args.out.now))
    ((by_result c.push_lines.result (string_bytes c.args.out.now) (string_bytes c.push_lines.new.text) (flat_map ended lines) c.push_lines.ensures).0 (sym c.is_err.ensures.value ∙ c.if-is_err.false))
    ∙ ap (λ view. string_bytes c.args.out.now ++ join_with_byte 10 (text_lines view (texts c.args.cells.now))) (own_look c.args.cfg.now es c.args.shape widths heights shows)
