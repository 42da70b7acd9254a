-- There is one piece more than there are line feeds.
use Rattle.std.proofs.Common.{rules, ◌≡◌, ◌==◌, ◌∙◌, ◌+◌, sym, ap, count_by}
use Rattle.std.proofs.lemmas.List.Splits.{length-slice_split}
use Rattle.tabled_config.proofs.refusals.line_count.Goals as goal

pub returns : goal.returns
returns c =
    let e : c.count.result ≡ count_by (λ byte. byte == 10) c.args.text.now = search rules in
    ap (λ n. n + 1) e ∙ sym (length-slice_split (λ byte. byte == 10) c.args.text.now)
