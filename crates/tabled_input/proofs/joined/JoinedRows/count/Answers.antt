-- There are as many rows as counts.
use Rattle.std.proofs.Common.{◌≡◌, length, sym, ap, ◌∙◌, arith}
use Rattle.tabled_input.proofs.Joining.{length-parts}
use Rattle.tabled_input.proofs.joined.JoinedRows.count.Goals as goal

pub returns-clause-count : goal.returns-clause-count
returns-clause-count c =
    let all = c.self.inside in
    let counts : c.len.result ≡ length all.counts.items = omega (arith, c.len.ensures, all.counts.ok.0) in
    counts ∙ sym (length-parts all.counts.items _) ∙ ap (λ v. length v.rows) c.self.view_is
