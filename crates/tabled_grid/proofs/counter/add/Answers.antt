use Rattle.std.proofs.Common.{◌≡◌, ◌+◌, ap, ◌∙◌}
use Rattle.std.specs.FinMap as map
use Rattle.tabled_kept.specs.Table.{table}
use Rattle.tabled_places.specs.Keys.{line_cmp}
use Rattle.tabled_grid.specs.Counted.{number_at}
use Rattle.tabled_grid.proofs.Numbers.{raised, raised_there}
use Rattle.tabled_grid.proofs.counter.add.Goals as goal

pub returns-then-add_one-clause-ok : goal.returns-then-add_one-clause-ok
returns-then-add_one-clause-ok c = raised_there _ _ c.args.line (c.add_one.ensures.more c.if-add_one.true)

pub returns-clause-ok : goal.returns-clause-ok
returns-clause-ok c =
    let number = c.unwrap_or-number.result in
    let same = ap (table line_cmp) (c.add_one.ensures.same c.if-add_one.false) in
    let is : number ≡ number_at (table line_cmp c.add_one.new.self) c.args.line = cc in
    raised _ _ c.args.line number (is ∙ ap (λ m. number_at m c.args.line) same) (c.in_ok-insert.ensures.ok ∙ ap (λ m. map.insert m c.args.line (number + 1)) same)
