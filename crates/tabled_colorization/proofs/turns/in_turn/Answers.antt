use Rattle.std.proofs.Common.{◌≡◌, sym, subst, IfOk}
use Rattle.tabled_colorization.specs.Turns.{in_turn, numbered}
use Rattle.tabled_colorization.proofs.turns.in_turn.Goals as goal

pub returns-in-Columns : goal.returns-in-Columns
unfolding numbered
returns-in-Columns c = subst (λ pattern. IfOk c.columns.result (λ list. list.items ≡ in_turn c.args.colors.now (numbered pattern c.args.rows c.args.cols))) (sym c.in-Columns.is) c.columns.ensures

pub returns-in-Rows : goal.returns-in-Rows
unfolding numbered
returns-in-Rows c = subst (λ pattern. IfOk c.rows_of.result (λ list. list.items ≡ in_turn c.args.colors.now (numbered pattern c.args.rows c.args.cols))) (sym c.in-Rows.is) c.rows_of.ensures
