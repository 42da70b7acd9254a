use Rattle.std.proofs.Common.{ap, sym, ◌∙◌, if◌then◌else◌, None}
use Rattle.tabled_color.specs.Coloring.{one_color}
use Rattle.tabled_color.proofs.border_color.option.one_color.Goals as goal

pub returns-then-is_same : goal.returns-then-is_same
unfolding one_color
returns-then-is_same c = c.as_ref.ensures.value ∙ ap (λ all. if all then c.args.colors.now.top else None) (sym c.if-is_same.true ∙ c.is_same.ensures)

pub returns-else-is_same : goal.returns-else-is_same
unfolding one_color
returns-else-is_same c = ap (λ all. if all then c.args.colors.now.top else None) (sym c.if-is_same.false ∙ c.is_same.ensures)
