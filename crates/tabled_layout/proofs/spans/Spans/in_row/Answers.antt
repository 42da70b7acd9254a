use Rattle.std.proofs.Common.{◌∙◌}
use Rattle.std.specs.BTreeMap.Range.{entries_between}
use Rattle.std.specs.declared.ops.Bound.TheVariants.{Included, Excluded}
use Rattle.tabled_layout.specs.Spans.{position_cmp}
use Rattle.tabled_layout.proofs.SpanLemmas.{entries_are}
use Rattle.tabled_layout.proofs.spans.Spans.in_row.Goals as goal

pub returns : goal.returns
returns c =
    c.range.ensures.between tt
    ∙ (λ i. entries_between position_cmp (Included (record { row = c.new.ensures.row i; col = c.new.ensures.col i })) (Excluded (record { row = c.new-2.ensures.row i; col = c.new-2.ensures.col i })) (entries_are c.self.inside.spans.entries c.args.self.now c.range.ensures.ordered c.self.view_is i))
