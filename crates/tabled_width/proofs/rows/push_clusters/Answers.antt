-- The rows are written when no cluster is left.
use Rattle.std.proofs.Common.{◌++◌, map, ap, ◌∙◌, string_bytes}
use Rattle.tabled_width.specs.Rows.{close}
use Rattle.tabled_width.proofs.Filling.{rows_end}
use Rattle.tabled_width.proofs.rows.push_clusters.Goals as goal

pub returns : goal.returns
returns c =
    rows_end (string_bytes c.loop-cluster.out) (string_bytes c.loop-cluster.row.text) (string_bytes c.push_str.new.self) _ c.args.width _
    c.loop-cluster.invariant.filled (ap (map close) c.in_default.ensures.clusters)
    (c.in_ok-push_str.ensures.bytes ∙ ap (λ bs. string_bytes c.loop-cluster.out ++ bs) c.as_str.ensures.value)
