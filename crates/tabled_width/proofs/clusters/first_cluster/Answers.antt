-- The line is cut where its first cluster ends.
use Rattle.tabled_width.proofs.ClusterLemmas.{no_clusters, cut_boundary, cut_clusters}
use Rattle.tabled_width.proofs.clusters.first_cluster.Goals as goal

pub returns-in_default-clause-clusters : goal.returns-in_default-clause-clusters
returns-in_default-clause-clusters c = no_clusters c.args.line.now c.in_default.ensures.0

pub range-requires-clause-end_boundary : goal.range-requires-clause-end_boundary
range-requires-clause-end_boundary c =
    cut_boundary c.args.line.now c.in-Some.rest.now c.after_cluster.result.now c.in-Some.first c.in-Some.ensures.0 c.in-Some.ensures.1
    c.after_cluster.ensures.cluster c.utf8.line c.after_cluster.utf8

pub range_from-requires : goal.range_from-requires
range_from-requires c = λ some.
    cut_boundary c.args.line.now c.in-Some.rest.now c.after_cluster.result.now c.in-Some.first c.in-Some.ensures.0 c.in-Some.ensures.1
    c.after_cluster.ensures.cluster c.utf8.line c.after_cluster.utf8

pub returns-clause-clusters : goal.returns-clause-clusters
returns-clause-clusters c =
    cut_clusters c.args.line.now c.in-Some.rest.now c.after_cluster.result.now c.in-Some.first c.in-Some.ensures.0 c.in-Some.ensures.1 c.after_cluster.ensures.cluster
    c.range.result.now c.range_from.result.now c.range.ensures.value c.range_from.ensures.value
