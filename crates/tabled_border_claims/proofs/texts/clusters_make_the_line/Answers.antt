use Rattle.tabled_width.proofs.ClusterLemmas.{concat_clusters, clusters_nonempty}
use Rattle.tabled_border_claims.proofs.texts.clusters_make_the_line.Goals as goal

pub returns-clause-line : goal.returns-clause-line
returns-clause-line c = concat_clusters

pub returns-clause-some : goal.returns-clause-some
returns-clause-some c = clusters_nonempty
