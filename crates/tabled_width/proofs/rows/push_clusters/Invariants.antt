-- What is written, and the clusters that are left.
use Rattle.std.proofs.Common.{◌≡◌, [], map, length, string_bytes}
use denote.Text.{Utf8}
use denote.Shadow.{shadow}
use Rattle.tabled_width.specs.Clusters.{clusters}
use Rattle.tabled_width.specs.Rows.{close, going_on}
use Rattle.tabled_width.proofs.rows.push_clusters.Given as goal

abbrev pub invariant-loop-cluster : goal.invariant-loop-cluster
invariant-loop-cluster l = record {
  text : shadow (Utf8 l.rest);
  filled : going_on (string_bytes l.out) l.width (string_bytes l.row.text) (map close (clusters l.rest))
      ≡ going_on (string_bytes l.initial.out) l.width [] (map close (clusters l.line));
}

abbrev pub decreases-loop-cluster : goal.decreases-loop-cluster
decreases-loop-cluster l = length l.rest
