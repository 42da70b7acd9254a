-- What is taken, and the clusters that are left.
use Rattle.std.proofs.Common.{◌≡◌, [], length, string_bytes}
use denote.Text.{Utf8}
use denote.Shadow.{shadow}
use Rattle.tabled_width.specs.Clusters.{clusters}
use Rattle.tabled_width.specs.CutOff.{beginning}
use Rattle.tabled_width.proofs.cut_off.begin.Given as goal

abbrev pub invariant-loop-cluster : goal.invariant-loop-cluster
invariant-loop-cluster l = record {
  text : shadow (Utf8 l.rest);
  taken : beginning l.width l.suffix (string_bytes l.row) (clusters l.rest) ≡ beginning l.width l.suffix [] (clusters l.line);
}

abbrev pub decreases-loop-cluster : goal.decreases-loop-cluster
decreases-loop-cluster l = length l.rest
