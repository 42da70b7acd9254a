-- The cluster so far.
use Rattle.std.proofs.Common.{◌≤◌, length}
use denote.Text.{Utf8}
use denote.Shadow.{shadow}
use Rattle.tabled_width.proofs.ClusterLemmas.{Begun}
use Rattle.tabled_width.proofs.clusters.after_cluster.Given as goal

abbrev pub invariant-loop-character : goal.invariant-loop-character
invariant-loop-character l = record {
  text : shadow (Utf8 l.left);
  begun : Begun l.fn.first l.fn.rest l.left l.last l.is_half_flag;
  short : length l.left ≤ length l.fn.rest;
}

abbrev pub decreases-loop-character : goal.decreases-loop-character
decreases-loop-character l = length l.left
