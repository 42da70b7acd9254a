-- What is written, and the clusters that are left.
use Rattle.std.proofs.Common.{◌≡◌, List, ◌++◌, length, string_bytes}
use denote.Text.{Utf8}
use denote.Shadow.{shadow}
use Rattle.tabled_width.specs.Clusters.{clusters}
use Rattle.tabled_width.specs.Measured.{IsMeasured}
use Rattle.tabled_width.specs.Rows.{Chunk, spaced, going_on}
use Rattle.tabled_width.proofs.rows.put_word.Given as goal

abbrev pub invariant-loop-cluster : goal.invariant-loop-cluster
invariant-loop-cluster l = record {
  text : shadow (Utf8 l.rest);
  measured : IsMeasured l.row;
  filled : (parts : List Chunk) → going_on (string_bytes l.out) l.width (string_bytes l.row.text) (spaced l.gap (clusters l.rest) ++ parts)
      ≡ going_on (string_bytes l.initial.out) l.width (string_bytes l.initial.row.text) (spaced l.initial.gap (clusters l.word) ++ parts);
}

abbrev pub decreases-loop-cluster : goal.decreases-loop-cluster
decreases-loop-cluster l = length l.rest
