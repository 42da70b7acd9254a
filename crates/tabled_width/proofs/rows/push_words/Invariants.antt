-- What is written, and the pieces between spaces that are left.
use Rattle.std.proofs.Common.{◌≡◌, ◌==◌, ◌≤◌, ◌+◌, [], length, string_bytes}
use Rattle.std.specs.List.{slice_split, flat_map}
use denote.Text.{Utf8}
use denote.Shadow.{shadow}
use Rattle.tabled_width.specs.Measured.{IsMeasured}
use Rattle.tabled_width.specs.Rows.{parts_of, words_from, words, going_on}
use Rattle.tabled_width.proofs.rows.push_words.Given as goal

abbrev pub invariant-loop-piece : goal.invariant-loop-piece
invariant-loop-piece l = record {
  text : shadow (Utf8 l.rest);
  measured : IsMeasured l.row;
  few : l.gap + length l.rest ≤ length l.line;
  filled : going_on (string_bytes l.out) l.width (string_bytes l.row.text) (flat_map (parts_of l.width) (words_from l.gap (slice_split (λ byte. byte == 32) l.rest)))
      ≡ going_on (string_bytes l.initial.out) l.width [] (flat_map (parts_of l.width) (words l.line));
}

abbrev pub decreases-loop-piece : goal.decreases-loop-piece
decreases-loop-piece l = length l.rest
