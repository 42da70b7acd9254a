-- What is written, and the bytes that are left.
use Rattle.std.proofs.Common.{◌≡◌, ◌++◌, [], true, map, length, string_bytes}
use Rattle.std.specs.List.{join_with_byte, list_all}
use denote.Text.{Utf8}
use denote.Shadow.{shadow}
use Rattle.tabled_width.specs.Texts.{is_printable}
use Rattle.tabled_width.specs.Clusters.{clusters}
use Rattle.tabled_width.specs.Rows.{close, rows}
use Rattle.tabled_width.proofs.rows.push_printable.Given as goal

abbrev pub invariant-loop-rest : goal.invariant-loop-rest
invariant-loop-rest l = record {
  text : shadow (Utf8 l.rest);
  printable : list_all is_printable l.rest ≡ true;
  filled : string_bytes l.out ++ join_with_byte 10 (rows l.width [] (map close (clusters l.rest)))
      ≡ string_bytes l.initial.out ++ join_with_byte 10 (rows l.width [] (map close (clusters l.line)));
}

abbrev pub decreases-loop-rest : goal.decreases-loop-rest
decreases-loop-rest l = length l.rest
