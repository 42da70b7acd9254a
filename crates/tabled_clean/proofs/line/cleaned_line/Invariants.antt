-- The characters so far are written.
use Rattle.std.proofs.Common.{◌≡◌, map, string_bytes}
use Rattle.std.specs.Prelude.{encode_utf8_all}
use Rattle.tabled_clean.specs.Line.{in_line}
use Rattle.tabled_clean.proofs.line.cleaned_line.Given as goal

abbrev pub invariant-loop-character : goal.invariant-loop-character
invariant-loop-character l = string_bytes l.line ≡ encode_utf8_all (map in_line l.yielded)
