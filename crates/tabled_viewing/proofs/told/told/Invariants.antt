-- The characters so far are written.
use Rattle.std.proofs.Common.{◌≡◌, map, string_bytes}
use Rattle.std.specs.Prelude.{encode_utf8_all}
use Rattle.tabled_viewing.specs.Told.{seen}
use Rattle.tabled_viewing.proofs.told.told.Given as goal

abbrev pub invariant-loop-character : goal.invariant-loop-character
invariant-loop-character l = string_bytes l.told ≡ encode_utf8_all (map seen l.yielded)
