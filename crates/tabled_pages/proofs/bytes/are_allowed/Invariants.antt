-- The bytes so far.
use Rattle.std.proofs.Common.{◌≡◌, take}
use Rattle.std.specs.List.{list_all}
use Rattle.tabled_pages.specs.Input.{is_allowed}
use Rattle.tabled_pages.proofs.bytes.are_allowed.Given as goal

abbrev pub invariant-loop-byte : goal.invariant-loop-byte
invariant-loop-byte l = l.all ≡ list_all is_allowed (take l.byte-index l.input)
