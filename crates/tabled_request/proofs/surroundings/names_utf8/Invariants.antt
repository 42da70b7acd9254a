-- The rest has the name where the whole has it.
use Rattle.std.proofs.Common.{◌≡◌, length}
use Rattle.tabled_request.specs.Surroundings.{names_utf8}
use Rattle.tabled_request.proofs.surroundings.names_utf8.Given as goal

abbrev pub invariant-loop-rest : goal.invariant-loop-rest
invariant-loop-rest l = names_utf8 l.rest ≡ names_utf8 l.locale

abbrev pub decreases-loop-rest : goal.decreases-loop-rest
decreases-loop-rest l = length l.rest
