-- What was written so far.
use Rattle.std.proofs.Common.{◌≡◌, take}
use Rattle.tabled_changes.specs.EntitiesColored.{text_writes}
use Rattle.tabled_changes.proofs.colored_config.coloring.written_texts.Given as goal

abbrev pub invariant-loop-entity : goal.invariant-loop-entity
invariant-loop-entity l = l.events.items ≡ text_writes (take l.entity-index l.list)
