-- The columns so far stand where they do.
use Rattle.std.proofs.Common.{◌≡◌, take}
use Rattle.tabled_configuration.specs.Colored.{Changes}
use Rattle.tabled_viewing.specs.Colors.{aligned}
use Rattle.tabled_viewing.proofs.colors.align.Given as goal

abbrev pub invariant-loop-col : goal.invariant-loop-col
invariant-loop-col g l = record {
  config : Changes (aligned 0 (take l.col l.sides)) l.initial.table.config l.table.config;
  texts : l.table.texts ≡ l.initial.table.texts;
}
