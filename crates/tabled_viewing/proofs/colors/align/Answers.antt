-- One column more.
use Rattle.std.proofs.Common.{subst, refl, ◌∙◌, arith}
use Rattle.std.proofs.lemmas.List.{take_all}
use Rattle.tabled_configuration.specs.Colored.{Changes}
use Rattle.tabled_viewing.specs.Colors.{aligned}
use Rattle.tabled_viewing.proofs.Applied.{no_column, one_column_more}
use Rattle.tabled_viewing.proofs.colors.align.Goals as goal

pub loop-col-init : goal.loop-col-init
loop-col-init g c = record { config = no_column c.args.table.now.config c.args.sides.now; texts = refl }

pub loop-col-preserved : goal.loop-col-preserved
loop-col-preserved g c = record {
  config =
      one_column_more c.args.sides.now c.loop-col.col _ c.args.table.now.config c.loop-col.table.config c.align_column.new.table.config (omega arith)
      c.loop-col.invariant.config c.in_ok-align_column.ensures.config;
  texts = c.in_ok-align_column.ensures.texts ∙ c.loop-col.invariant.texts;
}

pub returns-clause-config : goal.returns-clause-config
returns-clause-config g c =
    subst (λ sides. Changes (aligned 0 sides) c.args.table.now.config c.loop-col.table.config) (take_all c.loop-col.col c.args.sides.now (omega (arith, c.loop-col-test.false))) c.loop-col.invariant.config
