use Rattle.std.proofs.Common.{◌∷◌, ◌++◌, [], ◌∙◌}
use Rattle.tabled_settings.specs.Setting.{write_of}
use Rattle.tabled_changes.proofs.EntitiesColoredLemmas.{one_write}
use Rattle.tabled_changes.proofs.colored_config.coloring.written_texts.Goals as goal

pub loop-entity-preserved : goal.loop-entity-preserved
loop-entity-preserved c =
    one_write (λ colored. write_of colored.0 colored.1) c.args.list.now c.loop-entity.entity-index _ c.loop-entity.events.items c.push.new.self.items c.loop-entity-test.true c.loop-entity.invariant
    (c.in_ok-push.ensures.items ∙ (λ i. c.loop-entity.events.items ++ write_of c.loop-entity-item.result.0 (c.in_ok-keep.ensures.copy i) ∷ []) ∙ (λ i. c.loop-entity.events.items ++ write_of (c.loop-entity-item.is i).0 (c.loop-entity-item.is i).1 ∷ []))
