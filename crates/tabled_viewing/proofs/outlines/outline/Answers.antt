-- One outline after the other.
use Rattle.std.proofs.Common.{Option, List, map, string_bytes, ap, subst, ◌∙◌}
use Rattle.std.specs.Prelude.{option_map}
use Rattle.tabled_configuration.specs.ChangeLaws.{both_change}
use Rattle.tabled_configuration.specs.Colored.{Changes}
use Rattle.tabled_grid.proofs.Seen.{on_ok}
use Rattle.tabled_object.specs.declared.entity.Entity.{Entity}
use Rattle.tabled_width.specs.Texts.{Table}
use Rattle.tabled_request.specs.Words.{word_at}
use Rattle.tabled_viewing.specs.Outlines.{marked, named, outlined}
use Rattle.tabled_viewing.proofs.outlines.outline.Goals as goal

pub returns-clause-config : goal.returns-clause-config
returns-clause-config g c = λ rows are.
    let words = map string_bytes c.args.words.now in
    let table = c.args.table.now in
    let style = c.args.style in
    let first = subst (λ (cells : Option (List Entity)). Changes (outlined style cells table.texts) table.config c.put_outline.new.table.config)
    (c.in_ok-places.ensures ∙ ap (option_map named) c.word_at.ensures) c.in_ok-put_outline.ensures.config in
    on_ok c.put_outline-2.result (λ last.
    both_change (outlined style (option_map named (word_at words c.args.request.outline)) table.texts) (outlined style (option_map (marked rows) (word_at words c.args.request.mark)) table.texts)
    table.config c.put_outline.new.table.config c.put_outline-2.new.table.config first
    (subst (λ (texts : Table). Changes (outlined style (option_map (marked rows) (word_at words c.args.request.mark)) texts) c.put_outline.new.table.config c.put_outline-2.new.table.config) c.in_ok-put_outline.ensures.texts
    (subst (λ (cells : Option (List Entity)). Changes (outlined style cells c.put_outline.new.table.texts) c.put_outline.new.table.config c.put_outline-2.new.table.config) are last)))
    c.put_outline-2.ensures.config
