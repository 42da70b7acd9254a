-- One more place.
use Rattle.std.proofs.Common.{◌∙◌, ap, sym}
use Rattle.tabled_places.specs.Writes.{writes_made}
use Rattle.tabled_options.specs.Laying.{looked}
use Rattle.tabled_options.proofs.WrittenLemmas.{one_written, no_characters, character_more, character_none}
use Rattle.tabled_options.proofs.line_text.writes.character_writes.Goals as goal
use Rattle.tabled_options.proofs.line_text.writes.character_writes.Goals.{then-takes_character+in_ok-push, else-takes_character}

pub loop-place-init : goal.loop-place-init
loop-place-init g c = no_characters (looked g.D.Dimension.width_of g.D.Dimension.height_of c.args.line.now).shown c.new-writes.result.items c.new-writes.ensures.items

pub loop-place-preserved : goal.loop-place-preserved
loop-place-preserved g c =
    let shown = (looked g.D.Dimension.width_of g.D.Dimension.height_of c.args.line.now).shown in
    elim c.if-takes_character.branch [
      | then-takes_character+in_ok-push w ↦
          character_more shown c.args.taken.now c.loop-place.place-index _ c.loop-place.writes.items c.if-takes_character.writes.items c.loop-place-test.true (sym c.takes_character.ensures ∙ w.if-takes_character.true)
          (one_written c.if-takes_character.writes.items c.loop-place.writes.items w.write_at.result _ (ap (λ v. v.items) w.writes-is ∙ w.in_ok-push.ensures.items) w.write_at.ensures)
          c.loop-place.invariant
      | else-takes_character w ↦
          ap (λ v. writes_made v.items) w.writes-is
          ∙ character_none shown c.args.taken.now c.loop-place.place-index _ c.loop-place.writes.items c.loop-place-test.true (sym c.takes_character.ensures ∙ w.if-takes_character.false) c.loop-place.invariant
    ]
