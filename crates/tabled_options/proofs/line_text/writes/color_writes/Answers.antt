-- One more place, and none where there is no color.
use Rattle.std.proofs.Common.{◌∙◌, ap, sym, Some, option_map, option_copied, take_all}
use Rattle.tabled_color.specs.Shade.{texts_of}
use Rattle.tabled_options.specs.LineText.{colors_written}
use Rattle.tabled_options.proofs.WrittenLemmas.{one_written, no_colors, color_more, uncolored}
use Rattle.tabled_options.proofs.line_text.writes.color_writes.Goals as goal

pub returns-in_default : goal.returns-in_default
returns-in_default c =
    uncolored c.new-writes.result.items c.args.taken.now c.new-writes.ensures.items
    ∙ ap (λ color. colors_written (option_map texts_of (option_copied color)) c.args.taken.now) (sym c.in_default.is)

pub loop-place-init : goal.loop-place-init
loop-place-init c = no_colors (texts_of c.in-Some.color.now) c.new-writes.result.items c.new-writes.ensures.items

pub loop-place-preserved : goal.loop-place-preserved
loop-place-preserved c =
    color_more (texts_of c.in-Some.color.now) c.args.taken.now c.loop-place.place-index _ c.loop-place.writes.items c.push.new.self.items c.in_ok-copy.copy c.loop-place-test.true
    (c.in_ok-copy.ensures.texts ∙ (λ i. record { prefix = c.get_prefix.ensures i; suffix = c.get_suffix.ensures i }))
    (one_written c.push.new.self.items c.loop-place.writes.items c.write_at.result _ c.in_ok-push.ensures.items c.write_at.ensures)
    c.loop-place.invariant

pub returns : goal.returns
returns c =
    c.loop-place.invariant
    ∙ ap (colors_written (Some (texts_of c.in-Some.color.now))) (take_all c.loop-place.place-index c.args.taken.now c.loop-place-test.false)
    ∙ ap (λ color. colors_written (option_map texts_of (option_copied color)) c.args.taken.now) (sym c.in-Some.is)
