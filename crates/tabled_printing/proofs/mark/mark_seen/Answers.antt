-- The character and the color are those that the configuration's own writes show.
use Rattle.std.proofs.Common.{option_copied, arith}
use Rattle.std.proofs.lemmas.Grind.{common_steps}
use Rattle.tabled_printing.proofs.LookLemmas.{own_shown, own_color}
use Rattle.tabled_printing.proofs.mark.mark_seen.Goals as goal

pub returns-then-not-with_colors-clause-mark : goal.returns-then-not-with_colors-clause-mark
returns-then-not-with_colors-clause-mark g c widths heights sized =
    let shown = own_shown c.args.cfg.now c.args.shape widths heights c.args.place c.args.size c.char_at-shown.result sized c.char_at-shown.ensures.value in grind (arith, common_steps)

pub returns-clause-mark : goal.returns-clause-mark
returns-clause-mark g c widths heights sized =
    let shown = own_shown c.args.cfg.now c.args.shape widths heights c.args.place c.args.size c.char_at-shown.result sized c.char_at-shown.ensures.value in
    let color = own_color c.args.cfg.now c.args.shape widths heights c.args.place c.args.size (option_copied c.color_at.result) sized c.color_at.ensures.value in grind (arith, common_steps)
