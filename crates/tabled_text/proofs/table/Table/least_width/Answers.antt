-- What the frame takes, and what the least shares of the columns do.
use Rattle.std.proofs.Common.{◌-◌, min, map, sym, subst, ap, ◌∙◌, arith}
use Rattle.tabled_configuration.specs.Configuration.{Shows}
use Rattle.tabled_width.specs.Shares.{used}
use Rattle.tabled_text.proofs.table.Table.least_width.Goals as goal

pub returns : goal.returns
returns g c es shows =
    let shown : Shows es c.config-2.result.now = subst (Shows es) (sym (c.config-2.ensures ∙ ap (λ cfg. cfg.spanned) c.config.ensures)) shows in
    let frame = c.frame_width-frame.ensures es c.args.self.now.texts shown c.shape.ensures in
    let asked = ap (map (λ width. width - 2)) (c.deref.ensures.value ∙ c.sizes.ensures.widths) in
    let texts_take = c.least_for_texts.ensures ∙ (λ i. min (used (c.max.ensures i) (asked i)) 18446744073709551615) in
    omega (arith, c.saturating_add.ensures, frame, texts_take)
