-- The texts that are kept within these widths are fitted, and so fit.
use Rattle.std.proofs.Common.{◌≡◌, ◌-◌, ℕ, List, None, max, arith, map, ap, sym, subst, ◌∙◌}
use Rattle.tabled_configuration.specs.Configuration.{Shows}
use Rattle.tabled_width.specs.Shares.{IsCap, shared, used}
use Rattle.tabled_measure.specs.Cells.{AreUtf8}
use Rattle.tabled_measure.specs.Changed.{cells_changed, texts_of_columns}
use Rattle.tabled_measure.specs.Sizes.{column_widths, unequal_row}
use Rattle.tabled_text.specs.Fitted.{texts_asked}
use Rattle.tabled_text.proofs.Totals.{fits_total}
use Rattle.tabled_text.proofs.table.Table.shares.Goals as goal

pub returns-clause-fitted : goal.returns-clause-fitted
returns-clause-fitted g c es how after shows = λ changed.
    let table = c.args.self.now.texts in
    let shown : Shows es c.config-config.result.now = subst (Shows es) (sym (c.config-config.ensures ∙ ap (λ cfg. cfg.spanned) c.config.ensures)) shows in
    let asked_is : c.deref-2.result.now ≡ texts_asked table = c.deref-2.ensures.value ∙ c.in_ok-asked.ensures ∙ ap (map (λ width. width - 2)) (c.deref.ensures.value ∙ c.self.invariant.1 ∙ ap (λ drawing. column_widths drawing.texts) c.self.view_is) in
    let room_is = c.room_for_texts-room.ensures es table shown c.shape.ensures in
    let made = c.in_ok-widths.ensures.shares in
    record {
      cap = made.0;
      is_cap = subst (λ (at : ℕ × ℕ × List ℕ). IsCap at.0 at.1 at.2 made.0) (λ i. (c.max.ensures i, room_is i, asked_is i)) made.1;
      texts = changed ∙ ap (λ widths. cells_changed (texts_of_columns how widths) table) (made.2 ∙ (λ i. shared made.0 (room_is i - used made.0 (asked_is i)) (asked_is i)));
    }

pub returns-clause-fits : goal.returns-clause-fits
returns-clause-fits g c es how after shows can few alone = λ changed.
    let table = c.args.self.now.texts in
    let none : unequal_row table ≡ None = ap (λ drawing. unequal_row drawing.texts) (sym c.self.view_is) ∙ c.self.invariant.0 in
    let utf8 = subst (λ drawing. AreUtf8 drawing.texts) c.self.view_is c.self.invariant.3 in
    fits_total es how (max c.args.least 1) table after c.args.total (omega arith) none utf8 (returns-clause-fitted g c es how after shows changed) can few alone
