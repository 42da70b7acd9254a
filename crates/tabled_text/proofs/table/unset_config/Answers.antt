-- A new configuration shows no event.
use Rattle.std.proofs.Common.{[], subst, sym, refl, ◌∙◌}
use Rattle.tabled_configuration.specs.Colored as colored
use Rattle.tabled_text.proofs.table.unset_config.Goals as goal

pub returns-in-Ok : goal.returns-in-Ok
returns-in-Ok c =
    subst (λ config. colored.Shows [] config) (sym (c.in-Ok.ensures.ok ∙ c.new-2.ensures)) (record {
      spanned_shown = c.new.ensures;
      cell_colors_shown = refl;
    })
