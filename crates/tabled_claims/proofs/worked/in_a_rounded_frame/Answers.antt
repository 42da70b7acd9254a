-- Nothing was written before, and then the style.
use Rattle.std.proofs.Common.{[], refl, sym, subst}
use Rattle.tabled_printing.specs.Columns.{WritesNarrow}
use Rattle.tabled_style.specs.Shown.{StyleShown}
use Rattle.tabled_theme.specs.Events.{style_applied}
use Rattle.tabled_claims.specs.Clean.{WritesClean}
use Rattle.tabled_claims.proofs.CleanWrites.{clean_without}
use Rattle.tabled_claims.proofs.PlainTables.{plainly_after, nothing_spans, style_sets_nothing}
use Rattle.tabled_claims.proofs.ReadyPlain.{rounded_clean, rounded_narrow}
use Rattle.tabled_claims.proofs.worked.in_a_rounded_frame.Goals as goal

pub returns : goal.returns
returns c =
    plainly_after (style_applied c.rounded.result) c.in_ok-table.table.config c.apply.new.self.config c.in_ok-apply.ensures.config.2
    (subst (λ (style : StyleShown). WritesNarrow (style_applied style)) (sym c.rounded.ensures) rounded_narrow)
    (subst (λ (style : StyleShown). WritesClean (style_applied style)) (sym c.rounded.ensures) rounded_clean)
    (style_sets_nothing c.rounded.result)
    ([], c.in_ok-table.ensures.config.spanned_shown, refl, clean_without [] refl refl, nothing_spans)
