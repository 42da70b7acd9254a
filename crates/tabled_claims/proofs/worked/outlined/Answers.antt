-- The outline has the one character.
use Rattle.std.proofs.Common.{◌≡◌, true, refl, sym, subst}
use Rattle.std.specs.Prelude.{IfSome}
use Rattle.tabled_clean.specs.Steering.{steers}
use Rattle.tabled_grid.proofs.Seen.{on_ok}
use Rattle.tabled_width.specs.Narrow.{is_narrow}
use Rattle.tabled_claims.specs.Characters.{passes_border, passes_if_given}
use Rattle.tabled_claims.specs.Clean.{is_quiet}
use Rattle.tabled_claims.proofs.PlainTables.{plainly_after}
use Rattle.tabled_claims.proofs.Characters.{outline_writes}
use Rattle.tabled_claims.proofs.CleanWrites.{clean_only}
use Rattle.tabled_claims.proofs.worked.outlined.Goals as goal

pub returns : goal.returns
unfolding steers
returns c =
    on_ok c.apply.result
    (λ changed. plainly_after _ c.args.table.now.config c.apply.new.self.config changed.2
    (outline_writes is_narrow _ _ _ _ _
    (subst (λ given. IfSome given.border (λ border. passes_border is_narrow border ≡ true)) (sym c.outline.ensures) refl)
    (subst (λ given. passes_if_given is_narrow given.diagonal ≡ true) (sym c.outline.ensures) refl)).borders
    (clean_only _ (outline_writes is_quiet _ _ _ _ _
    (subst (λ given. IfSome given.border (λ border. passes_border is_quiet border ≡ true)) (sym c.outline.ensures) refl)
    (subst (λ given. passes_if_given is_quiet given.diagonal ≡ true) (sym c.outline.ensures) refl)))
    (outline_writes is_quiet _ _ _ _ _
    (subst (λ given. IfSome given.border (λ border. passes_border is_quiet border ≡ true)) (sym c.outline.ensures) refl)
    (subst (λ given. passes_if_given is_quiet given.diagonal ≡ true) (sym c.outline.ensures) refl)).settings c.requires)
    c.apply.ensures.config
