-- The title has narrow characters alone, and none that steers.
use Rattle.std.proofs.Common.{◌≡◌, true, sym, subst}
use Rattle.std.specs.List.{list_all}
use Rattle.tabled_grid.proofs.Seen.{on_ok}
use Rattle.tabled_width.specs.Narrow.{is_narrow}
use Rattle.tabled_claims.specs.Clean.{is_quiet}
use Rattle.tabled_claims.proofs.PlainTables.{plainly_after, title_narrow, title_quiet}
use Rattle.tabled_claims.proofs.Characters.{text_writes}
use Rattle.tabled_claims.proofs.CleanWrites.{clean_only}
use Rattle.tabled_claims.proofs.worked.entitled.Goals as goal

pub returns-clause-shown : goal.returns-clause-shown
returns-clause-shown c =
    on_ok c.apply.result
    (λ changed. plainly_after _ c.args.table.now.config c.apply.new.self.config changed.2
    (text_writes is_narrow c.in_ok-title.title _ _ (subst (λ given. list_all is_narrow given.text ≡ true) (sym c.in_ok-title.ensures) title_narrow)).borders
    (clean_only _ (text_writes is_quiet c.in_ok-title.title _ _ (subst (λ given. list_all is_quiet given.text ≡ true) (sym c.in_ok-title.ensures) title_quiet)))
    (text_writes is_quiet c.in_ok-title.title _ _ (subst (λ given. list_all is_quiet given.text ≡ true) (sym c.in_ok-title.ensures) title_quiet)).settings c.requires)
    c.apply.ensures.config
