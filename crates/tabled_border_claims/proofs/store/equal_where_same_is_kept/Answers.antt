use Rattle.std.proofs.Common.{◌≡◌, true, subst}
use Rattle.std.specs.Cmp.{decided}
use Rattle.tabled_grid.specs.Same.{same_state}
use Rattle.tabled_grid.specs.SameLaws.{state_equiv}
use Rattle.tabled_grid.proofs.SameLemmas.{exact_state}
use Rattle.tabled_grid.proofs.SameSites.{same_at_sites, same_by_sites}
use Rattle.tabled_border_claims.proofs.store.equal_where_same_is_kept.Goals as goal

pub returns-clause-sites : goal.returns-clause-sites
returns-clause-sites g c = λ a b. (same_at_sites g.T.PartialEq.eq a b, same_by_sites g.T.PartialEq.eq a b)

pub returns-clause-exact : goal.returns-clause-exact
returns-clause-exact g c = λ same a b. (
  λ h. exact_state (λ x y k. (same x y).0 k) a b h,
  λ e. subst (λ k. same_state g.T.PartialEq.eq a k ≡ true) e ((state_equiv (decided g.T.PartialEq.eq same)).refl a),
)
