-- Stores that are equal by an equality which only equal values have are one.
use Rattle.std.proofs.Common.{◌≡◌, Bool, true, refl, ap}
use Rattle.tabled_kept.proofs.ExactMaps.{IsExact, exact_options}
use Rattle.tabled_places.specs.declared.event.Written.TheVariants.{Sign as sign, Standing as standing}
use Rattle.tabled_places.specs.State.{state_at}
use Rattle.tabled_grid.specs.Same.{same_state, same_written}
use Rattle.tabled_grid.proofs.SameSites.{same_at_sites}
use Rattle.tabled_places.proofs.PuttingBack.{same_state as same_state_eq}

-- stores that keep the same by that equality keep the same
pub exact_state : {T : Type 0} {E : T → T → Bool} → IsExact E → IsExact (same_state E)
exact_state {T} {E} exact a b h = same_state_eq a b (λ q. exact_options by_sign (state_at a q) (state_at b q) (same_at_sites E a b h q))
  where
    by_sign : IsExact (same_written E)
    by_sign (sign x) (sign y) k = ap sign (exact x y k)
    by_sign standing standing k = refl
    by_sign v w k = absurd cc
