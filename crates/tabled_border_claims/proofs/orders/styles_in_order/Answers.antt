-- The markers of a type play no part.
use Rattle.std.proofs.Common.{◌≡◌, refl}
use Rattle.std.specs.Ordering.{ordering_then}
use Rattle.std.specs.declared.cmp.Ordering.{Ordering}
use Rattle.std.specs.declared.cmp.Ordering.TheVariants.{Less, Equal, Greater}
use Rattle.tabled_border_claims.proofs.orders.styles_in_order.Goals as goal

nothing_more : (o : Ordering) → ordering_then o Equal ≡ o
nothing_more Less = refl
nothing_more Equal = refl
nothing_more Greater = refl

pub returns-clause-border : goal.returns-clause-border
returns-clause-border g c = λ a b. nothing_more _

pub returns-clause-style : goal.returns-clause-style
returns-clause-style g c = λ a b. simp nothing_more
