use Rattle.tabled_color.proofs.Exact.{exact_shades, tied_shades}
use Rattle.tabled_border_claims.proofs.colors.equality_order_and_hash_agree.Goals as goal

pub returns-clause-order : goal.returns-clause-order
returns-clause-order c = λ a b. (λ h. exact_shades a b h, λ same. tied_shades a b same)
