use Rattle.std.proofs.Common.{◌&&◌, ap}
use Rattle.tabled_object.specs.Entities.{is_inside}
use Rattle.tabled_object.proofs.Sets.{covered_alike}
use Rattle.tabled_border_claims.proofs.objects.listed_without_order.Goals as goal

pub returns : goal.returns
returns c = λ these those rows cols cell same. ap (λ b. is_inside rows cols cell && b) (covered_alike these those cell same)
