use Rattle.tabled_object.proofs.Sets.{named_where_covered}
use Rattle.tabled_border_claims.proofs.objects.entities_have_what_they_cover.Goals as goal

pub returns : goal.returns
returns c = named_where_covered
