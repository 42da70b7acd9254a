use Rattle.tabled_printing.proofs.LookLemmas.{own_look}
use Rattle.tabled_border_claims.proofs.lists.look_of_what_is_shown.Goals as goal

pub returns : goal.returns
returns c = λ events cfg shape widths heights shows. own_look cfg events shape widths heights shows
