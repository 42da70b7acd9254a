use Rattle.tabled_color.proofs.ColoringLemmas.{one_more_write}
use Rattle.tabled_color.proofs.border_color.option.add_write.Goals as goal

pub returns : goal.returns
returns c = one_more_write _ _ c.args.place _ _ c.in_ok-push.ensures.items c.in_ok-value.ensures
