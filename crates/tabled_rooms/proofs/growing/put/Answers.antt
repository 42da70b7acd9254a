use Rattle.tabled_rooms.proofs.GrowLemmas.{put_there}
use Rattle.tabled_rooms.proofs.growing.put.Goals as goal

pub returns-in_ok-push-clause-put : goal.returns-in_ok-push-clause-put
returns-in_ok-push-clause-put c = put_there (λ list. list.items) _ _ c.index-lists-ask.result _ c.args.ask c.if-ask-lists.true c.in_ok-push.ensures.items
