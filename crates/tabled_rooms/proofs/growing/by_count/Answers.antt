use Rattle.std.proofs.Common.{◌≤◌, [], length, ap, ◌∙◌, arith}
use Rattle.std.proofs.lemmas.List.{length-map, take_all}
use Rattle.std.proofs.lemmas.List.FromFn.{fill_by_all}
use Rattle.tabled_rooms.specs.Growing.{over_count}
use Rattle.tabled_rooms.proofs.growing.by_count.Goals as goal

pub returns : goal.returns
returns c =
    let all : length c.args.asks.now ≤ c.loop-ask.ask-index = omega arith in
    fill_by_all (over_count c.args.asks.now) _ c.args.limit [] (length-map c.loop-ask.lists.items _ ∙ c.loop-ask.invariant.counted)
    (λ n within. c.loop-ask.invariant.so_far n within ∙ ap (λ asks. over_count asks n) (take_all c.loop-ask.ask-index c.args.asks.now all))
