use Rattle.std.proofs.Common.{◌≡◌, ℕ, ◌+◌, Bool, false, slice_index, slice_index_or, ap, ◌∙◌, arith}
use Rattle.tabled_rooms.specs.Growing.{size_part}
use Rattle.tabled_rooms.proofs.GrowLemmas.{room_more, whole_room}
use Rattle.tabled_rooms.proofs.growing.room_over.Goals as goal

pub loop-k-preserved : goal.loop-k-preserved
loop-k-preserved c =
    let drawn : ℕ → Bool = λ n. slice_index_or c.args.drawn.now n false in
    let part : c.in_ok-part.part ≡ size_part c.args.sizes.now drawn c.args.ask.first (c.args.ask.first + c.loop-k.k) =
    c.in_ok-part.ensures ∙ ap (λ m. slice_index c.args.sizes.now (c.args.ask.first + c.loop-k.k) + m) c.one_behind.ensures in
    c.in_ok-room.ensures ∙ room_more c.args.sizes.now drawn c.args.ask.first c.loop-k.k c.loop-k.room c.in_ok-part.part c.loop-k.invariant part

pub returns : goal.returns
returns c =
    let drawn : ℕ → Bool = λ n. slice_index_or c.args.drawn.now n false in
    whole_room c.args.sizes.now drawn c.args.ask c.loop-k.k c.loop-k.room (omega arith) c.loop-k.invariant
