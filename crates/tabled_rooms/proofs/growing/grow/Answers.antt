use Rattle.std.proofs.Common.{◌≡◌, ◌+◌, ℕ, Bool, false, length, slice_index_or, sym, ap, ◌∙◌, arith}
use Rattle.std.proofs.lemmas.List.{length-map}
use Rattle.std.proofs.lemmas.List.FromFn.{length-map-range_with_len}
use Rattle.tabled_rooms.specs.Growing.{over_count}
use Rattle.tabled_rooms.proofs.GrowLemmas.{grown_more, all_grown, list_at}
use Rattle.tabled_rooms.proofs.growing.grow.Goals as goal

pub loop-list-preserved : goal.loop-list-preserved
loop-list-preserved c =
    let drawn : ℕ → Bool = λ n. slice_index_or c.args.drawn.now n false in
    grown_more drawn c.args.sizes.now c.loop-list.sizes c.grow_for_each.new.sizes c.args.asks.now c.as_slice.result.now c.loop-list.list-index c.loop-list.invariant
    (list_at (λ list. list.items) c.in_ok-lists.lists.items c.deref-list-items.result.now c.args.asks.now c.as_slice.result.now c.loop-list.list-index (length c.args.sizes.now + 1) c.list-item.result
    c.in_ok-lists.ensures c.deref-list-items.ensures.value c.loop-list-test.true c.list-item.is c.as_slice.ensures.value)
    c.in_ok-grow_for_each.ensures

pub returns : goal.returns
returns c =
    let drawn : ℕ → Bool = λ n. slice_index_or c.args.drawn.now n false in
    let count : length c.deref-list-items.result.now ≡ length c.args.sizes.now + 1 =
    ap length c.deref-list-items.ensures.value ∙ sym (length-map c.in_ok-lists.lists.items (λ list. list.items)) ∙ ap length c.in_ok-lists.ensures
    ∙ length-map-range_with_len (over_count c.args.asks.now) 0 (length c.args.sizes.now + 1) in
    all_grown drawn c.args.sizes.now c.loop-list.sizes c.args.asks.now c.loop-list.list-index (omega arith) c.loop-list.invariant
