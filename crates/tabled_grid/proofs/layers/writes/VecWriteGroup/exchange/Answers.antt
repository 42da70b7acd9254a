use Rattle.std.proofs.Common.{◌≡◌, ◌+◌, ◌<◌, [], ◌∷◌, ◌++◌, length, get_or, take, drop, refl, ap, sym, subst, ◌∙◌, arith}
use Rattle.std.proofs.lemmas.List.{length-set, take_more, take_more_set, take-append-drop}
use Rattle.tabled_places.specs.Event.{Changes}
use Rattle.tabled_places.specs.State.{state_at}
use Rattle.tabled_places.proofs.EntityBorders.{nothing_written}
use Rattle.tabled_places.proofs.Replay.{Changes-nil}
use Rattle.tabled_places.proofs.WritesLemmas.{one_more_made, one_more_back, nothing_back_yet, entry_anew, same_behind, same_there}
use Rattle.tabled_places.proofs.WritingAnew.{stays_same, stays_then}
use Rattle.tabled_grid.proofs.layers.writes.VecWriteGroup.exchange.Goals as goal

pub loop-made-init : goal.loop-made-init
loop-made-init g c = record {
  within = omega arith;
  as_long = refl;
  behind = refl;
  made = subst (λ es. Changes es (state_at c.args.store.now) (state_at c.args.store.now)) (sym (nothing_written (take 0 c.args.self.now.items) refl)) (Changes-nil (state_at c.args.store.now));
  back = nothing_back_yet (take 0 c.args.self.now.items) c.args.store.now refl;
  stays = stays_same (state_at c.args.store.now);
}

pub loop-made-preserved : goal.loop-made-preserved
loop-made-preserved g c =
    let xs = c.loop-made.self.items in
    let ys = c.args.self.now.items in
    let i = c.loop-made.made in
    let entry = c.index_mut.result.now in
    let lt : i < length xs = omega (arith, c.len.ensures, c.loop-made-test.true) in
    let as_long : length xs ≡ length ys = c.loop-made.invariant.as_long in
    let lt_given : i < length ys = omega (arith, lt, as_long) in
    let longer : length _ ≡ length xs = length-set xs i c.exchange.new.self in
    let given : get_or ys i entry ≡ entry = sym (same_there xs ys i entry c.loop-made.invariant.behind) ∙ sym c.index_mut.ensures.value in record {
      within = omega (arith, lt, longer);
      as_long = longer ∙ as_long;
      behind = same_behind xs ys i c.exchange.new.self c.loop-made.invariant.behind;
      made = one_more_made (take (i + 1) ys) (take i ys) entry c.args.store.now c.loop-made.store c.exchange.new.store (take_more ys i entry lt_given ∙ ap (λ x. take i ys ++ x ∷ []) given) c.loop-made.invariant.made c.in-Ok.ensures.ok;
      back = one_more_back _ (take i xs) c.exchange.new.self c.args.store.now c.loop-made.store c.exchange.new.store (take_more_set xs i c.exchange.new.self lt) c.loop-made.invariant.back c.in-Ok.ensures.back;
      stays = stays_then _ _ _ c.loop-made.invariant.stays c.in-Ok.ensures.stays;
    }

pub returns-in-Err-clause-absent : goal.returns-in-Err-clause-absent
returns-in-Err-clause-absent g c =
    let xs = c.loop-made.self.items in
    let ys = c.args.self.now.items in
    let i = c.loop-made.made in
    let entry = c.index_mut.result.now in
    let lt : i < length ys = omega (arith, c.len.ensures, c.loop-made-test.true, c.loop-made.invariant.as_long) in
    let given : get_or ys i entry ≡ entry = sym (same_there xs ys i entry c.loop-made.invariant.behind) ∙ sym c.index_mut.ensures.value in
    entry_anew ys (take i ys) (drop (i + 1) ys) entry c.args.store.now c.loop-made.store
    (sym (take-append-drop (i + 1) ys) ∙ ap (λ ws. ws ++ drop (i + 1) ys) (take_more ys i entry lt ∙ ap (λ x. take i ys ++ x ∷ []) given))
    c.loop-made.invariant.stays c.in-Err.ensures.absent
