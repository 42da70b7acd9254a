use Rattle.std.proofs.Common.{inl, inr, arith}
use Rattle.std.specs.Cmp.{nat_cmp_total}
use Rattle.std.proofs.lemmas.Bool.{cases_lt}
use Rattle.tabled_kept.proofs.SlotLemmas.{in_no_slot}
use Rattle.tabled_kept.proofs.SameGets.{same_decided, other_decided, differ, both_none}
use Rattle.tabled_kept.proofs.slots.Slots.is_same.Goals as goal

pub returns-then-ne : goal.returns-then-ne
returns-then-ne g c =
    other_decided nat_cmp_total g.V.PartialEq.eq c.args.self.now c.args.other.now c.loop-at.at
    (differ g.V.PartialEq.eq c.get.result c.get-in-loop-at.result _ _ c.get.ensures c.get-in-loop-at.ensures c.if-ne.ensures)

pub returns : goal.returns
returns g c =
    same_decided nat_cmp_total g.V.PartialEq.eq c.args.self.now c.args.other.now (λ k.
    elim (cases_lt k c.loop-at.at) [
      | inl less ↦ c.loop-at.invariant k less
      | inr more ↦ both_none g.V.PartialEq.eq _ _
          (in_no_slot c.self.inside.slots.items c.args.self.now c.self.view_is k (omega (arith, more, c.loop-at-test.false, c.max-most.ensures, c.len.ensures, c.len-2.ensures, c.self.inside.slots.ok.0)))
          (in_no_slot c.other.inside.slots.items c.args.other.now c.other.view_is k (omega (arith, more, c.loop-at-test.false, c.max-most.ensures, c.len.ensures, c.len-2.ensures, c.other.inside.slots.ok.0)))
    ])
