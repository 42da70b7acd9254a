-- The character is one more of the cell that goes on.
use Rattle.std.proofs.Common.{sym, subst}
use Rattle.std.proofs.lemmas.Str.{IsUtf8-encode}
use Rattle.tabled_input.specs.Joined.{AreTexts}
use Rattle.tabled_input.proofs.Joining.{grown, texts-append}
use Rattle.tabled_input.proofs.joined.JoinedRows.push.Goals as goal

pub invariant_of-self-2 : goal.invariant_of-self-2
invariant_of-self-2 c =
    let all = c.self.invariant in
    (subst (AreTexts c.self.inside.lengths.items) (sym c.in_ok-push.ensures.bytes) (texts-append _ _ _ all.0 (IsUtf8-encode c.args.character c.ranges.character.0)), all.1, all.2, all.3)

pub returns-clause-rows : goal.returns-clause-rows
returns-clause-rows c = (grown c.self.inside.counts.items _ _ _ c.self.view_is c.self.invariant.0 _ _ c.in_ok-push.ensures.bytes).0

pub returns-clause-row : goal.returns-clause-row
returns-clause-row c = (grown c.self.inside.counts.items _ _ _ c.self.view_is c.self.invariant.0 _ _ c.in_ok-push.ensures.bytes).1

pub returns-clause-cell : goal.returns-clause-cell
returns-clause-cell c = (grown c.self.inside.counts.items _ _ _ c.self.view_is c.self.invariant.0 _ _ c.in_ok-push.ensures.bytes).2
