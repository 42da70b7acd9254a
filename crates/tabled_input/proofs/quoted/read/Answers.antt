-- All characters are taken.
use Rattle.std.proofs.Common.{◌≡◌, ◌++◌, [], false, chars, sym, ap, ◌∙◌, map-id, append-nil}
use Rattle.std.proofs.lemmas.Iterator.{YieldsList-from_chars}
use Rattle.std.proofs.lemmas.Iterator.Consumers.{YieldsList-end}
use Rattle.tabled_input.specs.Quoted.{end_at}
use Rattle.tabled_input.specs.Reading.{going_on, rows_with}
use Rattle.tabled_input.proofs.quoted.read.Goals as goal

pub returns-clause-rows : goal.returns-clause-rows
returns-clause-rows c =
    let all = YieldsList-end (YieldsList-from_chars c.args.text.now c.utf8.text cc) c.loop-character.yielded _ c.loop-character.yielded_by _ _ c.in-None.is c.next.ensures.steps in
    let same : c.loop-character.yielded ++ [] ≡ chars c.args.text.now = append-nil _ ∙ sym (map-id c.loop-character.yielded) ∙ all.0 in
    c.in_ok-finish.ensures.rows ∙ c.loop-character.invariant.rows [] ∙ ap (λ cs. rows_with c.args.reader.now (going_on false cs)) same

pub returns-clause-end : goal.returns-clause-end
unfolding end_at
returns-clause-end c =
    let all = YieldsList-end (YieldsList-from_chars c.args.text.now c.utf8.text cc) c.loop-character.yielded _ c.loop-character.yielded_by _ _ c.in-None.is c.next.ensures.steps in
    let same : c.loop-character.yielded ++ [] ≡ chars c.args.text.now = append-nil _ ∙ sym (map-id c.loop-character.yielded) ∙ all.0 in
    c.in_ok-finish.ensures.end ∙ c.loop-character.invariant.end [] ∙ ap (λ cs. end_at c.args.reader.now.separator c.args.reader.now.at (going_on false cs)) same
