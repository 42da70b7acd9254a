-- The first characters, and then copies of the last ones.
use Rattle.std.proofs.Common.{◌-◌, ◌≡◌, ◌∙◌, ◌++◌, arith, string_bytes}
use Rattle.tabled_width.specs.Texts.{times}
use Rattle.tabled_width.proofs.TimesLemmas.{both_written, written_some, so_far}
use Rattle.tabled_width.proofs.repeat.push_copies.Goals as goal

pub returns-in_err-extend_from_within-clause-err : goal.returns-in_err-extend_from_within-clause-err
returns-in_err-extend_from_within-clause-err c =
    let all = c.loop-written.invariant in
    written_some c.from_residual-in_err-extend_from_within.result (λ n. string_bytes c.extend_from_within.new.self ≡ string_bytes c.args.text.now ++ times n c.args.character) c.loop-written.written
    (c.in_err-extend_from_within.ensures.bytes
    ∙ so_far (string_bytes c.args.text.now) _ (string_bytes c.loop-written.text) c.first_ones-written.result c.loop-written.written c.args.count c.min-more.result c.args.character
    c.in_ok-push_each.ensures.ok all.0 all.1 c.min-more.ensures)

pub returns-clause-ok : goal.returns-clause-ok
returns-clause-ok c =
    let all = c.loop-written.invariant in
    both_written _ _ _ c.first_ones-written.result (c.loop-written.written - c.first_ones-written.result) c.args.count c.args.character (omega (arith, all.1, all.2, c.loop-written-test.false)) c.in_ok-push_each.ensures.ok all.0
