-- The word, or the character, after what was written.
use Rattle.std.proofs.Common.{◌++◌, string_bytes, ap, ◌∙◌}
use Rattle.tabled_markdown.proofs.Written.{put_character, put_word}
use Rattle.tabled_markdown.proofs.source.put.Goals as goal

pub returns-in-Some : goal.returns-in-Some
returns-in-Some c = λ more. put_word _ _ c.in-Some.word.now c.args.before c.args.character more c.in-Some.ensures c.in_ok-push_str.ensures.bytes

pub returns : goal.returns
returns c = λ more.
    put_character (string_bytes c.args.written.now) _ _ c.args.before c.args.character more c.in_default.ensures
    (c.in_ok-push_str-2.ensures.bytes ∙ ap (λ bs. string_bytes c.args.written.now ++ bs) c.backslash.ensures) c.in_ok-push.ensures.bytes
