-- One line more.
use Rattle.std.proofs.Common.{rules, string_bytes}
use Rattle.std.specs.List.{join_with_byte}
use Rattle.tabled_width.specs.Rows.{word_rows, wrapped_words}
use Rattle.tabled_width.proofs.Pieces.{lines_more, lines_end}
use Rattle.tabled_width.proofs.rows.wrapped_words.Goals as goal

pub loop-line-preserved : goal.loop-line-preserved
loop-line-preserved c = record {
  text = search rules;
  changed = lines_more (λ line. join_with_byte 10 (word_rows c.args.width line)) (string_bytes c.loop-line.out) (string_bytes c.push_words.new.out) (string_bytes c.push.new.self) _
      c.loop-line.rest.now c.in-Some.line.now c.in-Some.more.now c.loop-line.invariant.changed c.in-Some.ensures.pieces
      c.in_ok-push_words.ensures c.in_ok-push.ensures.bytes;
}

pub returns : goal.returns
unfolding wrapped_words
returns c =
    lines_end (λ line. join_with_byte 10 (word_rows c.args.width line)) (string_bytes c.loop-line.out) (string_bytes c.push_words-2.new.out) _
    c.loop-line.rest.now c.loop-line.invariant.changed c.in_default.ensures.pieces c.in_ok-push_words-2.ensures
