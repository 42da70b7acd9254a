-- One line more.
use Rattle.std.proofs.Common.{rules, ◌++◌, map, ap, ◌∙◌, string_bytes}
use Rattle.std.specs.List.{join_with_byte}
use Rattle.tabled_width.specs.Texts.{pieces}
use Rattle.tabled_width.specs.CutOff.{cut_off, truncated}
use Rattle.tabled_width.proofs.Pieces.{lines_more, lines_end}
use Rattle.tabled_width.proofs.cut_off.truncated.Goals as goal

pub loop-line-preserved : goal.loop-line-preserved
loop-line-preserved c = record {
  text = search rules;
  changed = lines_more (cut_off c.args.width (string_bytes c.in_ok-suffix.suffix)) (string_bytes c.loop-line.out) (string_bytes c.push_cut_off.new.out) (string_bytes c.push.new.self) _
      c.loop-line.rest.now c.in-Some.line.now c.in-Some.more.now c.loop-line.invariant.changed c.in-Some.ensures.pieces
      (c.in_ok-push_cut_off.ensures ∙ ap (λ bs. string_bytes c.loop-line.out ++ cut_off c.args.width bs c.in-Some.line.now) c.as_str.ensures.value) c.in_ok-push.ensures.bytes;
}

pub returns : goal.returns
unfolding truncated
returns c =
    lines_end (cut_off c.args.width (string_bytes c.in_ok-suffix.suffix)) (string_bytes c.loop-line.out) (string_bytes c.push_cut_off-2.new.out) _
    c.loop-line.rest.now c.loop-line.invariant.changed c.in_default.ensures.pieces
    (c.in_ok-push_cut_off-2.ensures ∙ ap (λ bs. string_bytes c.loop-line.out ++ cut_off c.args.width bs c.loop-line.rest.now) c.as_str-2.ensures.value)
    ∙ ap (λ bs. join_with_byte 10 (map (cut_off c.args.width bs) (pieces c.args.text.now))) c.in_ok-suffix.ensures
