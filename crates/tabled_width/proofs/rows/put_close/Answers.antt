-- The part is put on the row, or on the next.
use Rattle.std.proofs.Common.{◌≡◌, ◌∷◌, ◌++◌, sym, ap, ◌∙◌, string_bytes, take}
use Rattle.std.proofs.lemmas.List.{take_at}
use Rattle.std.proofs.lemmas.Str.{IsUtf8-string_bytes}
use Rattle.std.specs.List.{join_with_byte}
use Rattle.tabled_width.specs.Rows.{before, close}
use Rattle.tabled_width.specs.Texts.{fits, width_of_text}
use Rattle.tabled_width.proofs.Filling.{above, at_most, put_here, put_next, seam, len_is}
use Rattle.tabled_width.proofs.rows.put_close.Goals as goal

pub truncate-requires : goal.truncate-requires
truncate-requires c = λ within.
    let at = seam (string_bytes c.args.row.now.text) c.args.part.now (string_bytes c.push_str.new.self) c.len-end.result
    (IsUtf8-string_bytes c.args.row.now.text) c.in_ok-push_str.ensures.bytes (c.len-end.ensures ∙ sym (len_is c.args.row.now.text)) (IsUtf8-string_bytes c.push_str.new.self) in
    (at.0, λ some. at.1)

pub returns-then-taken-width-clause-rows : goal.returns-then-taken-width-clause-rows
returns-then-taken-width-clause-rows c =
    put_here (string_bytes c.args.out.now) (string_bytes c.args.row.now.text) (string_bytes c.push_str.new.self) c.args.width (close c.args.part.now) c.in_ok-push_str.ensures.bytes
    (at_most c.width_of-taken.result c.args.width (string_bytes c.push_str.new.self) (c.width_of-taken.ensures ∙ ap width_of_text c.as_str.ensures.value) c.if-taken-width.true)

pub returns-clause-rows : goal.returns-clause-rows
returns-clause-rows c =
    let kept : string_bytes c.truncate.new.self ≡ string_bytes c.args.row.now.text =
    c.truncate.ensures.bytes ∙ ap (take c.len-end.result) c.in_ok-push_str.ensures.bytes
    ∙ take_at (string_bytes c.args.row.now.text) c.args.part.now c.len-end.result (len_is c.args.row.now.text ∙ sym c.len-end.ensures) in
    put_next (string_bytes c.args.out.now) (string_bytes c.begin.new.out) (string_bytes c.args.row.now.text) (string_bytes c.begin.new.row.text) c.args.width (close c.args.part.now)
    (ap (fits c.args.width) (sym c.in_ok-push_str.ensures.bytes)
    ∙ above c.width_of-taken.result c.args.width (string_bytes c.push_str.new.self) (c.width_of-taken.ensures ∙ ap width_of_text c.as_str.ensures.value) c.if-taken-width.false)
    c.in_ok-begin.ensures.text
    (λ first more. c.in_ok-begin.ensures.rows first more ∙ ap (λ bs. string_bytes c.args.out.now ++ join_with_byte 10 (before bs (first ∷ more))) kept)
