-- The line as it is, or its rows.
use Rattle.std.proofs.Common.{◌++◌, refl, [], sym, ap, ◌∙◌, string_bytes}
use Rattle.std.specs.List.{join_with_byte, flat_map}
use Rattle.tabled_width.specs.Rows.{going_on, parts_of, words_from}
use Rattle.tabled_width.proofs.Filling.{words_short, words_long, rows_end}
use Rattle.tabled_width.proofs.rows.push_words.Goals as goal

pub returns-then-fits : goal.returns-then-fits
returns-then-fits c = c.in_ok-push_str.ensures.bytes ∙ ap (λ bs. string_bytes c.args.out.now ++ bs) (sym (words_short c.args.width c.args.line.now (sym c.fits.ensures ∙ c.if-fits.true)))

pub returns : goal.returns
returns c =
    rows_end (string_bytes c.put_piece-2.new.out) (string_bytes c.put_piece-2.new.row.text) (string_bytes c.push_str-2.new.self) _ c.args.width []
    (c.in_ok-put_piece.ensures.rows []
    ∙ ap (λ ps. going_on (string_bytes c.loop-piece.out) c.args.width (string_bytes c.loop-piece.row.text) (flat_map (parts_of c.args.width) (words_from c.loop-piece.gap ps))) (sym c.in_default.ensures.pieces)
    ∙ c.loop-piece.invariant.filled)
    refl (c.in_ok-push_str-2.ensures.bytes ∙ ap (λ bs. string_bytes c.put_piece-2.new.out ++ bs) c.as_str.ensures.value)
    ∙ ap (λ rs. string_bytes c.args.out.now ++ join_with_byte 10 rs) (sym (words_long c.args.width c.args.line.now (sym c.fits.ensures ∙ c.if-fits.false)))
