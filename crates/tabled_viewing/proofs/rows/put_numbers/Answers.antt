-- There are as many numbers as rows.
use Rattle.std.proofs.Common.{Global, length, string_bytes, ap, arith}
use Rattle.std.proofs.lemmas.List.{length-map}
use Rattle.std.proofs.lemmas.List.FromFn.{length-map-range_with_len}
use Rattle.tabled_input.specs.Selection.{first_number, number_text}
use Rattle.tabled_viewing.proofs.rows.put_numbers.Goals as goal

pub put_before-requires : goal.put_before-requires
put_before-requires c =
    let same = c.requires c.if-request.true in
    omega (arith, ap length same, length-map c.args.numbers.now (string_bytes {Z = Global}), length-map-range_with_len number_text (first_number c.args.request.has_header) (length c.args.rows.now))
