-- Where the column could not be measured, the former text is put back.
use Rattle.std.proofs.Common.{◌<◌, length, map, string_bytes, String, Global, ap, ◌∙◌, arith}
use Rattle.std.specs.declared.vec.Vec.{Vec}
use Rattle.std.proofs.lemmas.List.{length-map}
use Rattle.tabled_width.specs.Texts.{texts}
use Rattle.tabled_measure.specs.Edited.{text_set}
use Rattle.tabled_measure.proofs.TextLemmas.{put_back}
use Rattle.tabled_measure.proofs.edited.replace_in.Goals as goal

pub returns-in-Err-clause-err : goal.returns-in-Err-clause-err
returns-in-Err-clause-err c =
    let table = texts c.args.rows.now in
    let inside : c.args.row < length table = let long = length-map c.args.rows.now (λ (row : Vec (String Global) Global). map string_bytes row.items) in omega (arith, long, c.requires.row) in
    c.swapped.ensures.texts
    ∙ ap (text_set c.args.row c.args.col (string_bytes c.swapped-former.result)) c.swapped-former.ensures.texts
    ∙ put_back c.args.row c.args.col (string_bytes c.args.text) (string_bytes c.swapped-former.result) table inside c.swapped-former.ensures.former
