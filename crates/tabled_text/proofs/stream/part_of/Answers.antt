-- A piece has as many bytes for each of its characters.
use Rattle.std.proofs.Common.{refl, ◌∙◌, rules}
use Rattle.std.specs.Char.{IsScalar}
use Rattle.tabled_width.proofs.TimesLemmas.{bytes_of_each, part_of, part_split}
use Rattle.tabled_text.proofs.stream.part_of.Goals as goal

pub range-requires-clause-end_boundary : goal.range-requires-clause-end_boundary
range-requires-clause-end_boundary c =
    let scalar : IsScalar c.args._character = search rules in
    part_split c.args.piece.now c.args.count c.args._character _ c.requires.piece c.requires.within (bytes_of_each c.args.piece.now _ c.args._character c.requires.piece refl) scalar

pub returns : goal.returns
returns c =
    c.range.ensures.value ∙ part_of c.args.piece.now c.args.count c.args._character _ c.requires.piece c.requires.within (bytes_of_each c.args.piece.now _ c.args._character c.requires.piece refl)
