-- The rows of the values that were passed.
use Rattle.std.proofs.Common.{◌∷◌, map, take}
use Rattle.std.specs.List.{AllZip}
use Rattle.tabled_width.specs.Texts.{texts}
use Rattle.tabled_rows.specs.Spelled.{IsRow}
use Rattle.tabled_text.proofs.text_table.making.rows_of.Given as goal

abbrev pub invariant-loop-value : goal.invariant-loop-value
invariant-loop-value g l = AllZip IsRow (g.T.Tabled.known_headers ∷ map g.T.Tabled.known_fields (take l.value-index l.values)) (texts l.rows.items)
