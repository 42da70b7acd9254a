-- The rows so far are without texts, and have room.
use Rattle.std.proofs.Common.{◌≡◌, [], replicate}
use Rattle.tabled_width.specs.Texts.{texts}
use Rattle.tabled_rows.specs.Rows.{HasRoom}
use Rattle.tabled_measure.proofs.edited.rows_without_texts.Given as goal

abbrev pub invariant-loop : goal.invariant-loop
invariant-loop l = record {
  texts : texts l.rows.items ≡ replicate l.counter [];
  room : HasRoom 0 l.rows.items;
}
