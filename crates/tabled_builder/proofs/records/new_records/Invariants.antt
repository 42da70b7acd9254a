-- The records so far are without texts, and have room.
use Rattle.std.proofs.Common.{◌≡◌, [], replicate}
use Rattle.tabled_width.specs.Texts.{texts}
use Rattle.tabled_rows.specs.Rows.{HasRoom}
use Rattle.tabled_builder.proofs.records.new_records.Given as goal

abbrev pub invariant-loop : goal.invariant-loop
invariant-loop l = record {
  texts : texts l.records.items ≡ replicate l.counter [];
  room : HasRoom l.width l.records.items;
}
