-- The cells so far, and those that are left to be looked at.
use Rattle.std.proofs.Common.{◌≡◌, ◌++◌, map, filter}
use Rattle.std.specs.Str.{bytes_eq}
use Rattle.tabled_object.specs.Listing.{alone}
use Rattle.tabled_text.specs.TextTable.{lent_texts}
use Rattle.tabled_viewing.specs.Outlines.{marked, text_at}
use Rattle.tabled_viewing.proofs.outlines.marked.Given as goal

abbrev pub invariant-loop-pos : goal.invariant-loop-pos
invariant-loop-pos l =
    goal.iterator-loop-pos.can_next l.pos-iterator ×
    goal.iterator-loop-pos.is_finite l.pos-iterator ×
    (l.cells.items ++ map alone (filter (λ pos. bytes_eq (text_at (lent_texts l.rows) pos) l.word) l.pos-iterator) ≡ marked (lent_texts l.rows) l.word)
