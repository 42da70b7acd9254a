-- Each cell of the rows is looked at.
use Rattle.std.proofs.Common.{◌++◌, map, filter, sym, ◌∙◌}
use Rattle.std.specs.Str.{bytes_eq}
use Rattle.std.proofs.lemmas.List.{length-map}
use Rattle.tabled_object.specs.declared.entity.Entity.TheVariants.{Global}
use Rattle.tabled_object.specs.Entities.{cells_of}
use Rattle.tabled_object.specs.Listing.{alone}
use Rattle.tabled_printing.specs.Pieces.{lent}
use Rattle.tabled_text.specs.TextTable.{lent_texts}
use Rattle.tabled_viewing.specs.Outlines.{marked, text_at}
use Rattle.tabled_viewing.proofs.outlines.marked.Goals as goal

pub loop-pos-init : goal.loop-pos-init
unfolding marked
loop-pos-init c = (
  tt,
  tt,
  (λ i. c.new-cells.ensures.items i
      ++ map alone (filter (λ pos. bytes_eq (text_at (lent_texts c.args.rows.now) pos) c.args.word.now)
      ((c.into_iter-pos-iterator.ensures.into_iter_gives ∙ c.iter-pos-items.ensures ∙ (λ j. cells_of Global (sym (length-map c.args.rows.now (λ row. lent row.items)) j) (c.column_count.ensures j))) i))),
)
