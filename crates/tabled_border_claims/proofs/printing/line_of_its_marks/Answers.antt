use Rattle.std.proofs.Common.{if◌then◌else◌, [], ◌∷◌, ap}
use Rattle.tabled_places.specs.declared.place.LineOf.{LineOf}
use Rattle.tabled_printing.specs.Along.{along}
use Rattle.tabled_printing.proofs.MarkLemmas.{characters_of_marks}
use Rattle.tabled_border_claims.proofs.printing.line_of_its_marks.Goals as goal

pub returns : goal.returns
returns c = λ view row.
    ap (λ text. if view.horizontal row then text ∷ [] else [])
    (characters_of_marks view (along view.horizontal view.vertical view.shape view.widths view.heights (LineOf.Horizontal row)))
