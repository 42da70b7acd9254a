use Rattle.std.proofs.Common.{◌∙◌}
use Rattle.tabled_object.specs.Listing.{listed}
use Rattle.tabled_places.specs.declared.site.Direction.TheVariants.{Horizontal, Vertical}
use Rattle.tabled_places.specs.declared.site.Spot.TheVariants.{Edge}
use Rattle.tabled_highlight.specs.Outline.{upper_right, lower_left, lower_right}
use Rattle.tabled_highlight.proofs.OutlineLaws.{table_covered, nothing_across, nothing_down}
use Rattle.tabled_border_claims.proofs.outlines.no_outline_between_alike.Goals as goal

pub returns-clause-across : goal.returns-clause-across
returns-clause-across g c = λ entities rows cols r c' given alike.
    let cells = listed entities rows cols in
    table_covered entities rows cols given (Edge Horizontal r c') ∙ nothing_across given.border (upper_right cells r c') (lower_right cells r c') alike

pub returns-clause-down : goal.returns-clause-down
returns-clause-down g c = λ entities rows cols r c' given alike.
    let cells = listed entities rows cols in
    table_covered entities rows cols given (Edge Vertical r c') ∙ nothing_down given.border (lower_left cells r c') (lower_right cells r c') alike
