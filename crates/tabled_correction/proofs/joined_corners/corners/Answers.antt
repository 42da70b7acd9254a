use Rattle.std.proofs.Common.{◌≡◌, List, [], ◌++◌, map, ◌∙◌}
use Rattle.tabled_places.specs.Writes.{writes_made}
use Rattle.tabled_places.proofs.EntityBorders.{nothing_written}
use Rattle.tabled_correction.specs.Correction.{Write, crossing_written}
use Rattle.tabled_correction.specs.Corners.{joined_corners, horizontal_drawn, vertical_drawn, corners_of}
use Rattle.tabled_correction.specs.Picture.{pictured}
use Rattle.tabled_correction.proofs.Adding.{from_nothing}
use Rattle.tabled_correction.proofs.joined_corners.corners.Goals as goal

pub returns : goal.returns
returns c =
    let picture = c.in_ok-picture.picture in
    let made = c.in_ok-picture.ensures in
    let joined : List Write = joined_corners (pictured picture) (horizontal_drawn picture.shape picture.cfg.now) (vertical_drawn picture.shape picture.cfg.now) in
    let are : joined ≡ corners_of c.args.shape c.args.cfg.now = λ i. joined_corners (made.pictured i) (horizontal_drawn (made.shape i) (made.config i)) (vertical_drawn (made.shape i) (made.config i)) in
    let added : c.join_corners.new.writes.items ≡ joined = from_nothing c.new-crossings.result.items c.join_corners.new.writes.items joined c.new-crossings.ensures.items c.in_ok-join_corners.ensures in
    let listed : c.deref.result.now ≡ corners_of c.args.shape c.args.cfg.now = c.deref.ensures.value ∙ added ∙ are in
    let first : writes_made c.new-writes.result.items ≡ [] = nothing_written c.new-writes.result.items c.new-writes.ensures.items in
    c.in_ok-push_all.ensures ∙ (λ i. first i ++ map crossing_written (listed i))
