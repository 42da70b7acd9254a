-- The pieces one after the other.
use Rattle.std.proofs.Common.{◌++◌, codes, ◌∙◌}
use Rattle.tabled_viewing.proofs.saying.said_of_no_value.Goals as goal

pub returns : goal.returns
returns c = c.in_ok-format.ensures.ok ∙ (λ i. c.name-name.ensures i ++ (codes " has no value (" ++ (c.values-value.ensures i ++ codes ")")))
