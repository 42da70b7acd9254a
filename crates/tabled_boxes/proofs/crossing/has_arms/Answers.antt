use Rattle.std.proofs.Common.{◌≡◌, IsTrue, Some, option_and_then, sym, ◌∙◌}
use Rattle.tabled_boxes.specs.Arms.{arms_of}
use Rattle.tabled_boxes.specs.contracts.arms.ArmsPartialEq.TheImpl.{eq-value}
use Rattle.tabled_boxes.proofs.Alike.{same_option-tells, eq-tells, eq-refl}
use Rattle.tabled_boxes.proofs.crossing.has_arms.Goals as goal

pub returns : goal.returns
returns c =
    let tells : IsTrue c.eq.result → option_and_then arms_of c.args.drawn ≡ Some c.args.arms =
    λ h. sym c.arms_drawn.ensures ∙ same_option-tells eq-value.it eq-tells c.arms_drawn.result (Some c.args.arms) (sym c.eq.ensures ∙ h) in
    let told : option_and_then arms_of c.args.drawn ≡ Some c.args.arms → IsTrue c.eq.result =
    λ same. c.eq.ensures ∙ rw (c.arms_drawn.ensures ∙ same) (eq-refl c.args.arms) in
    (tells, told)
