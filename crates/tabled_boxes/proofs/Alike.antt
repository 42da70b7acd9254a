-- What the tests of equality tell.
use Rattle.std.proofs.Common.{◌≡◌, Bool, true, false, refl, sym, ◌∙◌, Option, None, Some}
use Rattle.std.specs.Prelude.{◌&&◌}
use Rattle.std.specs.Option.{option_eq}
use Rattle.tabled_boxes.specs.declared.arms.Weight.{Weight}
use Rattle.tabled_boxes.specs.declared.arms.Weight.TheVariants.{Light, Heavy, Double}
use Rattle.tabled_boxes.specs.declared.arms.Arms.{Arms}
use Rattle.tabled_boxes.specs.Arms.{same_weight, same_arm, same_arms}
use Rattle.tabled_boxes.specs.contracts.arms.ArmsPartialEq.TheImpl.{eq-value}
use Rattle.tabled_boxes.specs.contracts.arms.WeightPartialEq.TheImpl.{eq-value as weight_eq}

pub and_parts : (a b : Bool) → (a && b) ≡ true → (a ≡ true) × (b ≡ true)
and_parts true true h = (refl, refl)
and_parts true false h = (cc)
and_parts false b h = (cc)

pub same_weight-tells : (a b : Weight) → same_weight a b ≡ true → a ≡ b
same_weight-tells Light Light h = refl
same_weight-tells Light Heavy h = cc
same_weight-tells Light Double h = cc
same_weight-tells Heavy Light h = cc
same_weight-tells Heavy Heavy h = refl
same_weight-tells Heavy Double h = cc
same_weight-tells Double Light h = cc
same_weight-tells Double Heavy h = cc
same_weight-tells Double Double h = refl

pub same_option-tells : {T : Type 0} (same : T → T → Bool) → ((a b : T) → same a b ≡ true → a ≡ b) → (a b : Option T) → option_eq same a b ≡ true → a ≡ b
same_option-tells same tells None None h = refl
same_option-tells same tells None (Some y) h = cc
same_option-tells same tells (Some x) None h = cc
same_option-tells same tells (Some x) (Some y) h = let e : x ≡ y = tells x y h in cc

pub same_arms-tells : (a b : Arms) → same_arms a b ≡ true → a ≡ b
same_arms-tells a b h =
    let one : (same_arm a.up b.up ≡ true) × ((same_arm a.down b.down && (same_arm a.left b.left && same_arm a.right b.right)) ≡ true) = and_parts (same_arm a.up b.up) (same_arm a.down b.down && (same_arm a.left b.left && same_arm a.right b.right)) h in
    let two : (same_arm a.down b.down ≡ true) × ((same_arm a.left b.left && same_arm a.right b.right) ≡ true) = and_parts (same_arm a.down b.down) (same_arm a.left b.left && same_arm a.right b.right) one.1 in
    let three : (same_arm a.left b.left ≡ true) × (same_arm a.right b.right ≡ true) = and_parts (same_arm a.left b.left) (same_arm a.right b.right) two.1 in
    let up : a.up ≡ b.up = same_option-tells same_weight same_weight-tells a.up b.up one.0 in
    let down : a.down ≡ b.down = same_option-tells same_weight same_weight-tells a.down b.down two.0 in
    let left : a.left ≡ b.left = same_option-tells same_weight same_weight-tells a.left b.left three.0 in
    let right : a.right ≡ b.right = same_option-tells same_weight same_weight-tells a.right b.right three.1 in
    λ i. record { up = up i; down = down i; left = left i; right = right i }

same_weight-refl : (a : Weight) → same_weight a a ≡ true
same_weight-refl Light = refl
same_weight-refl Heavy = refl
same_weight-refl Double = refl

same_arm-refl : (a : Option Weight) → same_arm a a ≡ true
same_arm-refl None = refl
same_arm-refl (Some a) = same_weight-refl a

pub same_arms-refl : (a : Arms) → same_arms a a ≡ true
same_arms-refl a = rw (same_arm-refl a.up, same_arm-refl a.down, same_arm-refl a.left, same_arm-refl a.right)

-- ---- the derived comparison

weights-alike : (a b : Weight) → weight_eq.it a b ≡ same_weight a b
weights-alike Light Light = refl
weights-alike Light Heavy = refl
weights-alike Light Double = refl
weights-alike Heavy Light = refl
weights-alike Heavy Heavy = refl
weights-alike Heavy Double = refl
weights-alike Double Light = refl
weights-alike Double Heavy = refl
weights-alike Double Double = refl

arm-alike : (a b : Option Weight) → option_eq weight_eq.it a b ≡ same_arm a b
arm-alike None None = refl
arm-alike None (Some b) = refl
arm-alike (Some a) None = refl
arm-alike (Some a) (Some b) = weights-alike a b

arms-alike : (a b : Arms) → eq-value.it a b ≡ same_arms a b
arms-alike a b = rw (arm-alike a.up b.up, arm-alike a.down b.down, arm-alike a.left b.left, arm-alike a.right b.right)

pub eq-tells : (a b : Arms) → eq-value.it a b ≡ true → a ≡ b
eq-tells a b h = same_arms-tells a b (sym (arms-alike a b) ∙ h)

pub eq-refl : (a : Arms) → eq-value.it a a ≡ true
eq-refl a = arms-alike a a ∙ same_arms-refl a
