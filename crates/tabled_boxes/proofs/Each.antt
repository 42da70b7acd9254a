-- A test that is computed over all arms holds of each.
use Rattle.std.proofs.Common.{◌≡◌, Bool, true, Option, None, Some}
use Rattle.std.specs.Prelude.{◌&&◌}
use Rattle.tabled_boxes.specs.declared.arms.Weight.{Weight}
use Rattle.tabled_boxes.specs.declared.arms.Weight.TheVariants.{Light, Heavy, Double}
use Rattle.tabled_boxes.specs.declared.arms.Arms.{Arms}
use Rattle.tabled_boxes.proofs.Alike.{and_parts}

abbrev pub of_each_arm : (Option Weight → Bool) → Bool
of_each_arm test = test None && (test (Some Light) && (test (Some Heavy) && test (Some Double)))

abbrev pub of_all_arms : (Arms → Bool) → Bool
of_all_arms test = of_each_arm (λ up. of_each_arm (λ down. of_each_arm (λ left. of_each_arm (λ right. test (record { up = up; down = down; left = left; right = right })))))

pub at_each_arm : (test : Option Weight → Bool) → of_each_arm test ≡ true → (arm : Option Weight) → test arm ≡ true
at_each_arm test h None = (and_parts (test None) (test (Some Light) && (test (Some Heavy) && test (Some Double))) h).0
at_each_arm test h (Some Light) =
    let more : (test (Some Light) && (test (Some Heavy) && test (Some Double))) ≡ true = (and_parts (test None) (test (Some Light) && (test (Some Heavy) && test (Some Double))) h).1 in
    (and_parts (test (Some Light)) (test (Some Heavy) && test (Some Double)) more).0
at_each_arm test h (Some Heavy) =
    let more : (test (Some Light) && (test (Some Heavy) && test (Some Double))) ≡ true = (and_parts (test None) (test (Some Light) && (test (Some Heavy) && test (Some Double))) h).1 in
    let last : (test (Some Heavy) && test (Some Double)) ≡ true = (and_parts (test (Some Light)) (test (Some Heavy) && test (Some Double)) more).1 in
    (and_parts (test (Some Heavy)) (test (Some Double)) last).0
at_each_arm test h (Some Double) =
    let more : (test (Some Light) && (test (Some Heavy) && test (Some Double))) ≡ true = (and_parts (test None) (test (Some Light) && (test (Some Heavy) && test (Some Double))) h).1 in
    let last : (test (Some Heavy) && test (Some Double)) ≡ true = (and_parts (test (Some Light)) (test (Some Heavy) && test (Some Double)) more).1 in
    (and_parts (test (Some Heavy)) (test (Some Double)) last).1

pub at_each : (test : Arms → Bool) → of_all_arms test ≡ true → (arms : Arms) → test arms ≡ true
at_each test h arms =
    let up : of_each_arm (λ down. of_each_arm (λ left. of_each_arm (λ right. test (record { up = arms.up; down = down; left = left; right = right })))) ≡ true =
    at_each_arm (λ up. of_each_arm (λ down. of_each_arm (λ left. of_each_arm (λ right. test (record { up = up; down = down; left = left; right = right }))))) h arms.up in
    let down : of_each_arm (λ left. of_each_arm (λ right. test (record { up = arms.up; down = arms.down; left = left; right = right }))) ≡ true =
    at_each_arm (λ down. of_each_arm (λ left. of_each_arm (λ right. test (record { up = arms.up; down = down; left = left; right = right })))) up arms.down in
    let left : of_each_arm (λ right. test (record { up = arms.up; down = arms.down; left = arms.left; right = right })) ≡ true =
    at_each_arm (λ left. of_each_arm (λ right. test (record { up = arms.up; down = arms.down; left = left; right = right }))) down arms.left in
    at_each_arm (λ right. test (record { up = arms.up; down = arms.down; left = arms.left; right = right })) left arms.right
