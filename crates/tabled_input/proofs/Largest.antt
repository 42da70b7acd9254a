-- A line above a block of lines.
use Rattle.std.proofs.Common.{◌≡◌, ℕ, ◌+◌, ◌-◌, ◌<◌, ◌≤◌, min, List, ◌∷◌, length, get_or, drop, arith}
use Rattle.std.proofs.lemmas.Bool.Decides.{nat_tests}
use Rattle.std.proofs.lemmas.Grind.{common_steps}
use Rattle.tabled_input.specs.Spaced.{area, block_of, fewest, largest}
use Rattle.tabled_input.specs.declared.blocks.Block.{Block}

-- the lines from one more line on
pub one_more : (counts : List ℕ) (below : ℕ) → below < length counts → drop (length counts - (below + 1)) counts ≡ get_or counts (length counts - 1 - below) 0 ∷ drop (length counts - below) counts
one_more counts below inside = grind (arith, nat_tests, common_steps)

-- the fewest words
pub fewest_more : (lines : List ℕ) (count width : ℕ) → (0 < length lines → width ≡ fewest lines) → (length lines ≡ 0 → width ≡ 18446744073709551615) → count ≤ 18446744073709551615 → min width count ≡ fewest (count ∷ lines)
unfolding fewest
fewest_more lines count width more start most = grind (arith, common_steps)

-- the block is the largest, or it is not
pub largest_new : (lines : List ℕ) (count : ℕ) (best block : Block) → best ≡ largest lines → block ≡ block_of (count ∷ lines) → area best ≤ area block → block ≡ largest (count ∷ lines)
unfolding largest
largest_new lines count best block e f within = grind (arith, nat_tests, common_steps)

pub largest_old : (lines : List ℕ) (count : ℕ) (best block : Block) → best ≡ largest lines → block ≡ block_of (count ∷ lines) → area block < area best → best ≡ largest (count ∷ lines)
unfolding largest
largest_old lines count best block e f above = grind (arith, nat_tests, common_steps)

-- no lines
pub none_yet : (counts : List ℕ) → record { height = 0; width = 0 } ≡ largest (drop (length counts - 0) counts)
unfolding largest fewest
none_yet counts = grind (arith, nat_tests, common_steps)
