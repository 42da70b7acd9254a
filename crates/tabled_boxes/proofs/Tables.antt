-- The arrays of the code are the table's, and what the table tells of all arms: each by a test that is computed once.
use Rattle.std.proofs.Common.{◌≡◌, ℕ, zero, suc, ◌+◌, ◌*◌, ◌<◌, ◌≤◌, ◌⊎◌, Bool, true, false, refl, Option, None, Some, List, [], ◌∷◌, is_some, arith}
use Rattle.std.specs.Prelude.{◌&&◌, ◌==◌, not, nat_lt, nat_le, slice_index_or}
use Rattle.std.specs.List.{list_all}
use Rattle.std.specs.Bool.{Decides}
use Rattle.std.specs.Option.{option_eq, IfSome}
use Rattle.std.proofs.lemmas.Bool.Decides.{nat_tests, Decides-eqb, Decides-below_and}
use Rattle.std.proofs.lemmas.Grind.{common_steps}
use Rattle.tabled_boxes.specs.declared.characters.TheConstants.{ARMS, JOINED}
use Rattle.tabled_boxes.specs.declared.arms.Arms.{Arms}
use Rattle.tabled_boxes.specs.Table.{Drawn, table}
use Rattle.tabled_boxes.specs.Arms.{same_arms, arms_in, arms_of, join, is_drawn, weight_number}
use Rattle.tabled_boxes.proofs.Alike.{same_option-tells, same_arms-tells}
use Rattle.tabled_boxes.proofs.Each.{of_all_arms, at_each}

-- ---- the characters by their arms

abbrev pub place_of : Arms → ℕ
place_of arms = 64 * weight_number arms.up + 16 * weight_number arms.down + 4 * weight_number arms.left + weight_number arms.right

abbrev is_joined_there : Arms → Bool
is_joined_there arms = option_eq (λ a b. a == b) (slice_index_or JOINED (place_of arms) None) (join arms)

all_joined_there : of_all_arms is_joined_there ≡ true
unfolding join table
all_joined_there = refl

same_number-tells : (a b : ℕ) → (a == b) ≡ true → a ≡ b
same_number-tells a b h = (Decides-eqb a b).0 h

pub joined-there : (arms : Arms) → slice_index_or JOINED (place_of arms) None ≡ join arms
joined-there arms = same_option-tells (λ a b. a == b) same_number-tells (slice_index_or JOINED (place_of arms) None) (join arms) (at_each is_joined_there all_joined_there arms)

-- ---- which arms have a character

abbrev agree : Bool → Bool → Bool
agree true b = b
agree false b = not b

agree-tells : (a b : Bool) → agree a b ≡ true → a ≡ b
agree-tells true true h = refl
agree-tells true false h = cc
agree-tells false true h = cc
agree-tells false false h = refl

abbrev is_drawn_there : Arms → Bool
is_drawn_there arms = agree (is_some (join arms)) (is_drawn arms)

all_drawn_there : of_all_arms is_drawn_there ≡ true
unfolding join table is_drawn
all_drawn_there = refl

pub drawn-there : (arms : Arms) → is_some (join arms) ≡ is_drawn arms
drawn-there arms = agree-tells (is_some (join arms)) (is_drawn arms) (at_each is_drawn_there all_drawn_there arms)

-- ---- the character that arms have has those arms

abbrev has_arms : Option ℕ → Arms → Bool
has_arms None arms = true
has_arms (Some character) arms = option_eq same_arms (arms_of character) (Some arms)

all_arms_come_back : of_all_arms (λ arms. has_arms (join arms) arms) ≡ true
unfolding join arms_of table
all_arms_come_back = refl

has_arms-tells : (character : Option ℕ) (arms : Arms) → has_arms character arms ≡ true → IfSome character (λ c. arms_of c ≡ Some arms)
has_arms-tells None arms h = tt
has_arms-tells (Some c) arms h = same_option-tells same_arms same_arms-tells (arms_of c) (Some arms) h

pub arms-come-back : (arms : Arms) → IfSome (join arms) (λ c. arms_of c ≡ Some arms)
arms-come-back arms = has_arms-tells (join arms) arms (at_each (λ a. has_arms (join a) a) all_arms_come_back arms)

-- ---- the arms by the characters

abbrev is_listed_there : ℕ → Bool
is_listed_there k = option_eq same_arms (slice_index_or ARMS k None) (arms_of (0x2500 + k))

abbrev all_listed_below : ℕ → Bool
all_listed_below zero = true
all_listed_below (suc n) = is_listed_there n && all_listed_below n

all_listed : all_listed_below 128 ≡ true
unfolding arms_of table
all_listed = refl

listed-decides : (k : ℕ) → Decides (is_listed_there k) (is_listed_there k ≡ true)
listed-decides k = ((λ h. h), (λ h. h))

pub listed-there : (k : ℕ) → k < 128 → slice_index_or ARMS k None ≡ arms_of (0x2500 + k)
listed-there k below = same_option-tells same_arms same_arms-tells (slice_index_or ARMS k None) (arms_of (0x2500 + k)) ((Decides-below_and is_listed_there (λ n. is_listed_there n ≡ true) all_listed_below listed-decides refl (λ _. refl) 128).0 all_listed k below)

-- ---- no other character has arms

abbrev is_of_block : Drawn → Bool
is_of_block row = nat_le 0x2500 row.character && nat_lt row.character 0x2580

all_of_block : list_all is_of_block table ≡ true
unfolding table
all_of_block = refl

none_in : (rows : List Drawn) → list_all is_of_block rows ≡ true → (c : ℕ) → (c < 0x2500) ⊎ (0x2580 ≤ c) → arms_in rows c ≡ None
none_in [] h c outside = refl
none_in (row ∷ rows) h c outside = let rest : list_all is_of_block rows ≡ true → arms_in rows c ≡ None = λ more. none_in rows more c outside in grind (arith, nat_tests, common_steps, rest)

pub no-arms : (c : ℕ) → (c < 0x2500) ⊎ (0x2580 ≤ c) → arms_of c ≡ None
unfolding arms_of
no-arms c outside = none_in table all_of_block c outside
