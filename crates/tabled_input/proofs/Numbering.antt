-- Rows of which the first ones have a text before their cells.
use Rattle.std.proofs.Common.{◌≡◌, ℕ, zero, suc, ◌<◌, ◌≤◌, List, [], ◌∷◌, length, get_or, set, refl, ap, arith}
use Rattle.tabled_input.specs.Selection.{with_before}

-- the rows of which as many have theirs
abbrev pub before_to : ℕ → List (List ℕ) → List (List (List ℕ)) → List (List (List ℕ))
before_to zero texts rows = rows
before_to (suc count) [] rows = rows
before_to (suc count) (text ∷ texts) [] = []
before_to (suc count) (text ∷ texts) (cells ∷ rows) = (text ∷ cells) ∷ before_to count texts rows

pub next_left : (count : ℕ) (texts : List (List ℕ)) (rows : List (List (List ℕ))) → length texts ≡ length rows → get_or (before_to count texts rows) count [] ≡ get_or rows count []
next_left zero texts rows same = refl
next_left (suc count) [] rows same = refl
next_left (suc count) (text ∷ texts) [] same = refl
next_left (suc count) (text ∷ texts) (cells ∷ rows) same = next_left count texts rows (omega (arith, same))

pub next_put : (count : ℕ) (texts : List (List ℕ)) (rows : List (List (List ℕ))) → length texts ≡ length rows → count < length rows
    → set (before_to count texts rows) count (get_or texts count [] ∷ get_or rows count []) ≡ before_to (suc count) texts rows
next_put count [] [] same h = absurd (omega (arith, h))
next_put count [] (cells ∷ rows) same h = absurd (omega (arith, same))
next_put count (text ∷ texts) [] same h = absurd (omega (arith, same))
next_put zero (text ∷ texts) (cells ∷ rows) same h = refl
next_put (suc count) (text ∷ texts) (cells ∷ rows) same h = ap (λ more. (text ∷ cells) ∷ more) (next_put count texts rows (omega (arith, same)) (omega (arith, h)))

pub all_put : (count : ℕ) (texts : List (List ℕ)) (rows : List (List (List ℕ))) → length texts ≡ length rows → length rows ≤ count → before_to count texts rows ≡ with_before texts rows
all_put zero [] rows same h = refl
all_put zero (text ∷ texts) [] same h = absurd (omega (arith, same))
all_put zero (text ∷ texts) (cells ∷ rows) same h = absurd (omega (arith, h))
all_put (suc count) [] rows same h = refl
all_put (suc count) (text ∷ texts) [] same h = refl
all_put (suc count) (text ∷ texts) (cells ∷ rows) same h = ap (λ more. (text ∷ cells) ∷ more) (all_put count texts rows (omega (arith, same)) (omega (arith, h)))
