-- Loops that change each custom line in its place.
use Rattle.std.proofs.Common.{◌≡◌, ℕ, ◌+◌, ◌<◌, List, [], ◌∷◌, ◌++◌, length, take, drop, get_or, refl, ap, suc}
use Rattle.std.proofs.Math.ListN.{set}
use Rattle.std.proofs.lemmas.List.Edits.{map_over_more}
use Rattle.tabled_style.specs.Lines.{each_line}

-- an element of a list, whatever stands for a missing one
pub get_or-self : {X : Type 0} (xs : List X) (i : ℕ) (d : X) → get_or xs i d ≡ get_or xs i (get_or xs i d)
get_or-self (x ∷ xs) (suc i) d = get_or-self xs i d
get_or-self xs i d = refl

-- the line after those that are changed is changed
pub each-more : {L : Type 0} (change : L → L) (xs ys : List (ℕ × L)) (i : ℕ) (d : ℕ × L) → i < length xs
    → ys ≡ each_line change (take i xs) ++ drop i xs
    → set ys i ((get_or ys i d).0, change (get_or ys i d).1) ≡ each_line change (take (i + 1) xs) ++ drop (i + 1) xs
each-more change xs ys i d h e = map_over_more (λ line. (line.0, change line.1)) xs ys i (get_or ys i d) h e (get_or-self ys i d)

-- two changes of each line are one change
pub each_of_each : {L : Type 0} (f g : L → L) (lines : List (ℕ × L)) → each_line f (each_line g lines) ≡ each_line (λ line. f (g line)) lines
each_of_each f g [] = refl
each_of_each f g (line ∷ lines) = ap (λ more. (line.0, f (g line.1)) ∷ more) (each_of_each f g lines)
