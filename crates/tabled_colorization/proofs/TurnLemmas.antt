-- Colors given in turn, one entity or one line of a table at a time.
use Rattle.std.proofs.Common.{◌≡◌, ℕ, zero, suc, ◌+◌, ◌-◌, ◌*◌, ◌^◌, ◌<◌, List, [], ◌∷◌, ◌++◌, map, length, take, slice_index_or, refl, sym, ap, ◌∙◌, arith}
use Rattle.std.specs.List.{flat_map, enumerate_from}
use Rattle.std.proofs.Math.Nat.{mul-le-mul_right}
use Rattle.std.proofs.lemmas.List.{map-append, flat_map_more}
use Rattle.std.proofs.lemmas.List.FromFn.{map-range_with_len_more}
use Rattle.std.proofs.lemmas.Grind.{flat_map-append}
use Rattle.tabled_border.specs.Texts.{Texts}
use Rattle.tabled_object.specs.declared.entity.Entity.{Entity}
use Rattle.tabled_object.specs.Entities.{below}
use Rattle.tabled_configuration.proofs.Below.{flat_map_below}
use Rattle.tabled_colorization.specs.Turns.{in_its_turn, in_turn, listing_in_turn}

-- one entity more
pub one_more : (colors : List Texts) (entity : ℕ → Entity × ℕ) (first old new : List (Entity × Texts)) (at : ℕ) → old ≡ first ++ in_turn colors (map entity (below at)) → new ≡ old ++ in_its_turn colors (entity at) → new ≡ first ++ in_turn colors (map entity (below (at + 1)))
one_more colors entity first old new at made is =
    is ∙ ap (λ front. front ++ in_its_turn colors (entity at)) made ∙ flat_map_more (in_its_turn colors) first (map entity (below at)) (entity at)
    ∙ ap (λ entities. first ++ flat_map (in_its_turn colors) entities) (sym (map-range_with_len_more entity 0 at at (omega arith)))

-- one line of a table more
pub line_more : (colors : List Texts) (line : ℕ → List (Entity × ℕ)) (old new : List (Entity × Texts)) (at : ℕ) → old ≡ in_turn colors (flat_map line (below at)) → new ≡ old ++ in_turn colors (line at) → new ≡ in_turn colors (flat_map line (below (at + 1)))
line_more colors line old new at made is =
    is ∙ ap (λ front. front ++ flat_map (in_its_turn colors) (line at)) made
    ∙ sym (flat_map-append (in_its_turn colors) (flat_map line (below at)) (line at))
    ∙ ap (flat_map (in_its_turn colors)) (sym (flat_map_below line at))

-- one of a listing more
next_number : (i : ℕ) → i + 1 ≡ suc i
next_number i = omega arith

enumerated_more : {X : Type 0} (start : ℕ) (xs : List X) (i : ℕ) (d : X) → i < length xs → enumerate_from start (take (suc i) xs) ≡ enumerate_from start (take i xs) ++ (start + i, slice_index_or xs i d) ∷ []
enumerated_more start [] i d h = absurd (omega arith)
enumerated_more start (x ∷ xs) zero d h = ap (λ n. (n, x) ∷ []) {x = start} {y = start + 0} (omega arith)
enumerated_more start (x ∷ xs) (suc i) d h =
    ap (λ rest. (start, x) ∷ rest) (enumerated_more (start + 1) xs i d (omega arith) ∙ ap (λ n. enumerate_from (start + 1) (take i xs) ++ (n, slice_index_or xs i d) ∷ []) {x = start + 1 + i} {y = start + suc i} (omega arith))

pub listed_more : (colors : List Texts) (entities : List Entity) (i : ℕ) (d : Entity) (old new : List (Entity × Texts)) → i < length entities → old ≡ listing_in_turn colors (take i entities) → new ≡ old ++ in_its_turn colors (slice_index_or entities i d, i) → new ≡ listing_in_turn colors (take (i + 1) entities)
listed_more colors entities i d old new here made is =
    is ∙ ap (λ front. front ++ in_its_turn colors (slice_index_or entities i d, i)) made
    ∙ flat_map_more (in_its_turn colors) [] (map (λ item. (item.1, item.0)) (enumerate_from 0 (take i entities))) (slice_index_or entities i d, i)
    ∙ ap (flat_map (in_its_turn colors)) (sym (
    ap (λ n. map (λ item. (item.1, item.0)) (enumerate_from 0 (take n entities))) (next_number i)
    ∙ ap (map (λ item. (item.1, item.0))) (enumerated_more 0 entities i d here)
    ∙ map-append (λ item. (item.1, item.0)) (enumerate_from 0 (take i entities)) ((0 + i, slice_index_or entities i d) ∷ [])
    ∙ ap (λ n. map (λ item. (item.1, item.0)) (enumerate_from 0 (take i entities)) ++ (slice_index_or entities i d, n) ∷ []) {x = 0 + i} {y = i} (omega arith)))

-- nothing is colored without colors
pub none_in_turn : (entities : List (Entity × ℕ)) → in_turn [] entities ≡ []
none_in_turn [] = refl
none_in_turn (entity ∷ entities) = none_in_turn entities

-- the number of a cell fits
pub number_fits : (line lines size : ℕ) → line < lines → lines < 2 ^ 64 → size < 2 ^ 64 → line * size + size < 2 ^ 128
number_fits line lines size h k m = omega (arith, mul-le-mul_right {m = line} {n = 2 ^ 64 - 1} size (omega arith))
