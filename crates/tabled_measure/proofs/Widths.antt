-- How wide columns are, one by one.
use Rattle.std.proofs.Common.{◌≡◌, ℕ, ◌<◌, List, [], ◌∷◌, map, length, get_or, refl, ap, sym, ◌∙◌, arith}
use Rattle.std.proofs.lemmas.List.{length-map, get_or-map, ext_get_or}
use Rattle.std.proofs.lemmas.List.FromFn.{get_or-map-range_with_len, length-map-range_with_len, fill_by_all}
use Rattle.tabled_width.specs.Texts.{Table}
use Rattle.tabled_measure.specs.Sizes.{column_count, column_width, column_widths}

pub count_widths : (table : Table) → length (column_widths table) ≡ column_count table
unfolding column_widths
count_widths table = length-map-range_with_len (column_width table) 0 (column_count table)

pub width-at : (table : Table) (col : ℕ) → col < column_count table → get_or (column_widths table) col 0 ≡ column_width table col
unfolding column_widths
width-at table col inside = get_or-map-range_with_len (column_width table) 0 (column_count table) col col 0 inside (omega arith)

pub widths-by : (widths : List ℕ) (table : Table) → length widths ≡ column_count table → ((col : ℕ) → col < column_count table → get_or widths col 0 ≡ column_width table col) → widths ≡ column_widths table
unfolding column_widths
widths-by widths table long each = fill_by_all (column_width table) widths (column_count table) 0 long each

-- what is made of each of some things is what is made of each of others
pub maps-by : {X Y A : Type 0} (f : X → A) (g : Y → A) (none : A) (xs : List X) (ys : List Y) (x : X) (y : Y) → length xs ≡ length ys
    → ((i : ℕ) → i < length ys → f (get_or xs i x) ≡ g (get_or ys i y)) → map f xs ≡ map g ys
maps-by f g none xs ys x y long same =
    ext_get_or none (map f xs) (map g ys) (length-map xs f ∙ long ∙ sym (length-map ys g))
    (λ i within.
    let here : i < length xs = omega (arith, within, length-map xs f) in
    let there : i < length ys = omega (arith, here, long) in
    get_or-map f xs i x none here ∙ same i there ∙ sym (get_or-map g ys i y none there))

-- a map of a map
pub mapped_twice : {A B C : Type 0} (f : B → C) (g : A → B) (xs : List A) → map (λ x. f (g x)) xs ≡ map f (map g xs)
mapped_twice f g [] = refl
mapped_twice f g (x ∷ xs) = ap (λ rest. f (g x) ∷ rest) (mapped_twice f g xs)
