-- Rows one of which is replaced.
use Rattle.std.proofs.Common.{◌≡◌, ◌≢◌, ℕ, ◌+◌, ◌<◌, ◌≤◌, List, [], map, length, get_or, set, sym, ap, subst, ◌∙◌, arith, String, string_bytes, get_or-set_other, get_or-set_same, inl, inr, ◌∷◌, ◌++◌, take, drop, min, suc, append-nil, add-zero, drop-drop}
use Rattle.std.specs.declared.vec.Vec.{Vec}
use Rattle.std.specs.List.{insert, remove, range_with_len}
use Rattle.std.proofs.lemmas.Bool.{cases_lt}
use Rattle.std.proofs.lemmas.List.{map-set, get_or-map, ext_get_or, length-map, map-append, take-map, drop-map, take_all, drop_all, get_or-drop}
use Rattle.std.proofs.lemmas.List.FromFn.{get_or-map-range_with_len, length-map-range_with_len}
use Rattle.std.proofs.Math.Seq.{map-set_same}
use Rattle.tabled_rows.specs.Rows.{row_texts}

-- what holds of each before an index, and of what is put there, holds of each up to it
pub each-more : {X : Type 0} (R : X → Type 0) (xs : List X) (i : ℕ) (new : X) → i < length xs → ((n : ℕ) (none : X) → n < i → R (get_or xs n none)) → R new
    → (n : ℕ) (none : X) → n < i + 1 → R (get_or (set xs i new) n none)
each-more R xs i new within before here n none below = elim (cases_lt n i) [
  | inl less ↦ let other : n ≢ i = omega arith in subst R (sym (get_or-set_other xs i n new none other)) (before n none less)
  | inr more ↦ let same : n ≡ i = omega arith in subst (λ k. R (get_or (set xs i new) k none)) (sym same) (subst R (sym (get_or-set_same xs i new none within)) here)
]

module _ {Z W : Type 0} where
  -- a row in whose place one with the same texts is put
  pub same-texts : (rows : List (Vec (String Z) W)) (i : ℕ) (new none : Vec (String Z) W) → new.items ≡ (get_or rows i none).items → row_texts (set rows i new) ≡ row_texts rows
  same-texts rows i new none same = map-set_same (λ (row : Vec (String Z) W). map string_bytes row.items) rows i new none (ap (map string_bytes) same)

  -- the others are as they were
  pub row-kept : (rows : List (Vec (String Z) W)) (i n : ℕ) (new : Vec (String Z) W) → n ≢ i → get_or (row_texts (set rows i new)) n [] ≡ get_or (row_texts rows) n []
  row-kept rows i n new other =
      ap (λ (texts : List (List (List ℕ))). get_or texts n []) (map-set (λ (row : Vec (String Z) W). map string_bytes row.items) rows i new)
      ∙ get_or-set_other (row_texts rows) i n (map string_bytes new.items) [] other

  -- the one that is put has its texts
  pub row-put : (rows : List (Vec (String Z) W)) (i : ℕ) (new : Vec (String Z) W) → i < length rows → get_or (row_texts (set rows i new)) i [] ≡ map string_bytes new.items
  row-put rows i new within =
      ap (λ (texts : List (List (List ℕ))). get_or texts i []) (map-set (λ (row : Vec (String Z) W). map string_bytes row.items) rows i new)
      ∙ get_or-set_same (row_texts rows) i (map string_bytes new.items) [] (let long = length-map rows (λ (row : Vec (String Z) W). map string_bytes row.items) in omega (arith, long))

  -- the texts of a row that stands at an index
  pub row-at : (rows : List (Vec (String Z) W)) (i : ℕ) (none : Vec (String Z) W) → i < length rows → get_or (row_texts rows) i [] ≡ map string_bytes (get_or rows i none).items
  row-at rows i none within = get_or-map (λ (row : Vec (String Z) W). map string_bytes row.items) rows i none [] within

  -- rows as many as others
  pub as-many : (rows others : List (Vec (String Z) W)) → length rows ≡ length others → length (row_texts rows) ≡ length (row_texts others)
  as-many rows others same = simp length-map same

-- the rows that were passed are as wanted, and one more
pub done-more : (P : ℕ → List (List ℕ) → Type 0) (before after : List (List (List ℕ))) (i : ℕ) (row : List (List ℕ)) → ((n : ℕ) → n < i → P n (get_or before n [])) → ((n : ℕ) → n ≢ i → get_or after n [] ≡ get_or before n [])
    → get_or after i [] ≡ row → P i row → (n : ℕ) → n < i + 1 → P n (get_or after n [])
done-more P before after i row done kept put here n below = elim (cases_lt n i) [
  | inl less ↦ let other : n ≢ i = omega arith in subst (P n) (sym (kept n other)) (done n less)
  | inr more ↦ let same : n ≡ i = omega arith in subst (λ k. P k (get_or after k [])) (sym same) (subst (P i) (sym put) here)
]

-- rows each of which is as wanted are the ones that are wanted
pub whole : (f : ℕ → List (List ℕ)) (rows : List (List (List ℕ))) (count i : ℕ) → length rows ≡ count → count ≤ i → ((n : ℕ) → n < i → get_or rows n [] ≡ f n) → rows ≡ map f (range_with_len 0 count)
whole f rows count i long past done =
    ext_get_or [] rows (map f (range_with_len 0 count)) (long ∙ sym (length-map-range_with_len f 0 count))
    (λ n within. done n (omega arith) ∙ sym (get_or-map-range_with_len f 0 count n n [] (omega arith) (omega arith)))

-- a text that is put in is put in among what is made of each
pub insert-map : {X Y : Type 0} (f : X → Y) (xs : List X) (i : ℕ) (x : X) → map f (insert xs i x) ≡ insert (map f xs) i (f x)
insert-map f xs i x = simp (map-append, take-map, drop-map)

-- past the end is at the end
pub insert-min : {X : Type 0} (xs : List X) (i n : ℕ) (x : X) → n ≡ length xs → insert xs (min i n) x ≡ insert xs i x
insert-min {X} xs i n x long = elim (cases_lt i n) [
  | inl less ↦ let same : min i n ≡ i = omega arith in ap (λ k. insert xs k x) same
  | inr more ↦ let same : min i n ≡ n = omega arith in
      ap (λ k. insert xs k x) same
      ∙ ap (λ (front : List X). front ++ x ∷ drop n xs) (take_all n xs (omega arith) ∙ sym (take_all i xs (omega arith)))
      ∙ ap (λ (back : List X). take i xs ++ x ∷ back) (drop_all n xs (omega arith) ∙ sym (drop_all i xs (omega arith)))
]

pub remove-map : {X Y : Type 0} (f : X → Y) (xs : List X) (i : ℕ) → map f (remove xs i) ≡ remove (map f xs) i
remove-map f xs i = simp (map-append, take-map, drop-map)

-- past the end nothing is removed
pub remove-past : {X : Type 0} (xs : List X) (i : ℕ) → length xs ≤ i → remove xs i ≡ xs
remove-past {X} xs i past = ap (λ (back : List X). take i xs ++ back) (drop_all (suc i) xs (omega arith)) ∙ append-nil (take i xs) ∙ take_all i xs past

-- rows in the place of others, each made of the one that stood there
pub whole-map : (f : List (List ℕ) → List (List ℕ)) (before rows : List (List (List ℕ))) (i : ℕ) → length rows ≡ length before → length before ≤ i → ((n : ℕ) → n < i → get_or rows n [] ≡ f (get_or before n [])) → rows ≡ map f before
whole-map f before rows i long past done =
    ext_get_or [] rows (map f before) (long ∙ sym (length-map before f))
    (λ n within. done n (omega arith) ∙ sym (get_or-map f before n [] [] (omega arith)))

-- the first of what is left of a list
pub next-of : {X : Type 0} (f : X → List ℕ) (xs : List X) (i : ℕ) → get_or (map f (drop i xs)) 0 [] ≡ get_or (map f xs) i []
next-of f xs i = ap (λ (texts : List (List ℕ)). get_or texts 0 []) (sym (drop-map f i xs)) ∙ get_or-drop i (map f xs) 0 [] ∙ ap (λ (k : ℕ). get_or (map f xs) k []) (add-zero i)

pub drop-after : {X : Type 0} (xs : List X) (i : ℕ) → drop 1 (drop i xs) ≡ drop (i + 1) xs
drop-after xs i = drop-drop 1 i xs
