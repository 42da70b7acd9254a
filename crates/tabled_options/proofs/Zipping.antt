-- Two lists side by side.
use Rattle.std.proofs.Common.{◌≡◌, ℕ, zero, suc, ◌-◌, min, List, [], ◌∷◌, ◌++◌, length, take, drop, refl, ap, sym, ◌∙◌, arith, zip}
use Rattle.std.proofs.lemmas.List.{length-drop, take_min}

module _ {K X : Type 0} where
  -- nothing is laid on places without letters
  pub zip-nil : (ks : List K) → zip {X = X} ks [] ≡ []
  zip-nil [] = refl
  zip-nil (k ∷ ks) = refl

  -- a list in two parts, beside the start and the rest of the other
  pub zip-append : (ks ls : List K) (xs : List X) → zip (ks ++ ls) xs ≡ zip ks xs ++ zip ls (drop (length ks) xs)
  zip-append [] ls xs = refl
  zip-append (k ∷ ks) ls [] = sym (zip-nil ls)
  zip-append (k ∷ ks) ls (x ∷ xs) = ap (λ rest. (k, x) ∷ rest) (zip-append ks ls xs)

  -- the first of either
  pub zip-take : (n : ℕ) (ks : List K) (xs : List X) → zip (take n ks) xs ≡ zip ks (take n xs)
  zip-take zero ks xs = sym (zip-nil ks)
  zip-take (suc n) (k ∷ ks) (x ∷ xs) = ap (λ rest. (k, x) ∷ rest) (zip-take n ks xs)
  zip-take n ks xs = refl

drop_in_two : {A : Type 0} (n : ℕ) (xs ys : List A) → drop n (xs ++ ys) ≡ drop n xs ++ drop (n - length xs) ys
drop_in_two zero xs ys = let none : 0 ≡ 0 - length xs = omega arith in ap (λ n. xs ++ drop n ys) none
drop_in_two (suc n) [] ys = let all : suc n ≡ suc n - 0 = omega arith in ap (λ k. drop k ys) all
drop_in_two (suc n) (x ∷ xs) ys = let less : n - length xs ≡ suc n - suc (length xs) = omega arith in drop_in_two n xs ys ∙ ap (λ k. drop n xs ++ drop k ys) less

drop_of_take : {A : Type 0} (n m : ℕ) (xs : List A) → drop n (take m xs) ≡ take (m - n) (drop n xs)
drop_of_take zero m xs = let all : m ≡ m - 0 = omega arith in ap (λ k. take k xs) all
drop_of_take (suc n) zero xs = let none : 0 ≡ 0 - suc n = omega arith in ap (λ k. take k (drop (suc n) xs)) none
drop_of_take (suc n) (suc m) [] = sym (take-nil (suc m - suc n))
  where
    take-nil : {A : Type 0} (k : ℕ) → take {A = A} k [] ≡ []
    take-nil zero = refl
    take-nil (suc k) = refl
drop_of_take (suc n) (suc m) (x ∷ xs) = let less : m - n ≡ suc m - suc n = omega arith in drop_of_take n m xs ∙ ap (λ k. take k (drop n xs)) less

-- letters laid from a start on, on places in two parts
pub laid_in_two : {K X : Type 0} (n : ℕ) (ks ls : List K) (xs : List X) → zip (drop n (ks ++ ls)) xs ≡ zip (drop n ks) xs ++ zip (drop (n - length ks) ls) (drop (length ks - n) xs)
laid_in_two n ks ls xs =
    ap (λ places. zip places xs) (drop_in_two n ks ls)
    ∙ zip-append (drop n ks) (drop (n - length ks) ls) xs
    ∙ ap (λ k. zip (drop n ks) xs ++ zip (drop (n - length ks) ls) (drop k xs)) (length-drop n ks)

-- on the first m places, as on all of them with no more letters than there is room for
pub laid_on_first : {K X : Type 0} (n m : ℕ) (ks : List K) (xs : List X) → zip (drop n (take m ks)) xs ≡ zip (drop n ks) (take (min m (length ks) - n) xs)
laid_on_first n m ks xs =
    let rest : List _ = drop n ks in
    let room : min (m - n) (length rest) ≡ min m (length ks) - n = omega (arith, length-drop n ks) in
    ap (λ places. zip places xs) (drop_of_take n m ks)
    ∙ ap (λ places. zip places xs) (sym (take_min (m - n) rest))
    ∙ zip-take (min (m - n) (length rest)) rest xs
    ∙ ap (λ k. zip rest (take k xs)) room
